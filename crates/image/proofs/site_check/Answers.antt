-- `image::site_check` meets its contract.
use mathlib.Core.Path.{◌≡◌, refl, sym, ◌∙◌}
use Rattle.std.proofs.lemmas.Result.{err_from_is_err_and}
use mathlib.Core.List.{List}
use Prim.Native.Nat.{ℕ}
use Rattle.cells.specs.Cells.{cells}
use Rattle.cells.specs.Functions.{functions}
use Rattle.cells.specs.declared.refusal.Refusal.{Refusal}
use Rattle.cells.proofs.Answers.{halts, goes}
use Rattle.image.specs.Image.{image_answer}
use Rattle.image.specs.SiteCheck.{sites_answer, site_answer}
use Rattle.image.specs.Operations.{SiteChecked}
use Rattle.image.proofs.Good.{site_checked}
use Rattle.image.proofs.site_check.Goals as goal
use Rattle.std.specs.Prelude.{Ok, Err}
use Rattle.cells.specs.Checked.{Checked}

by_image : (s : List ℕ) {r : Checked} {x : Refusal} → r ≡ image_answer s → r ≡ Err x → SiteChecked s r
unfolding site_answer
by_image s {r} e z = site_checked s r (halts (sites_answer 0 (functions (cells s))) e z)

by_sites : (s : List ℕ) {r q : Checked} → r ≡ image_answer s → r ≡ Ok tt → q ≡ sites_answer 0 (functions (cells s)) → SiteChecked s q
unfolding site_answer
by_sites s {r} {q} e g f = site_checked s q (goes e g f)

pub returns-in_err-check_image : goal.returns-in_err-check_image
returns-in_err-check_image c =
    let p = err_from_is_err_and c.from_residual.result c.from_residual.ensures.1 in
    let e = c.in_err-check_image.was in
    rw (p.1, p.2) (by_image c.args.image.now (sym e ∙ c.check_image.ensures) refl)

pub returns : goal.returns
returns c = by_sites c.args.image.now c.check_image.ensures c.in_ok-check_image.was c.check_functions.ensures

pub check_functions-requires : goal.check_functions-requires
check_functions-requires c = sym c.check_image.ensures ∙ c.in_ok-check_image.was
