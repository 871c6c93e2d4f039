-- `cell_fate` meets its contract.
use Rattle.std.specs.Prelude.{Err}
use Rattle.std.proofs.lemmas.Result.{err_from_is_err_and}
use mathlib.Core.Path.{◌≡◌, sym, ◌∙◌, ap}
use mathlib.Core.List.{List}
use Prim.Native.Nat.{ℕ}
use Rattle.image.specs.Operations.{SiteChecked}
use Rattle.fates.specs.Answer.{image_fates, told_at, or_tell, fate_answer}
use Rattle.fates.proofs.Told.{fate_told}
use Rattle.fates.proofs.cell_fate.Goals as goal
use Rattle.cells.specs.Checked.{Checked}

by-site_check : (s : List ℕ) (k : ℕ) {c d : Checked} → SiteChecked s c → c ≡ d → or_tell d (told_at (image_fates s) k) ≡ fate_answer s k
unfolding fate_answer
by-site_check s k p e = ap (λ (x : Checked). or_tell x (told_at (image_fates s) k)) (sym e ∙ p.answer)

pub returns-in_err-site_check : goal.returns-in_err-site_check
returns-in_err-site_check c =
    let a = c.args in
    let p = err_from_is_err_and c.from_residual.result c.from_residual.ensures.1 in
    fate_told a.image.now a.cell (p.1 ∙ ap Err p.2 ∙ by-site_check a.image.now a.cell c.site_check.ensures c.in_err-site_check.was)

pub find-requires : goal.find-requires
find-requires c = sym c.site_check.ensures.answer ∙ c.in_ok-site_check.was

pub returns : goal.returns
returns c =
    let a = c.args in
    fate_told a.image.now a.cell (c.find.ensures ∙ by-site_check a.image.now a.cell c.site_check.ensures c.in_ok-site_check.was)
