-- `pages::pages` meets its contract.
use Rattle.std.proofs.lemmas.Result.{err_from_is_err_and}
use mathlib.Core.Path.{◌≡◌, sym, ◌∙◌}
use native.Mathlib.Omega.{arith}
use Rattle.image.specs.SiteCheck.{site_answer}
use Rattle.image.proofs.Good.{site-good}
use Rattle.pages.proofs.Lines.{text_size}
use Rattle.pages.proofs.Done.{pages_refused, pages_short, pages_laid}
use Rattle.pages.proofs.pages.Goals as goal
use Rattle.pages.proofs.pages.Goals.{In_ok-site_check}
use Rattle.std.specs.Prelude.{Ok}

pub returns-in_err-site_check : goal.returns-in_err-site_check
returns-in_err-site_check c =
    let a = c.args in
    let p = err_from_is_err_and c.from_residual.result c.from_residual.ensures.1 in
    rw (p.1, p.2) (pages_refused a.image.now a.out.now _ _ c.site_check.ensures.answer c.in_err-site_check.was)

-- past the check, the image is accepted
good : (c : In_ok-site_check) → site_answer c.args.image.now ≡ Ok tt
good c = sym c.site_check.ensures.answer ∙ c.in_ok-site_check.was

pub count_lines-lines-requires : goal.count_lines-lines-requires
count_lines-lines-requires c = good c

pub returns-then-out-lines : goal.returns-then-out-lines
returns-then-out-lines c =
    let a = c.args in
    let s = a.image.now in
    let g = good (goal.at.returns-then-out-lines c).In_ok-site_check in
    pages_short s a.out.now g (omega (arith, text_size s ((site-good s).0 g), c.count_lines-lines.ensures.0))

pub put_functions-requires : goal.put_functions-requires
put_functions-requires c =
    let a = c.args in
    let s = a.image.now in
    let g = good (goal.at.put_functions-requires c).In_ok-site_check in
    (g, omega (arith, text_size s ((site-good s).0 g), c.count_lines-lines.ensures.0))

pub returns : goal.returns
returns c =
    let a = c.args in
    let s = a.image.now in
    let g = good (goal.at.returns c).In_ok-site_check in
    pages_laid s a.out.now g (omega (arith, text_size s ((site-good s).0 g), c.count_lines-lines.ensures.0)) c.put_functions.ensures
