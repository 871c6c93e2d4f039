-- `image::check::check_function` meets its contract.
use mathlib.Core.Path.{sym, ◌∙◌}
use Rattle.std.proofs.lemmas.Result.{err_from_is_err_and}
use Rattle.cells.proofs.Answers.{halts, goes}
use Rattle.image.proofs.Steps.{head_said, events_said}
use Rattle.image.proofs.check.check_function.Goals as goal

pub returns-in_err-check_head : goal.returns-in_err-check_head
returns-in_err-check_head c =
    let a = c.args in
    let f = a.f in
    let p = err_from_is_err_and c.from_residual.result c.from_residual.ensures.1 in
    let e = c.in_err-check_head.was in
    rw (p.1, p.2) (sym e ∙ halts _ (head_said f.head.now f.code.now f.events.now a.position a.at c.check_head.ensures) e)

pub returns-in_err-check_cells : goal.returns-in_err-check_cells
returns-in_err-check_cells c =
    let a = c.args in
    let f = a.f in
    let r = c.from_residual-in_err-check_cells in
    let p = err_from_is_err_and r.result r.ensures.1 in
    let e = c.in_err-check_cells.was in
    rw (p.1, p.2) (sym e ∙ goes (head_said f.head.now f.code.now f.events.now a.position a.at c.check_head.ensures) c.in_ok-check_head.was (halts _ c.check_cells.ensures e))

pub returns : goal.returns
returns c =
    let a = c.args in
    let f = a.f in
    goes (head_said f.head.now f.code.now f.events.now a.position a.at c.check_head.ensures) c.in_ok-check_head.was
    (goes c.check_cells.ensures c.in_ok-check_cells.was (events_said f.code.now f.events.now a.position a.at c.check_cells-2.ensures))
