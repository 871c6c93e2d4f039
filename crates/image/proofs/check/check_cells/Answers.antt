-- `image::check::check_cells` meets its contract.
use mathlib.Core.Path.{◌≡◌, refl, ap, sym, ◌∙◌}
use Prim.Native.Nat.{◌+◌, ◌*◌, ◌/◌, ◌≤◌, ◌<◌}
use native.Mathlib.Omega.{arith}
use lib.ListN.{length, drop, drop_of_length-le}
use Rattle.std.proofs.lemmas.Result.{err_from_is_err_and}
use Rattle.cells.specs.Answers.{or_else}
use Rattle.cells.specs.Cells.{cells}
use Rattle.cells.proofs.Cells.{length-cells, part-cell}
use Rattle.cells.proofs.Answers.{or-good, or-refused}
use Rattle.image.specs.Image.{cell_check, cells_answer}
use Rattle.image.proofs.Steps.{cells_turn}
use Rattle.image.proofs.check.check_cells.Goals as goal
use Rattle.image.proofs.check.check_cells.Goals.{After-check_cell}

-- the answer at i, or what is left says it
turned : (c : After-check_cell)
    → cells_answer c.args.p c.args.position c.args.first (cells c.args.part.now) ≡ or_else c.check_cell.result (cells_answer c.args.p c.args.position (c.args.first + (c.loop-i.i + 1)) (drop (c.loop-i.i + 1) (cells c.args.part.now)))
turned c =
    let a = c.args in
    let s = a.part.now in
    let i = c.loop-i.i in
    let h : i < length s / 16 = c.loop-i-test.true in
    let hc : i < length (cells s) = omega (arith, length-cells s) in
    let room : 16 * i + 16 ≤ length s = omega arith in
    cells_turn a.p a.position a.first (cells s) i hc
    (c.check_cell.ensures ∙ ap (cell_check a.p a.position (a.first + i)) (part-cell s (16 * i) (16 * i + 16) i refl refl room))
    c.loop-i.invariant

pub loop-i-preserved : goal.loop-i-preserved
loop-i-preserved c = turned (goal.at.loop-i-preserved c).After-check_cell ∙ or-good _ c.in_ok-check_cell.was

pub returns : goal.returns
returns c =
    let a = c.args in
    let h : length (cells a.part.now) ≤ c.loop-i.i = omega (arith, length-cells a.part.now, c.loop-i-test.false) in
    sym (c.loop-i.invariant ∙ ap (cells_answer a.p a.position (a.first + c.loop-i.i)) (drop_of_length-le (cells a.part.now) h))

pub returns-in_err-check_cell : goal.returns-in_err-check_cell
returns-in_err-check_cell c =
    let p = err_from_is_err_and c.from_residual.result c.from_residual.ensures.1 in
    let e = c.in_err-check_cell.was in
    rw (p.1, p.2) (sym (turned (goal.at.returns-in_err-check_cell c).After-check_cell ∙ or-refused _ e ∙ e))
