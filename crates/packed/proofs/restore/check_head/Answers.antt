-- `packed::restore::check_head` meets its contract.
use Rattle.std.proofs.lemmas.Result.{err_from_is_err_and}
use mathlib.Core.Path.{◌≡◌, refl, ap₂, sym, ◌∙◌}
use Prim.Native.Nat.{ℕ, ◌+◌, ◌≤◌}
use native.Mathlib.Omega.{arith}
use lib.ListN.{length, take}
use Rattle.cells.specs.Check.{head_check}
use Rattle.packed.specs.Form.{Head, size}
use Rattle.packed.specs.Reading.{next_cell, cell_check}
use Rattle.packed.proofs.Widths.{head-size, head-taken}
use Rattle.packed.proofs.Walk.{taken_cut, taken_refused, taken-good}
use Rattle.packed.proofs.restore.check_head.Goals as goal
use Rattle.packed.proofs.restore.check_head.Goals.{After-half-2}

pub returns-then-s-lt-HEAD_SIZE : goal.returns-then-s-lt-HEAD_SIZE
returns-then-s-lt-HEAD_SIZE c =
    taken_cut Head c.args.position c.args.cell c.args.s.now c.requires refl (omega (arith, head-size c.args.s.now, c.if-s-lt-HEAD_SIZE.true))

-- the check of the cell is that of its bytes
checked : (c : After-half-2) → cell_check Head c.args.position c.args.cell (next_cell Head c.args.s.now)
    ≡ head_check c.args.position c.args.cell (c.half.result + c.half-2.result) (take 7 c.args.s.now)
checked c =
    let a = c.args in
    head-taken a.position a.cell a.s.now 7 c.if-s-lt-HEAD_SIZE.false _ (sym (head-size a.s.now)) (ap₂ (λ (x y : ℕ). x + y) c.half.ensures.0 c.half-2.ensures.0)

fits : (c : After-half-2) → size Head c.args.s.now ≤ length c.args.s.now
fits c = omega (arith, head-size c.args.s.now, c.if-s-lt-HEAD_SIZE.false)

pub returns-in_err-check_head : goal.returns-in_err-check_head
returns-in_err-check_head c =
    let a = c.args in
    let p = err_from_is_err_and c.from_residual.result c.from_residual.ensures.1 in
    rw (p.1, p.2)
    (taken_refused Head a.position a.cell a.s.now refl (fits (goal.at.returns-in_err-check_head c).After-half-2) _ (checked (goal.at.returns-in_err-check_head c).After-half-2 ∙ sym c.check_head.ensures ∙ c.in_err-check_head.was))

pub returns : goal.returns
returns c =
    let a = c.args in
    taken-good Head a.position a.cell a.s.now refl (fits (goal.at.returns c).After-half-2) 7 (sym (head-size a.s.now)) (checked (goal.at.returns c).After-half-2 ∙ sym c.check_head.ensures ∙ c.in_ok-check_head.was)
