-- `check` of `packed::restore::EventCell` meets its contract.
use mathlib.Core.Path.{◌≡◌, sym, ◌∙◌}
use mathlib.Core.Bool.{true}
use Prim.Native.Nat.{◌≤◌}
use native.Mathlib.Omega.{arith}
use lib.ListN.{length, take}
use Rattle.cells.specs.Answers.{unless}
use Rattle.cells.specs.Check.{row_ok}
use Rattle.cells.specs.Table.{event_row}
use Rattle.cells.specs.declared.refusal.Refusal.TheVariants.{Operand}
use Rattle.packed.specs.Form.{Event, size}
use Rattle.packed.specs.Reading.{known, next_cell, cell_check}
use Rattle.packed.proofs.Widths.{event_size, kind_known, kind_unknown, event_taken, taken_room}
use Rattle.packed.proofs.Walk.{taken-unknown, taken_cut, taken_unfit, taken_fit}
use Rattle.packed.proofs.restore.EventCellPromised.check.Goals as goal
use Rattle.packed.proofs.restore.EventCellPromised.check.Goals.{Else-s-gt-LAST_KIND, Else-s-lt-EVENT_SIZE}

pub returns-then-s-gt-LAST_KIND : goal.returns-then-s-gt-LAST_KIND
returns-then-s-gt-LAST_KIND c =
    taken-unknown Event c.args.position c.args.cell c.args.s.now c.requires (kind_unknown c.args.s.now c.if-s-gt-LAST_KIND.true)

kind : (c : Else-s-gt-LAST_KIND) → known Event c.args.s.now ≡ true
kind c = kind_known c.args.s.now c.if-s-gt-LAST_KIND.false

pub returns-then-s-lt-EVENT_SIZE : goal.returns-then-s-lt-EVENT_SIZE
returns-then-s-lt-EVENT_SIZE c =
    taken_cut Event c.args.position c.args.cell c.args.s.now c.requires (kind (goal.at.returns-then-s-lt-EVENT_SIZE c).Else-s-gt-LAST_KIND) (omega (arith, event_size c.args.s.now, c.if-s-lt-EVENT_SIZE.true))

pub operands_ok-requires : goal.operands_ok-requires
operands_ok-requires c = (taken_room c.args.s.now 15 event_row c.if-s-lt-EVENT_SIZE.false (sym (event_size c.args.s.now)), omega arith)

-- the check of the cell is that of its operands
checked : (c : Else-s-lt-EVENT_SIZE) → cell_check Event c.args.position c.args.cell (next_cell Event c.args.s.now)
    ≡ unless (row_ok event_row (take 15 c.args.s.now)) (Operand c.args.position c.args.cell)
checked c = let a = c.args in event_taken a.position a.cell a.s.now 15 c.if-s-lt-EVENT_SIZE.false (sym (event_size a.s.now)) (kind_known a.s.now c.if-s-gt-LAST_KIND.false)

fits : (c : Else-s-lt-EVENT_SIZE) → size Event c.args.s.now ≤ length c.args.s.now
fits c = omega (arith, event_size c.args.s.now, c.if-s-lt-EVENT_SIZE.false)

pub returns-then-not-operands_ok : goal.returns-then-not-operands_ok
returns-then-not-operands_ok c =
    let a = c.args in
    taken_unfit Event a.position a.cell a.s.now (kind (goal.at.returns-then-not-operands_ok c).Else-s-gt-LAST_KIND) (fits (goal.at.returns-then-not-operands_ok c).Else-s-lt-EVENT_SIZE) _ _ (checked (goal.at.returns-then-not-operands_ok c).Else-s-lt-EVENT_SIZE) (sym c.operands_ok.ensures ∙ c.if-not-operands_ok.true)

pub returns : goal.returns
returns c =
    let a = c.args in
    taken_fit Event a.position a.cell a.s.now (kind (goal.at.returns c).Else-s-gt-LAST_KIND) (fits (goal.at.returns c).Else-s-lt-EVENT_SIZE) _ _ (checked (goal.at.returns c).Else-s-lt-EVENT_SIZE) (sym c.operands_ok.ensures ∙ c.if-not-operands_ok.false) 15 (sym (event_size a.s.now))
