-- `check` of `packed::restore::Instruction` meets its contract.
use mathlib.Core.Path.{◌≡◌, ap, sym, ◌∙◌}
use mathlib.Core.Bool.{true}
use Prim.Native.Nat.{◌≤◌}
use native.Mathlib.Omega.{arith}
use lib.ListN.{length, take}
use Rattle.cells.specs.Answers.{unless}
use Rattle.cells.specs.Check.{row_ok}
use Rattle.cells.specs.declared.refusal.Refusal.TheVariants.{Operand}
use Rattle.packed.specs.Form.{Code, row_size, size}
use Rattle.packed.specs.Reading.{known, next_cell, cell_check}
use Rattle.packed.proofs.Widths.{known_code, zero_unknown, past_unknown, code_taken, taken_room}
use Rattle.packed.proofs.Walk.{taken-unknown, taken_cut, taken_unfit, taken_fit}
use Rattle.packed.proofs.restore.InstructionPromised.check.Goals as goal
use Rattle.packed.proofs.restore.InstructionPromised.check.Goals.{then-command-eq0-via-then-command-eq0, then-command-eq0-via-else-command-eq0+then-command-gt-LAST_COMMAND, After-size_at-k, Else-s-k}

pub returns-then-command-eq0 : goal.returns-then-command-eq0
returns-then-command-eq0 c =
    let s = c.args.s.now in
    let e = c.from-command.ensures in
    taken-unknown Code c.args.position c.args.cell s c.requires (elim c.then-command-eq0.branch [
      | then-command-eq0-via-then-command-eq0 w ↦ zero_unknown s _ e w.if-command-eq0.true
      | then-command-eq0-via-else-command-eq0+then-command-gt-LAST_COMMAND w ↦ past_unknown s _ e w.if-command-gt-LAST_COMMAND.true
    ])

-- past the tests it is a command, and its size is that of its row
command : (c : After-size_at-k) → known Code c.args.s.now ≡ true
command c = known_code c.args.s.now _ c.from-command.ensures c.if-command-eq0.false (omega (arith, c.if-command-gt-LAST_COMMAND.false))

size_is : (c : After-size_at-k) → c.size_at-k.result ≡ size Code c.args.s.now
size_is c = c.size_at-k.ensures ∙ ap row_size c.from-command.ensures

pub returns-then-s-k : goal.returns-then-s-k
returns-then-s-k c =
    taken_cut Code c.args.position c.args.cell c.args.s.now c.requires (command (goal.at.returns-then-s-k c).After-size_at-k) (omega (arith, size_is (goal.at.returns-then-s-k c).After-size_at-k, c.if-s-k.true))

pub operands_ok-requires : goal.operands_ok-requires
operands_ok-requires c =
    (taken_room c.args.s.now c.size_at-k.result c.from-command.result c.if-s-k.false c.size_at-k.ensures, omega arith)

-- the check of the cell is that of its operands
checked : (c : Else-s-k) → cell_check Code c.args.position c.args.cell (next_cell Code c.args.s.now)
    ≡ unless (row_ok c.from-command.result (take c.size_at-k.result c.args.s.now)) (Operand c.args.position c.args.cell)
checked c =
    code_taken c.args.position c.args.cell c.args.s.now c.size_at-k.result c.if-s-k.false
    c.from-command.result (c.size_at-k.ensures ∙ ap row_size c.from-command.ensures) c.from-command.ensures
    (known_code c.args.s.now _ c.from-command.ensures c.if-command-eq0.false (omega (arith, c.if-command-gt-LAST_COMMAND.false)))

fits : (c : Else-s-k) → size Code c.args.s.now ≤ length c.args.s.now
fits c = omega (arith, c.size_at-k.ensures, ap row_size c.from-command.ensures, c.if-s-k.false)

pub returns-then-not-operands_ok : goal.returns-then-not-operands_ok
returns-then-not-operands_ok c =
    let a = c.args in
    taken_unfit Code a.position a.cell a.s.now (command (goal.at.returns-then-not-operands_ok c).After-size_at-k) (fits (goal.at.returns-then-not-operands_ok c).Else-s-k) _ _ (checked (goal.at.returns-then-not-operands_ok c).Else-s-k) (sym c.operands_ok.ensures ∙ c.if-not-operands_ok.true)

pub returns : goal.returns
returns c =
    let a = c.args in
    taken_fit Code a.position a.cell a.s.now (command (goal.at.returns c).After-size_at-k) (fits (goal.at.returns c).Else-s-k) _ _ (checked (goal.at.returns c).Else-s-k) (sym c.operands_ok.ensures ∙ c.if-not-operands_ok.false) _ (size_is (goal.at.returns c).After-size_at-k)
