-- `cells::check::check_instruction` meets its contract.
use mathlib.Core.Path.{◌≡◌, ap, ◌∙◌}
use Prim.Native.Nat.{ℕ, ◌≤◌, ◌<◌}
use native.Mathlib.Omega.{arith}
use Rattle.cells.specs.Bytes.{byte}
use Rattle.cells.specs.Check.{row_ok}
use Rattle.cells.proofs.Rows.{row_fits}
use Rattle.cells.proofs.Checks.{instruction_none, instruction_many, instruction_row}
use Rattle.cells.proofs.check.check_instruction.Goals as goal
use Rattle.cells.proofs.check.check_instruction.Goals.{then-command-eq0-via-then-command-eq0, then-command-eq0-via-else-command-eq0+then-command-gt-LAST_COMMAND}

pub returns-then-command-eq0 : goal.returns-then-command-eq0
returns-then-command-eq0 c =
    let a = c.args in
    elim c.then-command-eq0.branch [
      | then-command-eq0-via-then-command-eq0 w ↦ instruction_none a.position a.at a.c.now (omega arith)
      | then-command-eq0-via-else-command-eq0+then-command-gt-LAST_COMMAND w ↦ instruction_many a.position a.at a.c.now (omega arith)
    ]

pub returns : goal.returns
returns c =
    let a = c.args in
    let s = a.c.now in
    let w = c.from-command in
    let some : (byte s 0 ≡ 0 → ⊥) = λ z. c.if-command-eq0.false (w.ensures ∙ z) in
    let small : byte s 0 ≤ 81 = omega arith in
    c.unless.ensures ∙ instruction_row a.position a.at s _ some small (c.operands_ok.ensures ∙ ap (λ (n : ℕ). row_ok n s) w.ensures)

-- a cell has room for every row
pub operands_ok-requires : goal.operands_ok-requires
operands_ok-requires c =
    let n = c.from-command.result in
    let h : n < 84 = omega arith in
    (omega (arith, row_fits n h, c.requires), h)
