-- `packed::restore::put_restored` meets its contract.
use mathlib.Core.Path.{sym, ◌∙◌}
use native.Mathlib.Omega.{arith}
use borrow.Author.Tests.{ltb-false}
use Rattle.packed.proofs.Puts.{restored_put}
use Rattle.packed.proofs.restore.put_restored.Goals as goal
use Rattle.packed.proofs.restore.put_restored.Goals.{then-s-lt-CELL, else-s-lt-CELL}

pub returns-else-out : goal.returns-else-out
returns-else-out c =
    elim c.if-s-lt-CELL.branch [
      | then-s-lt-CELL w ↦ absurd (omega (arith, w.if-s-lt-CELL.true, ltb-false _ _ (sym w.value-is ∙ c.if-out.false)))
      | else-s-lt-CELL w ↦ restored_put c.args.s.now c.args.k c.args.out.now _ _ w.if-s-lt-CELL.false (ltb-false _ _ (sym w.value-is ∙ c.if-out.false)) c.requires.1 c.put_cell.ensures c.copy.ensures.1
    ]
