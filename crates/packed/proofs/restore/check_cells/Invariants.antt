-- `packed::restore::check_cells` meets its contract.
use Prim.Native.Nat.{◌-◌, ◌≤◌}
use lib.ListN.{length}
use Rattle.packed.proofs.Checks.{Going}
use Rattle.packed.proofs.restore.check_cells.Given as goal

abbrev pub invariant-loop-at : goal.invariant-loop-at
invariant-loop-at l = (l.at ≤ length l.packed) × (l.cell ≤ 4096) × (l.position ≤ l.cell) × Going l.packed l.position l.at l.cell

abbrev pub decreases-loop-at : goal.decreases-loop-at
decreases-loop-at l = length l.packed - l.at
