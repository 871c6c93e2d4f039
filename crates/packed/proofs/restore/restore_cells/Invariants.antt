-- `packed::restore::restore_cells` meets its contract.
use mathlib.Core.Path.{◌≡◌}
use Prim.Native.Nat.{◌-◌, ◌≤◌}
use lib.ListN.{length}
use Rattle.packed.proofs.Runs.{Restoring}
use Rattle.packed.proofs.restore.restore_cells.Given as goal

abbrev pub invariant-loop-to : goal.invariant-loop-to
invariant-loop-to l = (length l.out ≡ length l.initial.out) × (l.to ≤ length l.out) × (l.at ≤ length l.packed) × Restoring l.packed l.out l.at l.to

abbrev pub decreases-loop-to : goal.decreases-loop-to
decreases-loop-to l = length l.out - l.to
