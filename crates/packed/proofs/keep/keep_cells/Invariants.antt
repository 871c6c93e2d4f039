-- `packed::keep::keep_cells` meets its contract.
use mathlib.Core.Path.{◌≡◌}
use Prim.Native.Nat.{◌≤◌}
use lib.ListN.{length}
use Rattle.packed.proofs.Turns.{Keeping}
use Rattle.packed.proofs.keep.keep_cells.Given as goal

abbrev pub invariant-loop-i : goal.invariant-loop-i
invariant-loop-i l = (length l.out ≡ length l.initial.out) × (l.at ≤ length l.out) × Keeping l.image l.initial.out l.out l.due.code l.due.events l.at l.i
