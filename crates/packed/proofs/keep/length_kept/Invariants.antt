-- `packed::keep::length_kept` meets its contract.
use Prim.Native.Nat.{◌-◌, ◌*◌, ◌≤◌}
use Rattle.packed.proofs.Counts.{Counting}
use Rattle.packed.proofs.keep.length_kept.Given as goal

abbrev pub invariant-loop-i : goal.invariant-loop-i
invariant-loop-i l = (l.i ≤ l.n) × (l.total ≤ 16 * l.i) × Counting l.image l.due.code l.due.events l.total l.i

abbrev pub decreases-loop-i : goal.decreases-loop-i
decreases-loop-i l = l.n - l.i
