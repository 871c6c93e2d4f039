-- `packed::restore::check_run` meets its contract.
use Prim.Native.Nat.{◌+◌, ◌≤◌}
use lib.ListN.{length}
use Rattle.packed.proofs.Turns.{Checking}
use Rattle.packed.proofs.restore.check_run.Given as goal

abbrev pub invariant-loop-i : goal.invariant-loop-i
invariant-loop-i g l = (l.at ≤ length l.s) × (l.cell + l.i ≤ 4096) × Checking g.P.Promised.role l.s l.n l.position l.cell l.at l.i
