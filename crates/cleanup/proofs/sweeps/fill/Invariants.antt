-- `cleanup::sweeps::fill` meets its contract: each turn writes its own number.
use Prim.Native.Nat.{◌-◌}
use lib.ListN.{length}
use Rattle.cells.proofs.Going.{Going}
use Rattle.cleanup.specs.Positions.{up_from}
use Rattle.cleanup.proofs.sweeps.fill.Given as goal

abbrev pub invariant-loop-i : goal.invariant-loop-i
invariant-loop-i l = let n = length l.initial.list in Going l.initial.list n (up_from 0 n) (up_from l.i (n - l.i)) l.list l.i l.i
