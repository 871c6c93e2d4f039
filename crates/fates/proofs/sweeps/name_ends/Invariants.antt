-- `sweeps::name_ends` meets its contract.
use Prim.Native.Nat.{◌/◌}
use lib.ListN.{length}
use Rattle.cleanup.specs.Positions.{see_at}
use Rattle.fates.proofs.Marking.{NamedTo}
use Rattle.fates.proofs.sweeps.name_ends.Given as goal

abbrev pub invariant-loop-at : goal.invariant-loop-at
invariant-loop-at l = NamedTo l.first (see_at l.code) (length l.code / 16) l.initial.fates l.fates l.end l.at
