-- `events::by_sites` meets its contract.
use Rattle.fates.proofs.Sparing.{SparedTo}
use Rattle.fates.proofs.events.by_sites.Given as goal

abbrev pub invariant-loop-i : goal.invariant-loop-i
invariant-loop-i l = SparedTo l.activations l.writes l.events l.initial.fates l.fates l.i
