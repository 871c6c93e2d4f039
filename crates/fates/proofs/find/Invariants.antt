-- `find` meets its contract.
use Rattle.fates.proofs.Finding.{Finding}
use Rattle.fates.proofs.find.Given as goal

abbrev pub invariant-loop-f : goal.invariant-loop-f
invariant-loop-f l = Finding l.image l.cell l.f-iterator.0.now l.at
