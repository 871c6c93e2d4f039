-- `sweeps::mark` meets its contract.
use Rattle.fates.proofs.Marking.{MarkedTo}
use Rattle.fates.proofs.sweeps.mark.Given as goal

abbrev pub invariant-loop-p : goal.invariant-loop-p
invariant-loop-p l = MarkedTo l.fate l.list l.initial.fates l.fates l.p-index
