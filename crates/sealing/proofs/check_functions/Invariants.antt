-- `sealing::check_functions` meets its contract.
use Rattle.sealing.proofs.Gathering.{Gathering}
use Rattle.sealing.proofs.check_functions.Given as goal

abbrev pub invariant-loop-function : goal.invariant-loop-function
invariant-loop-function l = Gathering l.w l.image l.initial.numbers l.numbers l.function-iterator.0.now l.position l.met
