-- `pages::put_functions` meets its contract.
use Rattle.pages.proofs.Laying.{Laying}
use Rattle.pages.proofs.put_functions.Given as goal

abbrev pub invariant-loop-f : goal.invariant-loop-f
invariant-loop-f l = Laying l.image l.initial.text l.text l.f-iterator.0.now l.to
