-- `passes::clean_functions` meets its contract.
use Rattle.passes.proofs.WholeImage.{Walked}
use Rattle.passes.proofs.clean_functions.Given as goal

abbrev pub invariant-loop-function : goal.invariant-loop-function
invariant-loop-function l = Walked l.image l.initial.out l.out l.function-iterator.0.now l.written.cells l.written.rewrites
