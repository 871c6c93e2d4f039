-- `numbers::size_in` meets its contract.
use Rattle.numbers.proofs.Digits.{Reading}
use Rattle.numbers.proofs.size_in.Given as goal

abbrev pub invariant-loop-b : goal.invariant-loop-b
invariant-loop-b l = Reading l.digits l.n l.b-index
