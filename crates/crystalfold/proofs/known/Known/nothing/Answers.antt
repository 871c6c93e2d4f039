-- `Known::nothing` meets its contract.
use Rattle.std.proofs.Common.{refl, arith}
use Rattle.crystalfold.proofs.Written.{nothing_known, since_nothing}
use Rattle.crystalfold.proofs.known.Known.nothing.Goals as goal

pub invariant_of-result : goal.invariant_of-result
invariant_of-result c = since_nothing (omega arith) (nothing_known _ refl)

pub returns-clause-nothing : goal.returns-clause-nothing
returns-clause-nothing c = nothing_known _ refl
