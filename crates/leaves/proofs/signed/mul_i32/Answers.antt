-- `signed::mul_i32` meets its contract.
use Rattle.std.proofs.Common.{w32}
use Rattle.std.proofs.lemmas.Int.{wrapping_mul_is}
use Rattle.leaves.specs.Signed.{mul_i32}
use Rattle.leaves.proofs.Integers.{wrapped}
use Rattle.leaves.proofs.signed.mul_i32.Goals as goal

pub returns : goal.returns
unfolding mul_i32
returns c = wrapped _ (wrapping_mul_is w32 c.args.a c.args.b c.ranges.a c.ranges.b)
