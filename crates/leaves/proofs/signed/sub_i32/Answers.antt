-- `signed::sub_i32` meets its contract.
use Rattle.std.proofs.Common.{w32}
use Rattle.std.proofs.lemmas.Int.{wrapping_sub_is}
use Rattle.leaves.specs.Signed.{sub_i32}
use Rattle.leaves.proofs.Integers.{wrapped}
use Rattle.leaves.proofs.signed.sub_i32.Goals as goal

pub returns : goal.returns
unfolding sub_i32
returns c = wrapped _ (wrapping_sub_is w32 c.args.a c.args.b c.ranges.a c.ranges.b)
