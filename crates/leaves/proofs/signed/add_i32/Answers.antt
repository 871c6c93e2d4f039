-- `signed::add_i32` meets its contract.
use Rattle.std.proofs.Common.{w32}
use Rattle.std.proofs.lemmas.Int.{wrapping_add_is}
use Rattle.leaves.specs.Signed.{add_i32}
use Rattle.leaves.proofs.Integers.{wrapped}
use Rattle.leaves.proofs.signed.add_i32.Goals as goal

pub returns : goal.returns
unfolding add_i32
returns c = wrapped _ (wrapping_add_is w32 c.args.a c.args.b c.ranges.a c.ranges.b)
