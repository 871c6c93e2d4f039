-- `float::of_bits` meets its contract: above the pattern of infinity there are only NaN's.
use Rattle.std.proofs.Common.{sym, refl}
use lib.Ieee
use Rattle.leaves.specs.Float.{float_of}
use Rattle.leaves.proofs.Floats.{above, within}
use Rattle.leaves.proofs.float.of_bits.Goals as goal

pub float_from_bits-result : goal.float_from_bits-result
float_from_bits-result c = within c.args.n c.if-n-gt-INFINITY.false

pub returns-then-n-gt-INFINITY : goal.returns-then-n-gt-INFINITY
unfolding float_of Ieee.div Ieee.of_bits
returns-then-n-gt-INFINITY c = sym (above c.args.n c.if-n-gt-INFINITY.true)

pub returns-else-n-gt-INFINITY : goal.returns-else-n-gt-INFINITY
unfolding float_of
returns-else-n-gt-INFINITY c = refl
