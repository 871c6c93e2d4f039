-- `float::to_bits` meets its contract.
use Rattle.std.proofs.Common.{sym, refl, ◌∙◌}
use Rattle.leaves.specs.Float.{bits_of}
use Rattle.leaves.proofs.Floats.{nan_pattern}
use Rattle.leaves.proofs.float.to_bits.Goals as goal

pub returns-then-is_nan : goal.returns-then-is_nan
returns-then-is_nan c = sym (nan_pattern c.args.x (sym c.is_nan.ensures.value ∙ c.if-is_nan.true))

pub returns : goal.returns
unfolding bits_of
returns c = refl
