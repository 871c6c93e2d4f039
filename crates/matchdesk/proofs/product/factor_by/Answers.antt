use mathlib.Core.Path.{◌∙◌}
use Rattle.factor.specs.Factor.{factor_fx, factor_i32}
use Rattle.leaves.proofs.Ranges.{passed}
use Rattle.matchdesk.proofs.product.factor_by.Goals as goal

pub returns-in-Fx : goal.returns-in-Fx
returns-in-Fx c =
    rw c.in-Fx.is (c.factor_fx.ensures ∙ passed factor_fx c.args.wanted c.args.factor c.ranges.wanted.sfits c.ranges.factor.sfits)

pub returns-in-I32 : goal.returns-in-I32
returns-in-I32 c =
    rw c.in-I32.is (c.factor_i32.ensures ∙ passed factor_i32 c.args.wanted c.args.factor c.ranges.wanted.sfits c.ranges.factor.sfits)
