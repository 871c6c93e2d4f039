-- `fixed::sub_fx` meets its contract.
use Rattle.std.proofs.Common.{◌-ℤ◌}
use Rattle.leaves.specs.declared.constant.ConstVal.TheVariants.{Fx}
use Rattle.leaves.specs.Fixed.{sub_fx}
use Rattle.leaves.proofs.Checked.{exact_or}
use Rattle.leaves.proofs.fixed.sub_fx.Goals as goal

pub returns : goal.returns
unfolding sub_fx
returns c = exact_or Fx ◌-ℤ◌ _ _ _ c.ranges.a c.ranges.b c.checked_sub.ensures c.map.ensures.cases c.ok_or.ensures.value
