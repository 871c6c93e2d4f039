-- `signed::div_i32` meets its contract.
use Rattle.std.proofs.Common.{◌∙◌}
use Rattle.std.specs.Prelude.{int_div}
use Rattle.leaves.specs.declared.constant.ConstVal.TheVariants.{I32}
use Rattle.leaves.specs.Signed.{div_i32}
use Rattle.leaves.proofs.Ranges.{zero_bits, nonzero_bits}
use Rattle.leaves.proofs.Checked.{divided_or}
use Rattle.leaves.proofs.signed.div_i32.Goals as goal

pub returns-then-b-eq0 : goal.returns-then-b-eq0
unfolding div_i32
returns-then-b-eq0 c = simp (zero_bits c.args.b c.ranges.b c.if-b-eq0.true)

pub returns : goal.returns
unfolding div_i32
returns c =
    divided_or I32 int_div _ _ _ c.ranges.a c.ranges.b c.if-b-eq0.false c.checked_div.ensures c.map.ensures.cases c.ok_or.ensures.value
    ∙ simp (nonzero_bits c.args.b c.ranges.b c.if-b-eq0.false).0
