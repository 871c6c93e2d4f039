-- `unsigned::div_u32` meets its contract.
use Rattle.leaves.specs.declared.constant.ConstVal.TheVariants.{U32}
use Rattle.leaves.specs.declared.verdict.Decline.TheVariants.{DivisorZero}
use Rattle.leaves.specs.Unsigned.{div_u32}
use Rattle.leaves.proofs.Checked.{nonzero_or}
use Rattle.leaves.proofs.unsigned.div_u32.Goals as goal

pub returns : goal.returns
unfolding div_u32
returns c = nonzero_or U32 DivisorZero _ _ _ _ _ c.checked_div.ensures c.map.ensures.cases c.ok_or.ensures.value
