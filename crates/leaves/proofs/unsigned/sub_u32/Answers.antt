-- `unsigned::sub_u32` meets its contract.
use Rattle.std.proofs.Common.{arith, le-leb}
use Rattle.leaves.specs.declared.constant.ConstVal.TheVariants.{U32}
use Rattle.leaves.specs.declared.verdict.Decline.TheVariants.{OutOfRange}
use Rattle.leaves.specs.Unsigned.{sub_u32}
use Rattle.leaves.proofs.Checked.{checked}
use Rattle.leaves.proofs.unsigned.sub_u32.Goals as goal

pub returns : goal.returns
unfolding sub_u32
returns c =
    checked U32 OutOfRange _ _ _ _ _ c.checked_sub.ensures c.map.ensures.cases c.ok_or.ensures.value
    (λ l. le-leb _ _ l) (λ n. grind arith)
