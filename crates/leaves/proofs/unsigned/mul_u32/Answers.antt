-- `unsigned::mul_u32` meets its contract.
use Rattle.std.proofs.Common.{arith, lt-ltb}
use Rattle.leaves.specs.declared.constant.ConstVal.TheVariants.{U32}
use Rattle.leaves.specs.declared.verdict.Decline.TheVariants.{OutOfRange}
use Rattle.leaves.specs.Unsigned.{mul_u32}
use Rattle.leaves.proofs.Checked.{checked}
use Rattle.leaves.proofs.unsigned.mul_u32.Goals as goal

pub returns : goal.returns
unfolding mul_u32
returns c =
    checked U32 OutOfRange _ _ _ _ _ c.checked_mul.ensures c.map.ensures.cases c.ok_or.ensures.value
    (λ l. lt-ltb _ _ l) (λ n. grind arith)
