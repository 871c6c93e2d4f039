-- Promise: what a command comes to at two operands, each known or not: a value, or the first reason against one. The number leaves answer a value,
-- `DivisorZero` or `OutOfRange` (document 02, W5).
use Rattle.std.specs.Prelude.{cond, Ok, Err}
use Rattle.leaves.specs.declared.constant.ConstVal.{ConstVal}
use Rattle.leaves.specs.declared.constant.ConstVal.TheVariants.{Unknown}
use Rattle.leaves.specs.Constants.{is_known}
use Rattle.leaves.specs.Verdict.{Verdict}
use Rattle.leaves.specs.declared.verdict.Decline.TheVariants.{LeftUnknown, RightUnknown, Unfit}

-- v if both operands are known; else the first that isn't
abbrev pub if_known : ConstVal → ConstVal → Verdict → Verdict
if_known l r v = cond (is_known l) (cond (is_known r) v (Err RightUnknown)) (Err LeftUnknown)

-- of operands that are not both of the command's kind, and of a right one beside a left one that is
abbrev pub declined : ConstVal → ConstVal → Verdict
declined l r = if_known l r (Err Unfit)

abbrev pub declined_right : ConstVal → Verdict
declined_right r = cond (is_known r) (Err Unfit) (Err RightUnknown)

-- the value; Unknown where there is none
abbrev pub value_in : Verdict → ConstVal
value_in (Ok v) = v
value_in (Err e) = Unknown
