-- Promise: the Fx leaves, of document 01's module 1 (Number leaves). A value is an i32 that counts thousandths.
-- Nothing overflows on the way (the document's i64 is wide enough); none has a result outside i32 or for divisor 0. Which of the
-- two it is, the answer says (document 02, W5).
--
use Rattle.std.specs.Prelude.{cond, ℤ, pos, ◌+ℤ◌, ◌-ℤ◌, ◌*ℤ◌, int_div, Err}
use Rattle.leaves.specs.declared.constant.ConstVal.TheVariants.{Fx}
use Rattle.leaves.specs.Signed.{is_zero, checked_as}
use Rattle.leaves.specs.Verdict.{Verdict}
use Rattle.leaves.specs.declared.verdict.Decline.TheVariants.{DivisorZero}

-- one, in thousandths
abbrev pub fx_scale : ℤ
fx_scale = pos 1000

-- "sum and difference are exact"
unfoldable pub add_fx : ℤ → ℤ → Verdict
add_fx a b = checked_as Fx (a +ℤ b)

unfoldable pub sub_fx : ℤ → ℤ → Verdict
sub_fx a b = checked_as Fx (a -ℤ b)

-- "product / 1000 and (lhs times 1000) / rhs truncate toward zero"
unfoldable pub mul_fx : ℤ → ℤ → Verdict
mul_fx a b = checked_as Fx (int_div (a *ℤ b) fx_scale)

-- "zero is tested first"
unfoldable pub div_fx : ℤ → ℤ → Verdict
div_fx a b = cond (is_zero b) (Err DivisorZero) (checked_as Fx (int_div (a *ℤ fx_scale) b))
