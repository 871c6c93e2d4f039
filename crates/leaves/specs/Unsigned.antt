-- Promise: the U32 leaves, of document 01's module 1 (Number leaves). A value is a natural number below 2^32.
-- Sums, differences and products exist only if in range; quotients and remainders, if the divisor isn't 0. Where there is none, document 02's W5
-- has the reason: divisor zero or out of range.
--
use Rattle.std.specs.Prelude.{ℕ, ◌+◌, ◌-◌, ◌*◌, ◌/◌, ◌%◌, ◌^◌, cond, ◌==◌, nat_le, nat_lt, Ok, Err}
use Rattle.leaves.specs.declared.constant.ConstVal.TheVariants.{U32}
use Rattle.leaves.specs.Verdict.{Verdict}
use Rattle.leaves.specs.declared.verdict.Decline.TheVariants.{DivisorZero, OutOfRange}

-- n, or out of range outside u32
abbrev pub checked_u32 : ℕ → Verdict
checked_u32 n = cond (nat_lt n (2 ^ 32)) (Ok (U32 n)) (Err OutOfRange)

-- "U32 sums, differences and products exist only if in range"
unfoldable pub add_u32 : ℕ → ℕ → Verdict
add_u32 a b = checked_u32 (a + b)

-- below 0 is out of range
unfoldable pub sub_u32 : ℕ → ℕ → Verdict
sub_u32 a b = cond (nat_le b a) (Ok (U32 (a - b))) (Err OutOfRange)

unfoldable pub mul_u32 : ℕ → ℕ → Verdict
mul_u32 a b = checked_u32 (a * b)

-- "U32 division truncates, and neither it nor the remainder has a result for divisor 0"
unfoldable pub div_u32 : ℕ → ℕ → Verdict
div_u32 a b = cond (b == 0) (Err DivisorZero) (Ok (U32 (a / b)))

unfoldable pub mod_u32 : ℕ → ℕ → Verdict
mod_u32 a b = cond (b == 0) (Err DivisorZero) (Ok (U32 (a % b)))
