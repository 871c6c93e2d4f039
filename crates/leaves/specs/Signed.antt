-- Promise: the I32 leaves, of document 01's module 1 (Number leaves). A value is an integer from -2^31 to 2^31 - 1.
-- Add, subtract and multiply wrap modulo 2^32; division truncates toward zero, and the remainder goes with it.
-- Document 02, W5: "Each arithmetic leaf answers a value, "divisor zero" or "out of range"; zero is tested first."
--
use Rattle.std.specs.Prelude.{ℕ, suc, ◌-◌, ◌%◌, ◌^◌, Bool, false, cond, ℤ, pos, negsuc, ◌+ℤ◌, ◌-ℤ◌, ◌*ℤ◌, ◌==◌, int_div, int_rem, nat_lt, unsigned_abs, Ok, Err}
use Rattle.std.specs.Int.Signed.{mag}
use Rattle.std.specs.Int.{w32}
use Rattle.std.proofs.Common.{to_z}
use Rattle.leaves.specs.declared.constant.ConstVal.{ConstVal}
use Rattle.leaves.specs.declared.constant.ConstVal.TheVariants.{I32}
use Rattle.leaves.specs.Verdict.{Verdict}
use Rattle.leaves.specs.declared.verdict.Decline.TheVariants.{DivisorZero, OutOfRange}

-- the residue of z modulo m, from 0 to m - 1
unfoldable pub residue : ℤ → ℕ → ℕ
residue (pos n) m = n % m
residue (negsuc n) m = m - suc (n % m)

-- the i32 that is congruent to z modulo 2^32: the one whose two's complement bits are z's residue
unfoldable pub wrap : ℤ → ℤ
unfolding residue
wrap z = to_z w32 (residue z (2 ^ 32))

-- z lies in the range of an i32
abbrev pub in_i32 : ℤ → Bool
in_i32 z = nat_lt (mag z) (2 ^ 31)

abbrev pub is_zero : ℤ → Bool
is_zero z = unsigned_abs z == 0

-- equality of two integers
abbrev pub same_z : ℤ → ℤ → Bool
same_z (pos m) (pos n) = m == n
same_z (pos m) (negsuc n) = false
same_z (negsuc m) (pos n) = false
same_z (negsuc m) (negsuc n) = m == n

-- z as a value of a kind, or out of range outside i32
abbrev pub checked_as : (ℤ → ConstVal) → ℤ → Verdict
checked_as kind z = cond (in_i32 z) (Ok (kind z)) (Err OutOfRange)

-- "I32 add, subtract and multiply wrap modulo 2^32"
unfoldable pub add_i32 : ℤ → ℤ → Verdict
add_i32 a b = Ok (I32 (wrap (a +ℤ b)))

unfoldable pub sub_i32 : ℤ → ℤ → Verdict
sub_i32 a b = Ok (I32 (wrap (a -ℤ b)))

unfoldable pub mul_i32 : ℤ → ℤ → Verdict
mul_i32 a b = Ok (I32 (wrap (a *ℤ b)))

-- "truncates toward zero; it has no result for divisor 0 or for -2,147,483,648 by -1", whose quotient alone is outside i32
unfoldable pub div_i32 : ℤ → ℤ → Verdict
div_i32 a b = cond (is_zero b) (Err DivisorZero) (checked_as I32 (int_div a b))

-- "and neither has the remainder": out of range where the quotient is, though it would be 0 there
unfoldable pub mod_i32 : ℤ → ℤ → Verdict
mod_i32 a b = cond (is_zero b) (Err DivisorZero) (cond (in_i32 (int_div a b)) (Ok (I32 (int_rem a b))) (Err OutOfRange))
