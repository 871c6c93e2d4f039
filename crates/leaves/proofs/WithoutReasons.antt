-- The number leaves as document 01 has them: a value, or no result. Document 02's W5 adds only why there is none: with the reason left out, each leaf's
-- answer is the one below, which is its definition as it was before it gave a reason. The leaves that always have a value did not change.
use Rattle.std.proofs.Common.{◌≡◌, ℕ, ◌+◌, ◌-◌, ◌*◌, ◌/◌, ◌%◌, ◌^◌, Bool, true, false, cond, eqb, ltb, leb, ℤ, ◌+ℤ◌, ◌-ℤ◌, ◌*ℤ◌, refl}
use lib.Signed.{quot_z, rem_z}
use lib.Ieee as Ieee
use lib.Ieee.{Float}
use Rattle.leaves.specs.declared.constant.ConstVal.{ConstVal}
use Rattle.leaves.specs.declared.constant.ConstVal.TheVariants.{F64, I32, U32, Fx}
use Rattle.leaves.specs.Signed.{in_i32, is_zero, div_i32, mod_i32}
use Rattle.leaves.specs.Unsigned.{add_u32, sub_u32, mul_u32, div_u32, mod_u32}
use Rattle.leaves.specs.Fixed.{fx_scale, add_fx, sub_fx, mul_fx, div_fx}
use Rattle.leaves.specs.Float.{zero_float, ieee_div_f64, div_f64}
use Rattle.std.specs.Prelude.{Ok, Err}
use Rattle.leaves.specs.Verdict.{Verdict}
use Rattle.leaves.specs.declared.verdict.Decline.TheVariants.{LeftUnknown, RightUnknown, Unfit, DivisorZero, OutOfRange, NotComputed}

-- the one answer that stood for both reasons. The verdict has no case of that name any more: one of the two stands for it
abbrev pub NoResult : Verdict
NoResult = Err OutOfRange

abbrev pub without_reason : Verdict → Verdict
without_reason (Ok v) = Ok v
without_reason (Err LeftUnknown) = Err LeftUnknown
without_reason (Err RightUnknown) = Err RightUnknown
without_reason (Err Unfit) = Err Unfit
without_reason (Err DivisorZero) = NoResult
without_reason (Err OutOfRange) = NoResult
without_reason (Err NotComputed) = Err NotComputed

-- ---- as they were

abbrev checked_as₀ : (ℤ → ConstVal) → ℤ → Verdict
checked_as₀ kind z = cond (in_i32 z) (Ok (kind z)) NoResult

abbrev pub div_i32₀ : ℤ → ℤ → Verdict
div_i32₀ a b = cond (is_zero b) NoResult (checked_as₀ I32 (quot_z a b))

abbrev pub mod_i32₀ : ℤ → ℤ → Verdict
mod_i32₀ a b = cond (is_zero b) NoResult (cond (in_i32 (quot_z a b)) (Ok (I32 (rem_z a b))) NoResult)

abbrev pub add_fx₀ : ℤ → ℤ → Verdict
add_fx₀ a b = checked_as₀ Fx (a +ℤ b)

abbrev pub sub_fx₀ : ℤ → ℤ → Verdict
sub_fx₀ a b = checked_as₀ Fx (a -ℤ b)

abbrev pub mul_fx₀ : ℤ → ℤ → Verdict
mul_fx₀ a b = checked_as₀ Fx (quot_z (a *ℤ b) fx_scale)

abbrev pub div_fx₀ : ℤ → ℤ → Verdict
div_fx₀ a b = cond (is_zero b) NoResult (checked_as₀ Fx (quot_z (a *ℤ fx_scale) b))

abbrev checked_u32₀ : ℕ → Verdict
checked_u32₀ n = cond (ltb n (2 ^ 32)) (Ok (U32 n)) NoResult

abbrev pub add_u32₀ : ℕ → ℕ → Verdict
add_u32₀ a b = checked_u32₀ (a + b)

abbrev pub sub_u32₀ : ℕ → ℕ → Verdict
sub_u32₀ a b = cond (leb b a) (Ok (U32 (a - b))) NoResult

abbrev pub mul_u32₀ : ℕ → ℕ → Verdict
mul_u32₀ a b = checked_u32₀ (a * b)

abbrev pub div_u32₀ : ℕ → ℕ → Verdict
div_u32₀ a b = cond (eqb b 0) NoResult (Ok (U32 (a / b)))

abbrev pub mod_u32₀ : ℕ → ℕ → Verdict
mod_u32₀ a b = cond (eqb b 0) NoResult (Ok (U32 (a % b)))

abbrev pub div_f64₀ : Float → Float → Verdict
div_f64₀ a b = cond (Ieee.eq b zero_float) NoResult (ieee_div_f64 a b)

-- ---- and are, but for the reason

by_tests : (z t : Bool) (x : ConstVal) → without_reason (cond z (Err DivisorZero) (cond t (Ok x) (Err OutOfRange))) ≡ cond z NoResult (cond t (Ok x) NoResult)
by_tests true t x = refl
by_tests false true x = refl
by_tests false false x = refl

pub same_div_i32 : (a b : ℤ) → without_reason (div_i32 a b) ≡ div_i32₀ a b
unfolding div_i32
same_div_i32 a b = by_tests (is_zero b) (in_i32 (quot_z a b)) (I32 (quot_z a b))

pub same_mod_i32 : (a b : ℤ) → without_reason (mod_i32 a b) ≡ mod_i32₀ a b
unfolding mod_i32
same_mod_i32 a b = by_tests (is_zero b) (in_i32 (quot_z a b)) (I32 (rem_z a b))

pub same_add_fx : (a b : ℤ) → without_reason (add_fx a b) ≡ add_fx₀ a b
unfolding add_fx
same_add_fx a b = by_tests false (in_i32 (a +ℤ b)) (Fx (a +ℤ b))

pub same_sub_fx : (a b : ℤ) → without_reason (sub_fx a b) ≡ sub_fx₀ a b
unfolding sub_fx
same_sub_fx a b = by_tests false (in_i32 (a -ℤ b)) (Fx (a -ℤ b))

pub same_mul_fx : (a b : ℤ) → without_reason (mul_fx a b) ≡ mul_fx₀ a b
unfolding mul_fx
same_mul_fx a b = by_tests false (in_i32 (quot_z (a *ℤ b) fx_scale)) (Fx (quot_z (a *ℤ b) fx_scale))

pub same_div_fx : (a b : ℤ) → without_reason (div_fx a b) ≡ div_fx₀ a b
unfolding div_fx
same_div_fx a b = by_tests (is_zero b) (in_i32 (quot_z (a *ℤ fx_scale) b)) (Fx (quot_z (a *ℤ fx_scale) b))

pub same_add_u32 : (a b : ℕ) → without_reason (add_u32 a b) ≡ add_u32₀ a b
unfolding add_u32
same_add_u32 a b = by_tests false (ltb (a + b) (2 ^ 32)) (U32 (a + b))

pub same_sub_u32 : (a b : ℕ) → without_reason (sub_u32 a b) ≡ sub_u32₀ a b
unfolding sub_u32
same_sub_u32 a b = by_tests false (leb b a) (U32 (a - b))

pub same_mul_u32 : (a b : ℕ) → without_reason (mul_u32 a b) ≡ mul_u32₀ a b
unfolding mul_u32
same_mul_u32 a b = by_tests false (ltb (a * b) (2 ^ 32)) (U32 (a * b))

pub same_div_u32 : (a b : ℕ) → without_reason (div_u32 a b) ≡ div_u32₀ a b
unfolding div_u32
same_div_u32 a b = by_tests (eqb b 0) true (U32 (a / b))

pub same_mod_u32 : (a b : ℕ) → without_reason (mod_u32 a b) ≡ mod_u32₀ a b
unfolding mod_u32
same_mod_u32 a b = by_tests (eqb b 0) true (U32 (a % b))

pub same_div_f64 : (a b : Float) → without_reason (div_f64 a b) ≡ div_f64₀ a b
unfolding div_f64
same_div_f64 a b = by_tests (Ieee.eq b zero_float) true (F64 (Ieee.div Ieee.binary64 a b))
