-- Each leaf's result, where there is one, is a value of its type.
use Rattle.std.proofs.Common.{◌≡◌, ℕ, ◌+◌, ◌-◌, ◌*◌, ◌/◌, ◌%◌, ◌^◌, ◌<◌, Bool, true, false, cond, T, eqb, ltb, leb, ℤ, ◌+ℤ◌, ◌-ℤ◌, ◌*ℤ◌, refl, lt_of_le_of_lt, div-le_self, sub-le, w32, SFits, ltb-true}
use native.Mathlib.Nat.{mod-le}
use lib.Signed.{quot_z, rem_z}
use lib.Ieee as Ieee
use lib.Ieee.{Float, binary64}
use lib.Ieee.Fits.{div-fits}
use Rattle.leaves.specs.declared.constant.ConstVal.{ConstVal}
use Rattle.leaves.specs.declared.constant.ConstVal.TheVariants.{Unknown, Quad as QuadV, Bool as BoolV, F64, I32, U32, Fx}
use Rattle.leaves.specs.Signed.{in_i32, is_zero, checked_as, add_i32, sub_i32, mul_i32, div_i32, mod_i32}
use Rattle.leaves.specs.Unsigned.{checked_u32, add_u32, sub_u32, mul_u32, div_u32, mod_u32}
use Rattle.leaves.specs.Fixed.{fx_scale, add_fx, sub_fx, mul_fx, div_fx}
use Rattle.leaves.specs.Float.{zero_float, ieee_div_f64, div_f64}
use Rattle.leaves.proofs.Ranges.{sfits_in, rest_fits}
use Rattle.leaves.proofs.Laws.{wrap_fits}
use Rattle.std.specs.Prelude.{Ok, Err}
use Rattle.leaves.specs.Verdict.{Verdict}
use Rattle.leaves.specs.declared.verdict.Decline.TheVariants.{LeftUnknown, RightUnknown, Unfit, DivisorZero, OutOfRange, NotComputed}

abbrev pub Typed : ConstVal → Type 0
Typed Unknown = Unit {0}
Typed (QuadV q) = Unit {0}
Typed (BoolV b) = Unit {0}
Typed (F64 x) = T (Ieee.fits binary64 x)
Typed (I32 z) = SFits w32 z
Typed (U32 n) = n < 2 ^ 32
Typed (Fx z) = SFits w32 z

abbrev pub TypedResult : Verdict → Type 0
TypedResult (Ok v) = Typed v
TypedResult (Err LeftUnknown) = Unit {0}
TypedResult (Err RightUnknown) = Unit {0}
TypedResult (Err Unfit) = Unit {0}
TypedResult (Err DivisorZero) = Unit {0}
TypedResult (Err OutOfRange) = Unit {0}
TypedResult (Err NotComputed) = Unit {0}

none_or : (t : Bool) (v : Verdict) → TypedResult v → TypedResult (cond t (Err DivisorZero) v)
none_or true v h = tt
none_or false v h = h

or-none : (t : Bool) (v : ConstVal) → (t ≡ true → Typed v) → TypedResult (cond t (Ok v) (Err OutOfRange))
or-none true v h = h refl
or-none false v h = tt

-- ---- I32

pub add_i32_fits : (a b : ℤ) → TypedResult (add_i32 a b)
unfolding add_i32
add_i32_fits a b = wrap_fits (a +ℤ b)

pub sub_i32_fits : (a b : ℤ) → TypedResult (sub_i32 a b)
unfolding sub_i32
sub_i32_fits a b = wrap_fits (a -ℤ b)

pub mul_i32_fits : (a b : ℤ) → TypedResult (mul_i32 a b)
unfolding mul_i32
mul_i32_fits a b = wrap_fits (a *ℤ b)

pub div_i32_fits : (a b : ℤ) → TypedResult (div_i32 a b)
unfolding div_i32
div_i32_fits a b = none_or (is_zero b) (checked_as I32 (quot_z a b)) (or-none (in_i32 (quot_z a b)) (I32 (quot_z a b)) (sfits_in (quot_z a b)))

pub mod_i32_fits : (a b : ℤ) → SFits w32 a → TypedResult (mod_i32 a b)
unfolding mod_i32
mod_i32_fits a b h = none_or (is_zero b) (cond (in_i32 (quot_z a b)) (Ok (I32 (rem_z a b))) (Err OutOfRange)) (or-none (in_i32 (quot_z a b)) (I32 (rem_z a b)) (λ t. rest_fits a b h))

-- ---- Fx

checked_fits : (z : ℤ) → TypedResult (checked_as Fx z)
checked_fits z = or-none (in_i32 z) (Fx z) (sfits_in z)

pub add_fx_fits : (a b : ℤ) → TypedResult (add_fx a b)
unfolding add_fx
add_fx_fits a b = checked_fits (a +ℤ b)

pub sub_fx_fits : (a b : ℤ) → TypedResult (sub_fx a b)
unfolding sub_fx
sub_fx_fits a b = checked_fits (a -ℤ b)

pub mul_fx_fits : (a b : ℤ) → TypedResult (mul_fx a b)
unfolding mul_fx
mul_fx_fits a b = checked_fits (quot_z (a *ℤ b) fx_scale)

pub div_fx_fits : (a b : ℤ) → TypedResult (div_fx a b)
unfolding div_fx
div_fx_fits a b = none_or (is_zero b) (checked_as Fx (quot_z (a *ℤ fx_scale) b)) (checked_fits (quot_z (a *ℤ fx_scale) b))

-- ---- U32

checked_u32_fits : (n : ℕ) → TypedResult (checked_u32 n)
checked_u32_fits n = or-none (ltb n 4294967296) (U32 n) (ltb-true n 4294967296)

pub add_u32_fits : (a b : ℕ) → TypedResult (add_u32 a b)
unfolding add_u32
add_u32_fits a b = checked_u32_fits (a + b)

pub sub_u32_fits : (a b : ℕ) → a < 2 ^ 32 → TypedResult (sub_u32 a b)
unfolding sub_u32
sub_u32_fits a b h = or-none (leb b a) (U32 (a - b)) (λ t. lt_of_le_of_lt (sub-le a b) h)

pub mul_u32_fits : (a b : ℕ) → TypedResult (mul_u32 a b)
unfolding mul_u32
mul_u32_fits a b = checked_u32_fits (a * b)

pub div_u32_fits : (a b : ℕ) → a < 2 ^ 32 → TypedResult (div_u32 a b)
unfolding div_u32
div_u32_fits a b h = none_or (eqb b 0) (Ok (U32 (a / b))) (lt_of_le_of_lt (div-le_self a b) h)

pub mod_u32_fits : (a b : ℕ) → a < 2 ^ 32 → TypedResult (mod_u32 a b)
unfolding mod_u32
mod_u32_fits a b h = none_or (eqb b 0) (Ok (U32 (a % b))) (lt_of_le_of_lt (mod-le a b) h)

-- ---- f64: a sum, a difference and a product fit by lib.Ieee.Fits

pub ieee_div_f64_fits : (a b : Float) → TypedResult (ieee_div_f64 a b)
ieee_div_f64_fits a b = div-fits binary64 a b

pub div_f64_fits : (a b : Float) → TypedResult (div_f64 a b)
unfolding div_f64
div_f64_fits a b = none_or (Ieee.eq b zero_float) (ieee_div_f64 a b) (ieee_div_f64_fits a b)
