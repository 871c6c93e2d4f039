-- Which floats and which patterns are NaN's.
use Rattle.std.proofs.Common.{◌≡◌, ℕ, ◌%◌, ◌^◌, ◌<◌, ◌≤◌, Bool, true, not, T, sym, refl, ap, ◌∙◌, subst}
use mathlib.Core.Path.{subst⁻¹}
use lib.Ieee
use lib.Ieee as Ieee
use lib.Ieee.{Float, nan, inf, fin, binary64}
use lib.Ieee.Bits.{nan_bits_is, nan_bits_above, of_bits-to_bits, of_bits-fits, to_bits-of_bits}
use Rattle.leaves.specs.Float.{float_of, bits_of}
use mir.Facts.{no_ltb, yes_ltb}

is_nan : (x : Float) → T (Ieee.is_nan x) → x ≡ nan
unfolding Ieee.is_nan
is_nan nan t = refl
is_nan (inf s) t = absurd t
is_nan (fin s m e) t = absurd t

-- the pattern that is written of a NaN
pub nan_pattern : (x : Float) → Ieee.is_nan x ≡ true → bits_of x ≡ 0x7ff8_0000_0000_0000
unfolding bits_of Ieee.to_bits
nan_pattern x e = ap bits_of (is_nan x (subst T (sym e) tt))

-- a pattern without its sign above that of infinity is a NaN's, and no other is
pub above : (n : ℕ) → 0x7ff0_0000_0000_0000 < n % 0x8000_0000_0000_0000 → Ieee.of_bits binary64 n ≡ nan
above n h = is_nan (Ieee.of_bits binary64 n) (subst T (sym (nan_bits_above binary64 n) ∙ nan_bits_is binary64 n) (yes_ltb h))

pub within : (n : ℕ) → n % 0x8000_0000_0000_0000 ≤ 0x7ff0_0000_0000_0000 → T (not (Ieee.nan_bits binary64 n))
within n h = subst⁻¹ (λ (b : Bool). T (not b)) (nan_bits_above binary64 n) (no_ltb h)

-- reading back what was written
pub back : (x : Float) → Ieee.fits binary64 x ≡ true → float_of (bits_of x) ≡ x
unfolding float_of bits_of
back x e = of_bits-to_bits binary64 x (subst T (sym e) tt)

-- writing back what was read, but for a NaN
pub forth : (n : ℕ) → n < 2 ^ 64 → T (not (Ieee.is_nan (float_of n))) → bits_of (float_of n) ≡ n
unfolding float_of bits_of
forth n h t = to_bits-of_bits binary64 n h t

-- what was read is read back
pub again : (n : ℕ) → float_of (bits_of (float_of n)) ≡ float_of n
unfolding float_of bits_of
again n = of_bits-to_bits binary64 (float_of n) (of_bits-fits binary64 n)
