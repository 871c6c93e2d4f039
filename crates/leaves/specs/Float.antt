-- Promise: the f64 leaves, of document 01's module 1 (Number leaves) and document 02's W4, by the logic's account of IEEE 754 binary64 (lib.Ieee).
-- A value is a `Float`, with one `nan`; bits appear only where a value is read or written.
--
use Rattle.std.specs.Prelude.{ℕ, Bool, true, false, cond, not, pos, ◌==◌, Float, Ok, Err}
use Rattle.std.specs.Float.Ieee as Ieee
use Rattle.std.specs.Float.{nan, inf, fin, binary64}
use Rattle.std.specs.Float.Ieee.{unlike}
use Rattle.leaves.specs.declared.constant.ConstVal.TheVariants.{F64}
use Rattle.leaves.specs.Verdict.{Verdict}
use Rattle.leaves.specs.declared.verdict.Decline.TheVariants.{DivisorZero}

-- the value of a pattern of 64 bits; every NaN pattern is `nan`
unfoldable pub float_of : ℕ → Float
float_of n = Ieee.of_bits binary64 n

-- the pattern of a value; "a NaN result is written as 7FF8000000000000"
unfoldable pub bits_of : Float → ℕ
bits_of x = Ieee.to_bits binary64 x

-- +0; -0 is equal to it by IEEE 754
abbrev pub zero_float : Float
zero_float = fin false 0 (pos 0)

-- "one IEEE 754 operation, rounded once"
abbrev pub add_f64 : Float → Float → Verdict
add_f64 a b = Ok (F64 (Ieee.add binary64 a b))

abbrev pub sub_f64 : Float → Float → Verdict
sub_f64 a b = Ok (F64 (Ieee.sub binary64 a b))

abbrev pub mul_f64 : Float → Float → Verdict
mul_f64 a b = Ok (F64 (Ieee.mul binary64 a b))

-- document 02, W4: "The interpreter makers now follow IEEE 754", whose division has a result whatever the divisor
abbrev pub ieee_div_f64 : Float → Float → Verdict
ieee_div_f64 a b = Ok (F64 (Ieee.div binary64 a b))

-- the Rust's division: "Division by either zero isn't folded; by NaN it is" (document 01); "DivF64 in the default rewrite declines a zero divisor by
-- that name" (document 02, W5)
unfoldable pub div_f64 : Float → Float → Verdict
div_f64 a b = cond (Ieee.eq b zero_float) (Err DivisorZero) (ieee_div_f64 a b)

-- ---- division by zero in W4's own words, which are proved of IEEE 754's division, whatever the dividend (leaves/proofs/Laws.antt)

-- a number other than zero: an infinity, or a finite one however small
abbrev pub nonzero : Float → Bool
nonzero nan = false
nonzero (inf s) = true
nonzero (fin s m e) = not (m == 0)

-- the sign, true where it is negative; a zero has one, and NaN none
abbrev pub negative : Float → Bool
negative nan = false
negative (inf s) = s
negative (fin s m e) = s

-- x by the zero z: "a nonzero number by zero is an infinity with the product of the signs, and zero or NaN by zero is NaN". The product of two signs
-- is negative where they are unlike
abbrev pub by_zero : Float → Float → Float
by_zero x z = cond (nonzero x) (inf (unlike (negative x) (negative z))) nan
