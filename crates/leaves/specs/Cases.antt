-- Worked: document 01's starred cases that belong to leaves ('Cells on either edge'), each a command at two known operands and its verdict there; the
-- two orders of the quads, each quad with what stands above it; document 02's truth-order commands (W2), each at a left operand with its results
-- for every right one; its divisions of an f64 by zero (W4), each dividend with its quotients by both zeros; and its reasons (W5), at the edges of
-- each number leaf. A table each, and one theorem of all its rows.
--
use Rattle.std.specs.Prelude.{◌≡◌, ℕ, Bool, true, false, List, [], ◌∷◌, ◌++◌, map, ℤ, pos, negsuc, refl, Float, Ok, Err, Option, None, Some}
use Rattle.std.specs.Float.Ieee
use Rattle.std.specs.Float.Ieee as Ieee
use Rattle.std.specs.Float.{nan, inf}
use Rattle.leaves.specs.declared.quad.Quad.{Quad}
use Rattle.leaves.specs.declared.quad.Quad.TheVariants.{N, F, T, S}
use Rattle.leaves.specs.declared.constant.ConstVal.{ConstVal}
use Rattle.leaves.specs.declared.constant.ConstVal.TheVariants.{Quad as QuadV, Bool as BoolV, F64, I32, U32, Fx}
use Rattle.leaves.specs.Signed.{residue, wrap, add_i32, sub_i32, mul_i32, div_i32, mod_i32}
use Rattle.leaves.specs.Unsigned.{add_u32, sub_u32, mul_u32, div_u32, mod_u32}
use Rattle.leaves.specs.Fixed.{add_fx, sub_fx, mul_fx, div_fx}
use Rattle.leaves.specs.Float.{float_of, bits_of, add_f64, sub_f64, mul_f64, ieee_div_f64, div_f64, by_zero}
use Rattle.leaves.specs.Quads.{Order, meet, join, approx_below, truth_below, q_and, q_or, q_impl, q_truth_and, q_truth_or, q_truth_not, q_truth_impl}
use Rattle.leaves.specs.Verdicts.{value_in}
use Rattle.leaves.specs.Constants.{on_quad, on_f64, on_i32, on_u32, on_fx, const_eq}
use Rattle.leaves.specs.Verdict.{Verdict}
use Rattle.leaves.specs.declared.verdict.Decline.TheVariants.{Unfit, DivisorZero, OutOfRange}

-- ---- a leaf as a command on two known values

abbrev pub i32_leaf : (ℤ → ℤ → Verdict) → ConstVal → ConstVal → Verdict
i32_leaf op l r = on_i32 l (λ (a : ℤ). on_i32 r (op a) (Err Unfit)) (Err Unfit)

abbrev pub u32_leaf : (ℕ → ℕ → Verdict) → ConstVal → ConstVal → Verdict
u32_leaf op l r = on_u32 l (λ (a : ℕ). on_u32 r (op a) (Err Unfit)) (Err Unfit)

abbrev pub fx_leaf : (ℤ → ℤ → Verdict) → ConstVal → ConstVal → Verdict
fx_leaf op l r = on_fx l (λ (a : ℤ). on_fx r (op a) (Err Unfit)) (Err Unfit)

abbrev pub f64_leaf : (Float → Float → Verdict) → ConstVal → ConstVal → Verdict
f64_leaf op l r = on_f64 l (λ (a : Float). on_f64 r (op a) (Err Unfit)) (Err Unfit)

abbrev pub quad_leaf : (Quad → Quad → Quad) → ConstVal → ConstVal → Verdict
quad_leaf op l r = on_quad l (λ (a : Quad). on_quad r (λ (b : Quad). Ok (QuadV (op a b))) (Err Unfit)) (Err Unfit)

abbrev pub equality : ConstVal → ConstVal → Verdict
equality l r = Ok (BoolV (const_eq l r))

-- ---- the table

pub record LeafCase : Type 0 where
  pub command : ConstVal → ConstVal → Verdict
  pub left : ConstVal
  pub right : ConstVal
  pub result : Verdict

abbrev pub case : (ConstVal → ConstVal → Verdict) → ConstVal → ConstVal → Verdict → LeafCase
case f l r d = record { command = f; left = l; right = r; result = d }

abbrev pub run : LeafCase → Verdict
run c = c.command c.left c.right

-- negsuc n is -(n + 1)
abbrev pub cases : List LeafCase
cases =
    case (i32_leaf add_i32) (I32 (pos 2147483647)) (I32 (pos 1)) (Ok (I32 (negsuc 2147483647)))
    ∷ case (i32_leaf div_i32) (I32 (negsuc 6)) (I32 (pos 2)) (Ok (I32 (negsuc 2)))
    ∷ case (i32_leaf mod_i32) (I32 (negsuc 6)) (I32 (pos 2)) (Ok (I32 (negsuc 0)))
    ∷ case (i32_leaf div_i32) (I32 (negsuc 2147483647)) (I32 (negsuc 0)) (Err OutOfRange)
    ∷ case (u32_leaf sub_u32) (U32 0) (U32 1) (Err OutOfRange)
    ∷ case (fx_leaf mul_fx) (Fx (pos 1500)) (Fx (pos 1500)) (Ok (Fx (pos 2250)))
    ∷ case (fx_leaf mul_fx) (Fx (negsuc 0)) (Fx (pos 1)) (Ok (Fx (pos 0)))
    ∷ case (fx_leaf mul_fx) (Fx (pos 2147483647)) (Fx (pos 1000)) (Ok (Fx (pos 2147483647)))
    ∷ case (fx_leaf mul_fx) (Fx (pos 2147483647)) (Fx (pos 1001)) (Err OutOfRange)
    ∷ case (quad_leaf q_and) (QuadV T) (QuadV F) (Ok (QuadV N))
    ∷ case (quad_leaf q_or) (QuadV T) (QuadV F) (Ok (QuadV S))
    ∷ case (quad_leaf q_impl) (QuadV F) (QuadV N) (Ok (QuadV T))
    ∷ case equality (I32 (pos 0)) (U32 0) (Ok (BoolV false))
    ∷ case equality (F64 (float_of 0)) (F64 (float_of 0x8000_0000_0000_0000)) (Ok (BoolV true))
    ∷ []

pub cases_hold : map run cases ≡ map (λ (c : LeafCase). c.result) cases
unfolding wrap add_i32 div_i32 mod_i32 sub_u32 mul_fx const_eq float_of Ieee.eq Ieee.of_bits meet join
cases_hold = refl

-- ---- the two orders

-- what stands above a quad in an order, itself among them
abbrev pub above : Order → Quad → List Quad
above below a = keep (below a N) N ++ keep (below a F) F ++ keep (below a T) T ++ keep (below a S) S
  where
    keep : Bool → Quad → List Quad
    keep true q = q ∷ []
    keep false q = []

pub record Above : Type 0 where
  pub order : Order
  pub quad : Quad
  pub quads : List Quad

abbrev pub under : Order → Quad → List Quad → Above
under o q qs = record { order = o; quad = q; quads = qs }

-- "F below N and S, both below T": N and S are not comparable; beside it document 01's "N is below F and T, and both are below S"
abbrev pub orders : List Above
orders =
    under truth_below F (N ∷ F ∷ T ∷ S ∷ [])
    ∷ under truth_below N (N ∷ T ∷ [])
    ∷ under truth_below S (T ∷ S ∷ [])
    ∷ under truth_below T (T ∷ [])
    ∷ under approx_below N (N ∷ F ∷ T ∷ S ∷ [])
    ∷ under approx_below F (F ∷ S ∷ [])
    ∷ under approx_below T (T ∷ S ∷ [])
    ∷ under approx_below S (S ∷ [])
    ∷ []

pub orders_hold : map (λ (r : Above). above r.order r.quad) orders ≡ map (λ (r : Above). r.quads) orders
orders_hold = refl

-- ---- the truth-order commands

pub record QuadRow : Type 0 where
  pub command : Quad → Quad → Quad
  pub left : Quad
  pub results : List Quad

-- a left operand's results with N, F, T and S on the right
abbrev pub with : (Quad → Quad → Quad) → Quad → List Quad → QuadRow
with f l qs = record { command = f; left = l; results = qs }

abbrev pub quad_rows : List QuadRow
quad_rows =
    with q_truth_and N (N ∷ F ∷ N ∷ F ∷ [])
    ∷ with q_truth_and F (F ∷ F ∷ F ∷ F ∷ [])
    ∷ with q_truth_and T (N ∷ F ∷ T ∷ S ∷ [])
    ∷ with q_truth_and S (F ∷ F ∷ S ∷ S ∷ [])
    ∷ with q_truth_or N (N ∷ N ∷ T ∷ T ∷ [])
    ∷ with q_truth_or F (N ∷ F ∷ T ∷ S ∷ [])
    ∷ with q_truth_or T (T ∷ T ∷ T ∷ T ∷ [])
    ∷ with q_truth_or S (T ∷ S ∷ T ∷ S ∷ [])
    ∷ with q_truth_impl N (N ∷ N ∷ T ∷ T ∷ [])
    ∷ with q_truth_impl F (T ∷ T ∷ T ∷ T ∷ [])
    ∷ with q_truth_impl T (N ∷ F ∷ T ∷ S ∷ [])
    ∷ with q_truth_impl S (T ∷ S ∷ T ∷ S ∷ [])
    -- of one operand: the right one makes no difference
    ∷ with (λ (a b : Quad). q_truth_not a) N (N ∷ N ∷ N ∷ N ∷ [])
    ∷ with (λ (a b : Quad). q_truth_not a) F (T ∷ T ∷ T ∷ T ∷ [])
    ∷ with (λ (a b : Quad). q_truth_not a) T (F ∷ F ∷ F ∷ F ∷ [])
    ∷ with (λ (a b : Quad). q_truth_not a) S (S ∷ S ∷ S ∷ S ∷ [])
    ∷ []

pub quad_rows_hold : map (λ (r : QuadRow). map (r.command r.left) (N ∷ F ∷ T ∷ S ∷ [])) quad_rows ≡ map (λ (r : QuadRow). r.results) quad_rows
unfolding meet join
quad_rows_hold = refl

-- ---- division of an f64 by zero

pub record ByZeros : Type 0 where
  pub dividend : ℕ
  pub by_plus : ℕ
  pub by_minus : ℕ

-- a dividend and its quotients by 0.0 and by -0.0, in bits
abbrev pub quotients : ℕ → ℕ → ℕ → ByZeros
quotients x p m = record { dividend = x; by_plus = p; by_minus = m }

-- 7FF0000000000000 is infinity, FFF0000000000000 -infinity
abbrev pub by_zeros : List ByZeros
by_zeros =
    -- "a nonzero number by zero is an infinity with the product of the signs": 1.0 and -1.0
    quotients 0x3FF0_0000_0000_0000 0x7FF0_0000_0000_0000 0xFFF0_0000_0000_0000
    ∷ quotients 0xBFF0_0000_0000_0000 0xFFF0_0000_0000_0000 0x7FF0_0000_0000_0000
    -- the least subnormal number and its negative; the greatest
    ∷ quotients 0x0000_0000_0000_0001 0x7FF0_0000_0000_0000 0xFFF0_0000_0000_0000
    ∷ quotients 0x8000_0000_0000_0001 0xFFF0_0000_0000_0000 0x7FF0_0000_0000_0000
    ∷ quotients 0x000F_FFFF_FFFF_FFFF 0x7FF0_0000_0000_0000 0xFFF0_0000_0000_0000
    -- the greatest finite number and its negative
    ∷ quotients 0x7FEF_FFFF_FFFF_FFFF 0x7FF0_0000_0000_0000 0xFFF0_0000_0000_0000
    ∷ quotients 0xFFEF_FFFF_FFFF_FFFF 0xFFF0_0000_0000_0000 0x7FF0_0000_0000_0000
    -- the infinities
    ∷ quotients 0x7FF0_0000_0000_0000 0x7FF0_0000_0000_0000 0xFFF0_0000_0000_0000
    ∷ quotients 0xFFF0_0000_0000_0000 0xFFF0_0000_0000_0000 0x7FF0_0000_0000_0000
    -- "zero or NaN by zero is NaN", "with the same NaN bits as other operations": 0.0 and -0.0; NaNs of either sign, quiet and signalling
    ∷ quotients 0x0000_0000_0000_0000 0x7FF8_0000_0000_0000 0x7FF8_0000_0000_0000
    ∷ quotients 0x8000_0000_0000_0000 0x7FF8_0000_0000_0000 0x7FF8_0000_0000_0000
    ∷ quotients 0x7FF8_0000_0000_0000 0x7FF8_0000_0000_0000 0x7FF8_0000_0000_0000
    ∷ quotients 0xFFF8_0000_0000_0123 0x7FF8_0000_0000_0000 0x7FF8_0000_0000_0000
    ∷ quotients 0x7FF0_0000_0000_0001 0x7FF8_0000_0000_0000 0x7FF8_0000_0000_0000
    ∷ []

-- a division's quotients of a dividend by 0.0 and by -0.0, as they are written, if there are any
abbrev pub by_both : (Float → Float → Verdict) → ByZeros → List (Option ℕ)
by_both f r = written (f (float_of r.dividend) (float_of 0)) ∷ written (f (float_of r.dividend) (float_of 0x8000_0000_0000_0000)) ∷ []
  where
    written : Verdict → Option ℕ
    written v = on_f64 (value_in v) (λ (x : Float). Some (bits_of x)) None

-- IEEE 754's division, and document 02's words; the Rust's, which has none
pub by-zeros_hold :
    (map (by_both ieee_div_f64) by_zeros ≡ map (λ (r : ByZeros). Some r.by_plus ∷ Some r.by_minus ∷ []) by_zeros)
    × (map (by_both (λ (x z : Float). Ok (F64 (by_zero x z)))) by_zeros ≡ map (λ (r : ByZeros). Some r.by_plus ∷ Some r.by_minus ∷ []) by_zeros)
    × (map (by_both div_f64) by_zeros ≡ map (λ (r : ByZeros). None ∷ None ∷ []) by_zeros)
unfolding float_of bits_of div_f64 Ieee.eq Ieee.div Ieee.of_bits Ieee.to_bits
by-zeros_hold = (refl, refl, refl)

-- ---- why a number leaf declines

-- the greatest and the least i32, and the greatest u32
abbrev most : ℤ
most = pos 2147483647

abbrev least : ℤ
least = negsuc 2147483647

abbrev most_u32 : ℕ
most_u32 = 4294967295

-- rows of one leaf: its operands, and its verdict there
abbrev pub i32 : (ℤ → ℤ → Verdict) → ℤ → ℤ → Verdict → LeafCase
i32 op a b v = case (i32_leaf op) (I32 a) (I32 b) v

abbrev pub u32 : (ℕ → ℕ → Verdict) → ℕ → ℕ → Verdict → LeafCase
u32 op a b v = case (u32_leaf op) (U32 a) (U32 b) v

abbrev pub fx : (ℤ → ℤ → Verdict) → ℤ → ℤ → Verdict → LeafCase
fx op a b v = case (fx_leaf op) (Fx a) (Fx b) v

-- by their bits
abbrev pub f64 : (Float → Float → Verdict) → ℕ → ℕ → Verdict → LeafCase
f64 op a b v = case (f64_leaf op) (F64 (float_of a)) (F64 (float_of b)) v

abbrev pub infinite : Bool → Verdict
infinite s = Ok (F64 (inf s))

abbrev pub not_anumber : Verdict
not_anumber = Ok (F64 nan)

abbrev pub reasons : List LeafCase
reasons =
    -- "I32 add, subtract and multiply wrap modulo 2^32": a value past either end
    i32 add_i32 most (pos 1) (Ok (I32 least))
    ∷ i32 add_i32 least (negsuc 0) (Ok (I32 most))
    ∷ i32 sub_i32 least (pos 1) (Ok (I32 most))
    ∷ i32 sub_i32 (pos 0) least (Ok (I32 least))
    ∷ i32 mul_i32 least (negsuc 0) (Ok (I32 least))
    ∷ i32 mul_i32 most most (Ok (I32 (pos 1)))
    ∷ i32 mul_i32 most (pos 0) (Ok (I32 (pos 0)))
    -- DivI32: "no result for divisor 0 or for -2,147,483,648 by -1"; of the least number by zero, "zero is tested first"
    ∷ i32 div_i32 (pos 7) (pos 0) (Err DivisorZero)
    ∷ i32 div_i32 (pos 0) (pos 0) (Err DivisorZero)
    ∷ i32 div_i32 least (pos 0) (Err DivisorZero)
    ∷ i32 div_i32 least (negsuc 0) (Err OutOfRange)
    ∷ i32 div_i32 least (pos 1) (Ok (I32 least))
    ∷ i32 div_i32 (negsuc 2147483646) (negsuc 0) (Ok (I32 most))
    ∷ i32 div_i32 most (negsuc 0) (Ok (I32 (negsuc 2147483646)))
    -- ModI32: "and neither has the remainder"
    ∷ i32 mod_i32 (pos 7) (pos 0) (Err DivisorZero)
    ∷ i32 mod_i32 (pos 0) (pos 0) (Err DivisorZero)
    ∷ i32 mod_i32 least (pos 0) (Err DivisorZero)
    ∷ i32 mod_i32 least (negsuc 0) (Err OutOfRange)
    ∷ i32 mod_i32 least (pos 1) (Ok (I32 (pos 0)))
    ∷ i32 mod_i32 (negsuc 2147483646) (negsuc 0) (Ok (I32 (pos 0)))
    -- "U32 sums, differences and products exist only if in range": the last number that is, and the first that isn't
    ∷ u32 add_u32 4294967294 1 (Ok (U32 most_u32))
    ∷ u32 add_u32 most_u32 1 (Err OutOfRange)
    ∷ u32 add_u32 most_u32 most_u32 (Err OutOfRange)
    ∷ u32 sub_u32 7 7 (Ok (U32 0))
    ∷ u32 sub_u32 7 8 (Err OutOfRange)
    ∷ u32 sub_u32 0 most_u32 (Err OutOfRange)
    ∷ u32 mul_u32 65535 65537 (Ok (U32 most_u32))
    ∷ u32 mul_u32 65536 65536 (Err OutOfRange)
    ∷ u32 mul_u32 most_u32 0 (Ok (U32 0))
    -- "neither it nor the remainder has a result for divisor 0"
    ∷ u32 div_u32 7 0 (Err DivisorZero)
    ∷ u32 div_u32 0 0 (Err DivisorZero)
    ∷ u32 div_u32 most_u32 0 (Err DivisorZero)
    ∷ u32 div_u32 most_u32 1 (Ok (U32 most_u32))
    ∷ u32 mod_u32 7 0 (Err DivisorZero)
    ∷ u32 mod_u32 0 0 (Err DivisorZero)
    ∷ u32 mod_u32 most_u32 0 (Err DivisorZero)
    ∷ u32 mod_u32 most_u32 most_u32 (Ok (U32 0))
    -- Fx: "sum and difference are exact", and "none has a result outside i32"
    ∷ fx add_fx (pos 2147483646) (pos 1) (Ok (Fx most))
    ∷ fx add_fx most (pos 1) (Err OutOfRange)
    ∷ fx add_fx (negsuc 2147483646) (negsuc 0) (Ok (Fx least))
    ∷ fx add_fx least (negsuc 0) (Err OutOfRange)
    ∷ fx sub_fx (negsuc 0) most (Ok (Fx least))
    ∷ fx sub_fx (negsuc 1) most (Err OutOfRange)
    ∷ fx sub_fx (negsuc 0) least (Ok (Fx most))
    ∷ fx sub_fx (pos 0) least (Err OutOfRange)
    -- "product / 1000 [..] truncate[s] toward zero": 2,147,483,647,999 / 1000 and -2,147,483,648,999 / 1000 are still in range, a thousandth
    -- farther from zero neither is
    ∷ fx mul_fx (pos 66431) (pos 32326529) (Ok (Fx most))
    ∷ fx mul_fx (pos 1073741824) (pos 2000) (Err OutOfRange)
    ∷ fx mul_fx (pos 3263) (negsuc 658131672) (Ok (Fx least))
    ∷ fx mul_fx (pos 715827883) (negsuc 2999) (Err OutOfRange)
    ∷ fx mul_fx least (negsuc 999) (Err OutOfRange)
    ∷ fx mul_fx least (pos 0) (Ok (Fx (pos 0)))
    -- DivFx "for divisor 0"; of a large number by zero both reasons hold, and "zero is tested first"
    ∷ fx div_fx (pos 7) (pos 0) (Err DivisorZero)
    ∷ fx div_fx (pos 0) (pos 0) (Err DivisorZero)
    ∷ fx div_fx most (pos 0) (Err DivisorZero)
    ∷ fx div_fx least (pos 0) (Err DivisorZero)
    -- "(lhs times 1000) / rhs truncate[s] toward zero"
    ∷ fx div_fx most (pos 1000) (Ok (Fx most))
    ∷ fx div_fx most (pos 999) (Err OutOfRange)
    ∷ fx div_fx least (pos 1000) (Ok (Fx least))
    ∷ fx div_fx least (negsuc 999) (Err OutOfRange)
    ∷ fx div_fx (pos 2147483) (pos 1) (Ok (Fx (pos 2147483000)))
    ∷ fx div_fx (pos 2147484) (pos 1) (Err OutOfRange)
    -- f64: past the greatest number and at what has no number, a value all the same. The greatest number twice; infinity less itself;
    -- 0.0 times -infinity
    ∷ f64 add_f64 0x7FEF_FFFF_FFFF_FFFF 0x7FEF_FFFF_FFFF_FFFF (infinite false)
    ∷ f64 sub_f64 0x7FF0_0000_0000_0000 0x7FF0_0000_0000_0000 not_anumber
    ∷ f64 mul_f64 0x0000_0000_0000_0000 0xFFF0_0000_0000_0000 not_anumber
    -- the default rewrite's DivF64: either zero by that name, whatever the dividend: 1.0, 0.0, NaN and -infinity
    ∷ f64 div_f64 0x3FF0_0000_0000_0000 0x0000_0000_0000_0000 (Err DivisorZero)
    ∷ f64 div_f64 0x3FF0_0000_0000_0000 0x8000_0000_0000_0000 (Err DivisorZero)
    ∷ f64 div_f64 0x0000_0000_0000_0000 0x0000_0000_0000_0000 (Err DivisorZero)
    ∷ f64 div_f64 0x7FF8_0000_0000_0000 0x8000_0000_0000_0000 (Err DivisorZero)
    ∷ f64 div_f64 0xFFF0_0000_0000_0000 0x0000_0000_0000_0000 (Err DivisorZero)
    -- "by NaN it is" folded; 1.0 by the least subnormal numbers leaves the finite ones
    ∷ f64 div_f64 0x3FF0_0000_0000_0000 0x7FF8_0000_0000_0000 not_anumber
    ∷ f64 div_f64 0x3FF0_0000_0000_0000 0xFFF0_0000_0000_0001 not_anumber
    ∷ f64 div_f64 0x3FF0_0000_0000_0000 0x0000_0000_0000_0001 (infinite false)
    ∷ f64 div_f64 0x3FF0_0000_0000_0000 0x8000_0000_0000_0001 (infinite true)
    -- the fuller one's: a value (W4)
    ∷ f64 ieee_div_f64 0x3FF0_0000_0000_0000 0x0000_0000_0000_0000 (infinite false)
    ∷ f64 ieee_div_f64 0x3FF0_0000_0000_0000 0x8000_0000_0000_0000 (infinite true)
    ∷ f64 ieee_div_f64 0x8000_0000_0000_0000 0x0000_0000_0000_0000 not_anumber
    ∷ f64 ieee_div_f64 0x3FF0_0000_0000_0000 0x7FF8_0000_0000_0000 not_anumber
    ∷ []

pub reasons_hold : map run reasons ≡ map (λ (c : LeafCase). c.result) reasons
unfolding residue wrap add_i32 sub_i32 mul_i32 div_i32 mod_i32 add_u32 sub_u32 mul_u32 div_u32 mod_u32 add_fx sub_fx mul_fx div_fx div_f64 float_of Ieee.eq Ieee.add Ieee.sub Ieee.mul Ieee.div Ieee.of_bits
reasons_hold = refl
