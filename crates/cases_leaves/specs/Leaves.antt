-- Inner: the leaves by their numbers in a file of vectors (tests/vectors/README.md): the first digit of a number is the kind, the second the leaf of it.
-- Operands and results stand by their bits, a quad and a bool by their numbers.
use Rattle.std.specs.Prelude.{ℕ, ◌/◌, ◌%◌, Bool, ◌&&◌, ◌||◌, not, cond, List, [], ◌∷◌, eqb, leb, ltb, ℤ, Float, get_or, Option, Some, None, Result, Ok, Err}
use Rattle.std.specs.Int.Signed.{lt_z, le_z}
use Rattle.std.specs.Int.{w32}
use Rattle.std.proofs.Common.{of_z, to_z}
use Rattle.leaves.specs.Float.{float_of, bits_of, add_f64, sub_f64, mul_f64, div_f64, ieee_div_f64}
use Rattle.leaves.specs.Signed.{add_i32, sub_i32, mul_i32, div_i32, mod_i32}
use Rattle.leaves.specs.Unsigned.{add_u32, sub_u32, mul_u32, div_u32, mod_u32}
use Rattle.leaves.specs.Fixed.{add_fx, sub_fx, mul_fx, div_fx}
use Rattle.leaves.specs.Quads.{q_and, q_or, q_impl, q_not, q_truth_and, q_truth_or, q_truth_impl, q_truth_not, quad_of, number_of}
use Rattle.leaves.specs.Constants.{const_eq, on_f64, on_i32, on_u32, on_fx}
use Rattle.factor.specs.Factor.{factor_fx, factor_i32}
use Rattle.leaves.specs.declared.quad.Quad.{Quad}
use Rattle.leaves.specs.declared.quad.Quad.TheVariants.{N}
use Rattle.leaves.specs.declared.constant.ConstVal.{ConstVal}
use Rattle.leaves.specs.declared.constant.ConstVal.TheVariants.{Unknown, Quad as QuadV, Bool as BoolV, F64, I32, U32, Fx}
use Rattle.cases_leaves.specs.declared.leaf.NoValue.{NoValue}
use Rattle.cases_leaves.specs.declared.leaf.NoValue.TheVariants.{Absent, DivisorZero, OutOfRange, NoLeaf}
use Rattle.leaves.specs.Verdict.{Verdict}
use Rattle.leaves.specs.declared.verdict.Decline.{Decline}
use Rattle.leaves.specs.declared.verdict.Decline.TheVariants.{LeftUnknown, RightUnknown, Unfit, DivisorZero as DivisorZeroV, OutOfRange as OutOfRangeV, NotComputed}

-- ---- operands

abbrev pub u32_of : ℕ → ℕ
u32_of n = n % 4294967296

unfoldable pub i32_of : ℕ → ℤ
i32_of n = to_z w32 (u32_of n)

-- N where the number is no quad's
abbrev pub quad_in : Option Quad → Quad
quad_in (Some q) = q
quad_in None = N

unfoldable pub quad_at : ℕ → Quad
quad_at n = quad_in (quad_of (n % 256))

-- the constant of a kind, numbered as ConstVal's cases are
unfoldable pub constant_of : ℕ → ℕ → ConstVal
constant_of k n = get_or (Unknown ∷ QuadV (quad_at n) ∷ BoolV (eqb n 1) ∷ F64 (float_of n) ∷ I32 (i32_of n) ∷ U32 (u32_of n) ∷ Fx (i32_of n) ∷ []) k Unknown

-- ---- answers

-- a value by its bits, or why there is none
abbrev pub Answer : Type 0
Answer = Result ℕ NoValue

-- no leaf has the number, or a value is of another kind than its leaf's
abbrev pub no_leaf : Answer
no_leaf = Err NoLeaf

-- the bits of a value of a kind; one of another kind is no leaf's
abbrev pub f64_bits : ConstVal → Answer
f64_bits v = on_f64 v (λ (x : Float). Ok (bits_of x)) no_leaf

abbrev pub i32_bits : ConstVal → Answer
i32_bits v = on_i32 v (λ (x : ℤ). Ok (of_z w32 x)) no_leaf

abbrev pub u32_bits : ConstVal → Answer
u32_bits v = on_u32 v (λ (x : ℕ). Ok x) no_leaf

abbrev pub fx_bits : ConstVal → Answer
fx_bits v = on_fx v (λ (x : ℤ). Ok (of_z w32 x)) no_leaf

-- why there is no value; a number leaf has two reasons
abbrev pub reason_of : Decline → NoValue
reason_of LeftUnknown = NoLeaf
reason_of RightUnknown = NoLeaf
reason_of Unfit = NoLeaf
reason_of DivisorZeroV = DivisorZero
reason_of OutOfRangeV = OutOfRange
reason_of NotComputed = NoLeaf

-- a value's bits, or one of the reasons
abbrev pub of_verdict : (ConstVal → Answer) → Verdict → Answer
of_verdict bits (Ok v) = bits v
of_verdict bits (Err d) = Err (reason_of d)

abbrev pub of_quad : Quad → Answer
of_quad q = Ok (number_of q)

abbrev pub of_number : Option Quad → Answer
of_number (Some q) = of_quad q
of_number None = Err Absent

abbrev pub of_factor : Option ℤ → Answer
of_factor (Some x) = Ok (of_z w32 x)
of_factor None = Err Absent

abbrev pub of_bool : Bool → Answer
of_bool b = cond b (Ok 1) (Ok 0)

-- ---- leaves

-- of a table; no number past it is a leaf's
unfoldable pub pick : List Answer → ℕ → Answer
pick l n = get_or l n no_leaf

-- 0 reads a value and writes it back; 4 is the Rust's division, 5 IEEE 754's
abbrev pub f64_leaf : ℕ → Float → Float → Answer
f64_leaf n a b = pick (Ok (bits_of a) ∷ of_verdict f64_bits (add_f64 a b) ∷ of_verdict f64_bits (sub_f64 a b) ∷ of_verdict f64_bits (mul_f64 a b) ∷ of_verdict f64_bits (div_f64 a b) ∷ of_verdict f64_bits (ieee_div_f64 a b) ∷ []) n

abbrev pub i32_leaf : ℕ → ℤ → ℤ → Answer
i32_leaf n a b = pick (no_leaf ∷ of_verdict i32_bits (add_i32 a b) ∷ of_verdict i32_bits (sub_i32 a b) ∷ of_verdict i32_bits (mul_i32 a b) ∷ of_verdict i32_bits (div_i32 a b) ∷ of_verdict i32_bits (mod_i32 a b) ∷ of_bool (lt_z a b) ∷ of_bool (le_z a b) ∷ []) n

abbrev pub u32_leaf : ℕ → ℕ → ℕ → Answer
u32_leaf n a b = pick (no_leaf ∷ of_verdict u32_bits (add_u32 a b) ∷ of_verdict u32_bits (sub_u32 a b) ∷ of_verdict u32_bits (mul_u32 a b) ∷ of_verdict u32_bits (div_u32 a b) ∷ of_verdict u32_bits (mod_u32 a b) ∷ of_bool (ltb a b) ∷ of_bool (leb a b) ∷ []) n

abbrev pub fx_leaf : ℕ → ℤ → ℤ → Answer
fx_leaf n a b = pick (no_leaf ∷ of_verdict fx_bits (add_fx a b) ∷ of_verdict fx_bits (sub_fx a b) ∷ of_verdict fx_bits (mul_fx a b) ∷ of_verdict fx_bits (div_fx a b) ∷ []) n

-- 0 reads a quad from a number; QNot and QTruthNot have one operand, the left
abbrev pub quad_leaf : ℕ → ℕ → ℕ → Answer
quad_leaf n a b =
    pick (
    of_number (quad_of (a % 256))
    ∷ of_quad (q_and (quad_at a) (quad_at b)) ∷ of_quad (q_or (quad_at a) (quad_at b)) ∷ of_quad (q_impl (quad_at a) (quad_at b)) ∷ of_quad (q_not (quad_at a))
    ∷ of_quad (q_truth_and (quad_at a) (quad_at b)) ∷ of_quad (q_truth_or (quad_at a) (quad_at b)) ∷ of_quad (q_truth_impl (quad_at a) (quad_at b)) ∷ of_quad (q_truth_not (quad_at a))
    ∷ []
    ) n

-- BoolNot has one operand, the left
abbrev pub bool_leaf : ℕ → Bool → Bool → Answer
bool_leaf n a b = pick (no_leaf ∷ of_bool (a && b) ∷ of_bool (a || b) ∷ of_bool (not a) ∷ []) n

-- equality of two constants of one kind, which the leaf numbers; or, as 0, of the zeros of two kinds
abbrev pub equality_leaf : ℕ → ℕ → ℕ → Answer
equality_leaf k a b = cond (eqb k 0) (of_bool (const_eq (constant_of a 0) (constant_of b 0))) (cond (leb k 6) (of_bool (const_eq (constant_of k a) (constant_of k b))) no_leaf)

-- the other factor of a MulFx and of a MulI32 (document 02, W14), by the wanted value and a factor
abbrev pub factor_leaf : ℕ → ℤ → ℤ → Answer
factor_leaf n wanted factor = pick (no_leaf ∷ of_factor (factor_fx wanted factor) ∷ of_factor (factor_i32 wanted factor) ∷ []) n

unfoldable pub answer_of : ℕ → ℕ → ℕ → Answer
answer_of leaf a b = pick (no_leaf ∷ f64_leaf (leaf % 16) (float_of a) (float_of b) ∷ i32_leaf (leaf % 16) (i32_of a) (i32_of b) ∷ u32_leaf (leaf % 16) (u32_of a) (u32_of b) ∷ fx_leaf (leaf % 16) (i32_of a) (i32_of b) ∷ quad_leaf (leaf % 16) a b ∷ bool_leaf (leaf % 16) (eqb a 1) (eqb b 1) ∷ equality_leaf (leaf % 16) a b ∷ factor_leaf (leaf % 16) (i32_of a) (i32_of b) ∷ []) (leaf / 16)
