-- Document 02, W5: what each number leaf answers, whatever its operands: "a value, "divisor zero" or "out of range"", and exactly when. One law a leaf.
use Rattle.std.proofs.Common.{◌≡◌, ℕ, suc, ◌+◌, ◌-◌, ◌*◌, ◌/◌, ◌%◌, ◌^◌, ◌<◌, ◌≤◌, Bool, true, false, cond, eqb, ltb, leb, ◌⊎◌, ◌↔◌, ℤ, pos, negsuc, ◌+ℤ◌, ◌-ℤ◌, ◌*ℤ◌, sym, refl, ap, inl, inr, ⊎_elim, mod-lt, div-add-mod', arith, w32, SFits, ltb-false, ltb-true, le-ltb, lt-ltb, eq-eqb, eqb-true, le-leb}
use mathlib.Core.Bool.{false≢true}
use lib.Signed.{lt_z, quot_z, rem_z}
use lib.Ieee as Ieee
use lib.Ieee.{Float, nan, inf, fin, binary64}
use borrow.Author.Tests.{lt-leb}
use Rattle.leaves.specs.declared.constant.ConstVal.{ConstVal}
use Rattle.leaves.specs.declared.constant.ConstVal.TheVariants.{F64, I32, U32, Fx}
use Rattle.leaves.specs.Signed.{wrap, in_i32, is_zero, add_i32, sub_i32, mul_i32, div_i32, mod_i32}
use Rattle.leaves.specs.Unsigned.{add_u32, sub_u32, mul_u32, div_u32, mod_u32}
use Rattle.leaves.specs.Fixed.{fx_scale, add_fx, sub_fx, mul_fx, div_fx}
use Rattle.leaves.specs.Float.{float_of, zero_float, add_f64, sub_f64, mul_f64, ieee_div_f64, div_f64}
use Rattle.leaves.proofs.Integers.{less_or-not}
use Rattle.leaves.proofs.Division.{in_range_but_one}
use Rattle.leaves.proofs.Laws.{Truncated, truncated, zero_bits}
use Rattle.std.specs.Prelude.{Ok, Err}
use Rattle.leaves.specs.Verdict.{Verdict}
use Rattle.leaves.specs.declared.verdict.Decline.TheVariants.{DivisorZero, OutOfRange}

-- The whole answer v of a leaf, by two facts of its operands: its divisor is zero, and its exact result lies outside the type. "zero is tested
-- first". Where neither holds, it is the value x.
pub record Answers (Zero Outside : Type 0) (x : ConstVal) (v : Verdict) : Type 0 where
  pub zero_divisor : (v ≡ Err DivisorZero) ↔ Zero
  pub out_of_range : (v ≡ Err OutOfRange) ↔ ((Zero → ⊥) × Outside)
  pub has_value : (v ≡ Ok x) ↔ ((Zero → ⊥) × (Outside → ⊥))
  pub one_of_three : (v ≡ Err DivisorZero) ⊎ ((v ≡ Err OutOfRange) ⊎ (v ≡ Ok x))

-- a leaf that neither divides by zero nor leaves its type has a value whatever its operands
abbrev pub Always : ConstVal → Verdict → Type 0
Always x v = Answers ⊥ ⊥ x v

pub always : {x : ConstVal} {v : Verdict} → Always x v → v ≡ Ok x
always h = h.has_value.1 ((λ (n : ⊥). n), (λ (n : ⊥). n))

-- ---- by tests, the first of which is for zero

-- from what can't be, anything
never : {A : Type 0} → false ≡ true → A
never e = absurd (false≢true e)

by_tests : (z t : Bool) (x : ConstVal) → Answers (z ≡ true) (t ≡ false) x (cond z (Err DivisorZero) (cond t (Ok x) (Err OutOfRange)))
by_tests true t x = record {
  zero_divisor = ((λ e. refl), (λ e. refl));
  out_of_range = ((λ (e : Err DivisorZero ≡ Err OutOfRange). never cc), (λ p. absurd (p.0 refl)));
  has_value = ((λ (e : Err DivisorZero ≡ Ok x). never cc), (λ p. absurd (p.0 refl)));
  one_of_three = inl refl;
}
by_tests false true x = record {
  zero_divisor = ((λ (e : Ok x ≡ Err DivisorZero). never cc), (λ e. never e));
  out_of_range = ((λ (e : Ok x ≡ Err OutOfRange). never cc), (λ p. never (sym p.1)));
  has_value = ((λ e. ((λ n. never n), (λ n. never (sym n)))), (λ p. refl));
  one_of_three = inr (inr refl);
}
by_tests false false x = record {
  zero_divisor = ((λ (e : Err OutOfRange ≡ Err DivisorZero). never cc), (λ e. never e));
  out_of_range = ((λ e. ((λ n. never n), refl)), (λ p. refl));
  has_value = ((λ (e : Err OutOfRange ≡ Ok x). never cc), (λ p. absurd (p.1 refl)));
  one_of_three = inr (inl refl);
}

-- the same by facts that the tests decide
read : {Zero Zero' Outside Outside' : Type 0} {x : ConstVal} {v : Verdict} → Zero ↔ Zero' → Outside ↔ Outside' → Answers Zero Outside x v → Answers Zero' Outside' x v
read z o a = record {
  zero_divisor = ((λ e. z.0 (a.zero_divisor.0 e)), (λ h. a.zero_divisor.1 (z.1 h)));
  out_of_range = (
    (λ e. let p = a.out_of_range.0 e in ((λ h. p.0 (z.1 h)), o.0 p.1)),
    (λ p. a.out_of_range.1 ((λ h. p.0 (z.0 h)), o.1 p.1)),
  );
  has_value = (
    (λ e. let p = a.has_value.0 e in ((λ h. p.0 (z.1 h)), (λ h. p.1 (o.1 h)))),
    (λ p. a.has_value.1 ((λ h. p.0 (z.0 h)), (λ h. p.1 (o.0 h)))),
  );
  one_of_three = a.one_of_three;
}

-- a leaf that doesn't divide; one that never leaves its type
undivided : (false ≡ true) ↔ ⊥
undivided = (never, (λ (n : ⊥). absurd n))

inside : (true ≡ false) ↔ ⊥
inside = ((λ e. never (sym e)), (λ (n : ⊥). absurd n))

total : (x : ConstVal) → Always x (Ok x)
total x = read undivided inside (by_tests false true x)

-- ---- I32

-- "I32 add, subtract and multiply wrap": they always have a value
pub sum-i32 : (a b : ℤ) → Always (I32 (wrap (a +ℤ b))) (add_i32 a b)
unfolding add_i32
sum-i32 a b = total (I32 (wrap (a +ℤ b)))

pub difference_i32 : (a b : ℤ) → Always (I32 (wrap (a -ℤ b))) (sub_i32 a b)
unfolding sub_i32
difference_i32 a b = total (I32 (wrap (a -ℤ b)))

pub product_i32 : (a b : ℤ) → Always (I32 (wrap (a *ℤ b))) (mul_i32 a b)
unfolding mul_i32
product_i32 a b = total (I32 (wrap (a *ℤ b)))

is_zero_lem : (b : ℤ) → (is_zero b ≡ true) ↔ (b ≡ pos 0)
is_zero_lem (pos n) = ((λ t. ap pos (eqb-true n 0 t)), (λ e. ap is_zero e))
is_zero_lem (negsuc n) = ((λ t. let e : suc n ≡ 0 = eqb-true (suc n) 0 t in absurd (omega arith)), (λ e. ap is_zero e))

not_zero : (b : ℤ) → (b ≡ pos 0 → ⊥) → is_zero b ≡ false
not_zero b n = go (is_zero b) (λ t. n ((is_zero_lem b).0 t))
  where
    go : (t : Bool) → (t ≡ true → ⊥) → t ≡ false
    go true m = absurd (m refl)
    go false m = refl

-- outside i32: below the least number or above the greatest
abbrev pub OutsideI32 : ℤ → Type 0
OutsideI32 z = (lt_z z (negsuc 2147483647) ≡ true) ⊎ (lt_z (pos 2147483647) z ≡ true)

outside_i32 : (z : ℤ) → (in_i32 z ≡ false) ↔ OutsideI32 z
outside_i32 (pos n) = (
  (λ t. let h : 2147483648 ≤ n = ltb-false n 2147483648 t in inr (lt-ltb 2147483647 n (omega arith))),
  ⊎_elim never (λ (t : ltb 2147483647 n ≡ true). let h : 2147483647 < n = ltb-true 2147483647 n t in le-ltb n 2147483648 (omega arith)),
)
outside_i32 (negsuc n) = (
  (λ t. let h : 2147483648 ≤ n = ltb-false n 2147483648 t in inl (lt-ltb 2147483647 n (omega arith))),
  ⊎_elim (λ (t : ltb 2147483647 n ≡ true). let h : 2147483647 < n = ltb-true 2147483647 n t in le-ltb n 2147483648 (omega arith)) never,
)

-- -2,147,483,648 by -1
abbrev pub LeastByMinusOne : ℤ → ℤ → Type 0
LeastByMinusOne a b = (a ≡ negsuc 2147483647) × (b ≡ negsuc 0)

-- of two i32 this quotient alone lies outside
least_by_minus_one : (a b : ℤ) → SFits w32 a → SFits w32 b → (in_i32 (quot_z a b) ≡ false) ↔ LeastByMinusOne a b
least_by_minus_one a b h k = (
  (λ t. ⊎_elim (λ (u : in_i32 (quot_z a b) ≡ true). never cc) (λ (e : LeastByMinusOne a b). e) (in_range_but_one a b h k)),
  (λ e. rw (e.0, e.1) refl),
)

pub only-least : (a b : ℤ) → SFits w32 a → SFits w32 b → OutsideI32 (quot_z a b) ↔ LeastByMinusOne a b
only-least a b h k =
    let t = outside_i32 (quot_z a b) in
    let l = least_by_minus_one a b h k in
    ((λ o. l.0 (t.1 o)), (λ e. t.0 (l.1 e)))

-- a = q·b + r, toward zero; neither for divisor 0. The remainder is out of range with the quotient, though of -2,147,483,648 by -1 it would be 0
pub record DividedI32 (a b q r : ℤ) : Type 0 where
  pub toward_zero : (b ≡ pos 0 → ⊥) → Truncated a b q r
  pub quotient : Answers (b ≡ pos 0) (LeastByMinusOne a b) (I32 q) (div_i32 a b)
  pub remainder : Answers (b ≡ pos 0) (LeastByMinusOne a b) (I32 r) (mod_i32 a b)

pub divided_i32 : (a b : ℤ) → SFits w32 a → SFits w32 b → (q r : ℤ) × DividedI32 a b q r
unfolding div_i32 mod_i32
divided_i32 a b h k = (
  quot_z a b,
  rem_z a b,
  record {
    toward_zero = λ n. truncated a b (not_zero b n);
    quotient = read (is_zero_lem b) (least_by_minus_one a b h k) (by_tests (is_zero b) (in_i32 (quot_z a b)) (I32 (quot_z a b)));
    remainder = read (is_zero_lem b) (least_by_minus_one a b h k) (by_tests (is_zero b) (in_i32 (quot_z a b)) (I32 (rem_z a b)));
  },
)

-- ---- Fx: the exact number of thousandths, truncated toward zero, if an i32 holds it

pub sum-fx : (a b : ℤ) → Answers ⊥ (OutsideI32 (a +ℤ b)) (Fx (a +ℤ b)) (add_fx a b)
unfolding add_fx
sum-fx a b = read undivided (outside_i32 (a +ℤ b)) (by_tests false (in_i32 (a +ℤ b)) (Fx (a +ℤ b)))

pub difference_fx : (a b : ℤ) → Answers ⊥ (OutsideI32 (a -ℤ b)) (Fx (a -ℤ b)) (sub_fx a b)
unfolding sub_fx
difference_fx a b = read undivided (outside_i32 (a -ℤ b)) (by_tests false (in_i32 (a -ℤ b)) (Fx (a -ℤ b)))

pub product_fx : (a b : ℤ) → (q r : ℤ) × Truncated (a *ℤ b) fx_scale q r × Answers ⊥ (OutsideI32 q) (Fx q) (mul_fx a b)
unfolding mul_fx
product_fx a b =
    let q = quot_z (a *ℤ b) fx_scale in
    (q, rem_z (a *ℤ b) fx_scale, truncated (a *ℤ b) fx_scale refl, read undivided (outside_i32 q) (by_tests false (in_i32 q) (Fx q)))

pub quotient_fx : (a b : ℤ) → (q r : ℤ) × ((b ≡ pos 0 → ⊥) → Truncated (a *ℤ fx_scale) b q r) × Answers (b ≡ pos 0) (OutsideI32 q) (Fx q) (div_fx a b)
unfolding div_fx
quotient_fx a b =
    let q = quot_z (a *ℤ fx_scale) b in (
      q,
      rem_z (a *ℤ fx_scale) b,
      (λ n. truncated (a *ℤ fx_scale) b (not_zero b n)),
      read (is_zero_lem b) (outside_i32 q) (by_tests (is_zero b) (in_i32 q) (Fx q)),
    )

-- ---- U32: the exact number, if it is in range

outside_u32 : (n : ℕ) → (ltb n (2 ^ 32) ≡ false) ↔ (2 ^ 32 ≤ n)
outside_u32 n = (ltb-false n 4294967296, le-ltb n 4294967296)

pub sum-u32 : (a b : ℕ) → Answers ⊥ (2 ^ 32 ≤ a + b) (U32 (a + b)) (add_u32 a b)
unfolding add_u32
sum-u32 a b = read undivided (outside_u32 (a + b)) (by_tests false (ltb (a + b) (2 ^ 32)) (U32 (a + b)))

pub product_u32 : (a b : ℕ) → Answers ⊥ (2 ^ 32 ≤ a * b) (U32 (a * b)) (mul_u32 a b)
unfolding mul_u32
product_u32 a b = read undivided (outside_u32 (a * b)) (by_tests false (ltb (a * b) (2 ^ 32)) (U32 (a * b)))

-- what b is added to; below 0 it is out of range
pub difference_u32 : (a b : ℕ) → (n : ℕ) × (b ≤ a → n + b ≡ a) × Answers ⊥ (a < b) (U32 n) (sub_u32 a b)
unfolding sub_u32
difference_u32 a b = (a - b, (λ h. omega arith), read undivided below (by_tests false (leb b a) (U32 (a - b))))
  where
    below : (leb b a ≡ false) ↔ (a < b)
    below = (
      (λ t. ⊎_elim (λ (l : a < b). l) (λ (l : b ≤ a). let u : leb b a ≡ true = le-leb b a l in never cc) (less_or-not a b)),
      lt-leb b a,
    )

-- a = q·b + r, with r below b; neither for divisor 0
pub record DividedU32 (a b q r : ℕ) : Type 0 where
  pub whole : a ≡ q * b + r
  pub smaller : 0 < b → r < b
  pub quotient : Answers (b ≡ 0) ⊥ (U32 q) (div_u32 a b)
  pub remainder : Answers (b ≡ 0) ⊥ (U32 r) (mod_u32 a b)

pub divided_u32 : (a b : ℕ) → (q r : ℕ) × DividedU32 a b q r
unfolding div_u32 mod_u32
divided_u32 a b = (
  a / b,
  a % b,
  record {
    whole = sym (div-add-mod' a b);
    smaller = λ h. mod-lt a h;
    quotient = read (eqb-true b 0, eq-eqb b 0) inside (by_tests (eqb b 0) true (U32 (a / b)));
    remainder = read (eqb-true b 0, eq-eqb b 0) inside (by_tests (eqb b 0) true (U32 (a % b)));
  },
)

-- ---- f64

-- these always have a value, IEEE 754's division by every divisor too
pub sum-f64 : (a b : Float) → Always (F64 (Ieee.add binary64 a b)) (add_f64 a b)
sum-f64 a b = total (F64 (Ieee.add binary64 a b))

pub difference_f64 : (a b : Float) → Always (F64 (Ieee.sub binary64 a b)) (sub_f64 a b)
difference_f64 a b = total (F64 (Ieee.sub binary64 a b))

pub product_f64 : (a b : Float) → Always (F64 (Ieee.mul binary64 a b)) (mul_f64 a b)
product_f64 a b = total (F64 (Ieee.mul binary64 a b))

pub ieee_quotient_f64 : (a b : Float) → Always (F64 (Ieee.div binary64 a b)) (ieee_div_f64 a b)
ieee_quotient_f64 a b = total (F64 (Ieee.div binary64 a b))

-- the default rewrite's DivF64 declines a divisor that is equal to zero, and else is IEEE 754's division
pub quotient_f64 : (a b : Float) → Answers (Ieee.eq b zero_float ≡ true) ⊥ (F64 (Ieee.div binary64 a b)) (div_f64 a b)
unfolding div_f64
quotient_f64 a b = read ((λ t. t), (λ t. t)) inside (by_tests (Ieee.eq b zero_float) true (F64 (Ieee.div binary64 a b)))

-- by the divisor's bits: those of 0.0 and of -0.0
pub zero_divisors : (n : ℕ) → n < 2 ^ 64 → (Ieee.eq (float_of n) zero_float ≡ true) ↔ ((n ≡ 0) ⊎ (n ≡ 0x8000_0000_0000_0000))
unfolding float_of Ieee.eq Ieee.of_bits
zero_divisors n h = (zero_bits n h, ⊎_elim (λ (e : n ≡ 0). rw e refl) (λ (e : n ≡ 0x8000_0000_0000_0000). rw e refl))

pub quotient_f64_bits : (a : Float) (n : ℕ) → n < 2 ^ 64
    → Answers ((n ≡ 0) ⊎ (n ≡ 0x8000_0000_0000_0000)) ⊥ (F64 (Ieee.div binary64 a (float_of n))) (div_f64 a (float_of n))
quotient_f64_bits a n h = read (zero_divisors n h) ((λ (n : ⊥). n), (λ (n : ⊥). n)) (quotient_f64 a (float_of n))

-- a NaN is no zero divisor
pub by_nan : (a : Float) → div_f64 a nan ≡ Ok (F64 nan)
unfolding div_f64 Ieee.eq Ieee.div
by_nan nan = refl
by_nan (inf s) = refl
by_nan (fin s m e) = refl
