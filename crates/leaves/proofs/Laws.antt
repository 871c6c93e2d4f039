-- Laws that show the definitions of specs/ to be the right ones; what each number leaf answers is in Reasons.antt.
use Rattle.std.proofs.Common.{◌≡◌, ℕ, zero, suc, ◌+◌, ◌-◌, ◌*◌, ◌/◌, ◌%◌, ◌^◌, ◌<◌, ◌≤◌, Bool, true, false, cond, not, eqb, ltb, leb, ◌⊎◌, ℤ, pos, negsuc, ◌+ℤ◌, ◌*ℤ◌, neg_ℤ, nat_abs, sym, refl, ap, ◌∙◌, subst, inl, inr, ⊎_elim, zero-lt-suc, mul-pos, div-add-mod', zero-mul, arith, to_z-of_z, w32, SFits, to_z, of_z, ltb-true, le-ltb, lt-ltb, eq-eqb, ne_eqb, eqb-true, le-leb, leb-true}
use mathlib.Core.Path.{subst⁻¹}
use native.Mathlib.Nat.{zero-div}
use lib.Signed.{le_z, lt_z, quot_z, rem_z}
use lib.Dec as Dec
use lib.Ieee
use lib.Ieee as Ieee
use lib.Ieee.{Float, nan, inf, fin, binary64, unlike, up, down}
use lib.Ieee.Fits.{up_pos}
use borrow.Author.Tests.{eqb-false, lt-leb}
use mir.Facts.{of_z-to_z, sfits_to_z}
use Rattle.leaves.specs.declared.constant.ConstVal.{ConstVal}
use Rattle.leaves.specs.declared.constant.ConstVal.TheVariants.{F64}
use Rattle.leaves.specs.Signed.{residue, wrap, is_zero, same_z}
use Rattle.leaves.specs.Float.{float_of, bits_of, zero_float, ieee_div_f64, div_f64, nonzero, negative, by_zero}
use Rattle.leaves.proofs.Integers.{less_or-not, sub_pos, sub_neg}
use Rattle.leaves.proofs.Division as Division
use Rattle.leaves.proofs.Floats.{above, back, forth}
use Rattle.std.specs.Prelude.{Ok, Err}
use Rattle.leaves.specs.declared.verdict.Decline.TheVariants.{DivisorZero}

-- ---- I32: wrap z is the one i32 that is congruent to z modulo 2^32

residue_below : (z : ℤ) → residue z 4294967296 < 4294967296
unfolding residue
residue_below (pos n) = omega arith
residue_below (negsuc n) = omega arith

-- an i32's residue is its two's complement bits
pub residue_bits : (x : ℤ) → SFits w32 x → residue x (2 ^ 32) ≡ of_z w32 x
unfolding residue
residue_bits (pos n) h = let k : n < 2147483648 = h.sfits in omega arith
residue_bits (negsuc n) h = let k : n < 2147483648 = h.sfits in omega arith

pub wrap_fits : (z : ℤ) → SFits w32 (wrap z)
unfolding wrap
wrap_fits z = sfits_to_z (record { fits = residue_below z })

pub wrap_congruent : (z : ℤ) → residue (wrap z) (2 ^ 32) ≡ residue z (2 ^ 32)
unfolding wrap
wrap_congruent z = residue_bits (wrap z) (wrap_fits z) ∙ of_z-to_z {w = w32} (record { fits = residue_below z })

pub wrap_unique : (x z : ℤ) → SFits w32 x → residue x (2 ^ 32) ≡ residue z (2 ^ 32) → x ≡ wrap z
unfolding wrap
wrap_unique x z h e = sym (to_z-of_z h) ∙ ap (λ (n : ℕ). to_z w32 n) (sym (residue_bits x h) ∙ e)

-- the residue is what is left of z when a multiple of 2^32 is taken away
pub record Congruent (z : ℤ) (r : ℕ) : Type 0 where
  pub times : ℤ
  pub whole : z ≡ times *ℤ pos (2 ^ 32) +ℤ pos r

pub residue_congruent : (z : ℤ) → Congruent z (residue z (2 ^ 32))
unfolding residue
residue_congruent (pos n) = record { times = pos (n / 4294967296); whole = ap pos (sym (div-add-mod' n 4294967296)) }
residue_congruent (negsuc n) = record {
  times = negsuc (n / 4294967296);
  whole =
      let p : ℕ = n / 4294967296 * 4294967296 + 4294967295 in
      let r : ℕ = 4294967296 - suc (n % 4294967296) in
      let e : suc (n / 4294967296) * 4294967296 ≡ suc p = omega arith in
      let f : suc p - suc r ≡ n = omega arith in
      sym (ap (λ (x : ℕ). neg_ℤ (pos x) +ℤ pos r) e ∙ sub_neg r (suc p) (omega arith) ∙ ap negsuc f);
}

-- ---- quotient and remainder

-- q is the exact z / d truncated toward zero: z = q·d + r, and r is smaller than d and never of the other sign than z
pub record Truncated (z d q r : ℤ) : Type 0 where
  pub whole : z ≡ q *ℤ d +ℤ r
  pub size : nat_abs r < nat_abs d
  pub not_negative : le_z (pos 0) z ≡ true → le_z (pos 0) r ≡ true
  pub not_positive : le_z z (pos 0) ≡ true → le_z r (pos 0) ≡ true

positive : (n : ℕ) → (n ≡ 0 → ⊥) → 0 < n
positive zero h = absurd (h refl)
positive (suc n) h = omega arith

pub truncated : (z d : ℤ) → is_zero d ≡ false → Truncated z d (quot_z z d) (rem_z z d)
truncated z d n = record {
  whole = Division.whole z d;
  size = Division.size z d (positive (nat_abs d) (eqb-false (nat_abs d) 0 n));
  not_negative = Division.not_negative z d;
  not_positive = Division.not_positive z d;
}

-- ---- comparisons: the orders

less_not : (a b : ℕ) → ltb a b ≡ not (leb b a)
less_not a b = ⊎_elim
    (λ (l : a < b). lt-ltb a b l ∙ sym (ap not (lt-leb b a l)))
    (λ (l : b ≤ a). le-ltb a b l ∙ sym (ap not (le-leb b a l)))
    (less_or-not a b)

pub le_u32 : (a b : ℕ) → (leb a b ≡ true → a ≤ b) × (a ≤ b → leb a b ≡ true)
le_u32 a b = (leb-true a b, le-leb a b)

pub lt_u32 : (a b : ℕ) → (ltb a b ≡ true → a < b) × (a < b → ltb a b ≡ true)
lt_u32 a b = (ltb-true a b, lt-ltb a b)

-- a is at most b exactly when b is a and a natural number more
pub le_i32 : (a b : ℤ) → le_z a b ≡ true → (n : ℕ) × (b ≡ a +ℤ pos n)
le_i32 (pos a) (pos b) t = (b - a, ap pos (omega (arith, leb-true a b t)))
le_i32 (pos a) (negsuc b) t = absurd (subst Dec.T (sym t) tt)
le_i32 (negsuc a) (pos b) t = (suc a + b, sym (sub_pos (suc a + b) (suc a) (omega arith) ∙ ap pos (let e : suc a + b - suc a ≡ b = omega arith in e)))
le_i32 (negsuc a) (negsuc b) t =
    let h : b ≤ a = leb-true b a t in
    let e : suc a - suc (a - b) ≡ b = omega arith in
    (a - b, sym (sub_neg (a - b) (suc a) (omega arith) ∙ ap negsuc e))

pub more_le : (a : ℤ) (n : ℕ) → le_z a (a +ℤ pos n) ≡ true
more_le (pos a) n = le-leb a (a + n) (omega arith)
more_le (negsuc a) n = ⊎_elim
    (λ (l : n < suc a). rw (sub_neg n (suc a) l) (le-leb (suc a - suc n) a (omega arith)))
    (λ (l : suc a ≤ n). rw (sub_pos n (suc a) l))
    (less_or-not n (suc a))

-- a is less than b exactly when b is not at most a
pub lt_i32 : (a b : ℤ) → lt_z a b ≡ not (le_z b a)
lt_i32 (pos a) (pos b) = less_not a b
lt_i32 (pos a) (negsuc b) = refl
lt_i32 (negsuc a) (pos b) = refl
lt_i32 (negsuc a) (negsuc b) = less_not b a

-- ---- equality of two integers

pub same_sound : (a b : ℤ) → same_z a b ≡ true → a ≡ b
same_sound (pos m) (pos n) t = ap pos (eqb-true m n t)
same_sound (pos m) (negsuc n) t = absurd (subst Dec.T (sym t) tt)
same_sound (negsuc m) (pos n) t = absurd (subst Dec.T (sym t) tt)
same_sound (negsuc m) (negsuc n) t = ap negsuc (eqb-true m n t)

pub same_self : (a : ℤ) → same_z a a ≡ true
same_self (pos m) = eq-eqb m m refl
same_self (negsuc m) = eq-eqb m m refl

-- ---- f64

-- reading back what was written gives the value
pub read_written : (x : Float) → Ieee.fits binary64 x ≡ true → float_of (bits_of x) ≡ x
read_written = back

-- a NaN pattern that was written is 7FF8000000000000
pub written_nan : (x : Float) → Ieee.fits binary64 x ≡ true → 0x7ff0_0000_0000_0000 < bits_of x % 0x8000_0000_0000_0000
    → bits_of x ≡ 0x7ff8_0000_0000_0000
unfolding float_of bits_of Ieee.to_bits
written_nan x h l =
    let e : x ≡ nan = sym (back x h) ∙ above (bits_of x) l in
    ap bits_of e

-- ---- f64: division by zero. IEEE 754's is document 02's words (W4), whatever the dividend

-- a finite number that is equal to zero is a zero
no_digits : (s : Bool) (m : ℕ) (e : ℤ) → Ieee.eq (fin s m e) zero_float ≡ true → eqb m 0 ≡ true
unfolding Ieee.eq
no_digits s zero e t = refl
no_digits s (suc m) e t =
    let p : 0 < suc m * up e = mul-pos (zero-lt-suc m) (up_pos e) in
    let n : eqb (suc m * up e * 1) (0 * down e) ≡ false = ne_eqb (suc m * up e * 1) (0 * down e) (λ (z : suc m * up e * 1 ≡ 0 * down e). omega arith) in
    absurd (subst Dec.T (sym (rw n at t)) tt)

pub divided_by_zero : (x z : Float) → Ieee.eq z zero_float ≡ true → Ieee.div binary64 x z ≡ by_zero x z
unfolding Ieee.div Ieee.eq
divided_by_zero x nan t = absurd (subst Dec.T (sym t) tt)
divided_by_zero x (inf s) t = absurd (subst Dec.T (sym t) tt)
divided_by_zero nan (fin s m e) t = refl
divided_by_zero (inf r) (fin s m e) t = refl
divided_by_zero (fin r n d) (fin s m e) t = rw (no_digits s m e t) (flipped (eqb n 0))
  where
    flipped : (b : Bool) → cond b nan (inf (unlike r s)) ≡ cond (not b) (inf (unlike r s)) nan
    flipped true = refl
    flipped false = refl

-- sign by sign: of like signs infinity, of unlike ones -infinity; of zero or NaN, NaN
pub record BySigns (x z : Float) : Type 0 where
  pub like_signs : nonzero x ≡ true → negative x ≡ negative z → ieee_div_f64 x z ≡ Ok (F64 (inf false))
  pub unlike_signs : nonzero x ≡ true → negative x ≡ not (negative z) → ieee_div_f64 x z ≡ Ok (F64 (inf true))
  pub zero_or_nan : nonzero x ≡ false → ieee_div_f64 x z ≡ Ok (F64 nan)

pub by_signs : (x z : Float) → Ieee.eq z zero_float ≡ true → BySigns x z
by_signs x z t = record {
  like_signs = λ n s. comes (rw (n, s) (ap inf (alike (negative z))));
  unlike_signs = λ n s. comes (rw (n, s) (ap inf (opposed (negative z))));
  zero_or_nan = λ n. comes (rw n);
}
  where
    comes : {q : Float} → by_zero x z ≡ q → ieee_div_f64 x z ≡ Ok (F64 q)
    comes e = ap (λ (y : Float). Ok (F64 y)) (divided_by_zero x z t ∙ e)

    alike : (s : Bool) → unlike s s ≡ false
    alike true = refl
    alike false = refl

    opposed : (s : Bool) → unlike (not s) s ≡ true
    opposed true = refl
    opposed false = refl

-- a zero is written as 0 or as 8000000000000000, and no other pattern is read as one
zero_written : (s : Bool) (e : ℤ) → bits_of (fin s 0 e) ≡ cond s 0x8000_0000_0000_0000 0
unfolding bits_of Ieee.to_bits Ieee.size Ieee.climb Ieee.span
zero_written s e = ap (λ (n : ℕ). cond s (Ieee.top binary64) 0 + (Ieee.size n - 53) * Ieee.hid binary64 + n / 2 ^ (Ieee.size n - 53)) none ∙ sums s
  where
    none : 0 * up e * 2 ^ Ieee.low binary64 / down e ≡ 0
    none = ap (λ (n : ℕ). n * 2 ^ Ieee.low binary64 / down e) (zero-mul (up e)) ∙ zero-div (down e)

    sums : (s : Bool) → cond s (Ieee.top binary64) 0 + 0 + 0 ≡ cond s 0x8000_0000_0000_0000 0
    sums true = refl
    sums false = refl

pub zero_bits : (n : ℕ) → n < 2 ^ 64 → Ieee.eq (float_of n) zero_float ≡ true → (n ≡ 0) ⊎ (n ≡ 0x8000_0000_0000_0000)
unfolding Ieee.eq Ieee.is_nan
zero_bits n h t = go (float_of n) refl t
  where
    either : (s : Bool) → n ≡ cond s 0x8000_0000_0000_0000 0 → (n ≡ 0) ⊎ (n ≡ 0x8000_0000_0000_0000)
    either true e = inr e
    either false e = inl e

    go : (x : Float) → float_of n ≡ x → Ieee.eq x zero_float ≡ true → (n ≡ 0) ⊎ (n ≡ 0x8000_0000_0000_0000)
    go nan y z = absurd (subst Dec.T (sym z) tt)
    go (inf s) y z = absurd (subst Dec.T (sym z) tt)
    go (fin s m e) y z = either s (
        sym (forth n h (subst⁻¹ (λ (x : Float). Dec.T (not (Ieee.is_nan x))) y tt))
        ∙ ap bits_of (y ∙ ap (λ (k : ℕ). fin s k e) (eqb-true m 0 (no_digits s m e z)))
        ∙ zero_written s e
        )

-- whatever value the Rust's division has is IEEE 754's
pub same_quotient : (a b : Float) (v : ConstVal) → div_f64 a b ≡ Ok v → ieee_div_f64 a b ≡ Ok v
unfolding div_f64
same_quotient a b v = go (Ieee.eq b zero_float)
  where
    go : (t : Bool) → cond t (Err DivisorZero) (ieee_div_f64 a b) ≡ Ok v → ieee_div_f64 a b ≡ Ok v
    go true e = cc
    go false e = e
