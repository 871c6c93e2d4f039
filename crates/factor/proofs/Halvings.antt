-- The other factor of a MulI32: the closed form is the search's.
use mathlib.Core.Path.{◌≡◌, refl, sym, ◌∙◌, ap}
use mathlib.Core.Logic.{◌⊎◌, inl, inr}
use mathlib.Core.Bool.{true}
use Prim.Native.Nat.{ℕ, zero, suc, ◌+◌, ◌-◌, ◌*◌, ◌/◌, ◌%◌, ◌^◌, ◌≤◌, ◌<◌}
use native.Mathlib.Nat.{mod-le, mod-lt, mod-one, mod-eq_of_lt}
use native.Mathlib.Omega.{arith}
use lib.Dec.{eqb, leb, ltb}
use lib.IntN.{ℤ, pos, negsuc, neg_ℤ, nat_abs, ◌*ℤ◌}
use lib.Pow.{pow_pos}
use borrow.Author.Tests.{ltb-true, ltb-false, leb-true, leb-false, lt-ltb, eqb-true, eqb-false}
use mir.Syntax.{w32}
use mir.Val.{SFits, Fits, of_z, to_z}
use mir.Facts.{to_z-of_z, of_z-to_z}
use Rattle.leaves.specs.Signed.{in_i32, residue, wrap, mul_i32}
use Rattle.leaves.specs.declared.constant.ConstVal.TheVariants.{I32}
use Rattle.leaves.proofs.Integers.{residue_mul, bits_below}
use Rattle.leaves.proofs.Ranges.{sfits_in}
use Rattle.factor.specs.Factor.{factor_i32}
use Rattle.factor.specs.Claim.{IsFactor, Nearest, Answers}
use Rattle.factor.specs.Closed.{found_if, inverse_of, nearest_to, factor_modulo, closed_i32}
use Rattle.factor.proofs.Search.{by_test, answers_map, told-i32, found-only}
use Rattle.factor.proofs.Residues.{halve_forth, halve_back, odd_never, inverse_is, whole, solves, solves_only, far, far_is}
use Rattle.std.specs.Prelude.{Option, None, Ok}

-- z is an i32 that is x modulo m; and one whose product with a is w modulo m
abbrev Congruent : ℕ → ℕ → ℤ → Type 0
Congruent m x z = (in_i32 z ≡ true) × (of_z w32 z % m ≡ x)

abbrev Solves : ℕ → ℕ → ℕ → ℤ → Type 0
Solves a w m z = (in_i32 z ≡ true) × (a * of_z w32 z % m ≡ w % m)

-- ---- the number nearest zero that is x modulo m

module _ (m n x : ℕ) (e : m * n ≡ 4294967296) (b : x < m) (most : m ≤ 4294967296) where
  -- of one below zero
  down : (d : ℕ) → Congruent m x (negsuc d) → m ≤ suc d + x
  down d f = let l : d < 2147483648 = ltb-true d 2147483648 f.0 in far m n e x (suc d) (omega arith) (omega arith) f.1

  near_above : x * 2 ≤ m → x < 2147483648 → Nearest (Congruent m x) (pos x)
  near_above h l = record { is = (lt-ltb x 2147483648 l, mod-eq_of_lt b); nearest = up; positive = λ f. refl }
    where
      up : (y : ℤ) → Congruent m x y → x ≤ nat_abs y
      up (pos d) f = omega (arith, mod-le d m, f.1)
      up (negsuc d) f = omega (arith, down d f)

  near_below : (m < x * 2) ⊎ (2147483648 ≤ x) → Answers (Congruent m x) (found_if (neg_ℤ (pos (m - x))))
  near_below h = go (m - x) refl h
    where
      go : (y : ℕ) → y ≡ m - x → (m < x * 2) ⊎ (2147483648 ≤ x) → Answers (Congruent m x) (found_if (neg_ℤ (pos y)))
      go zero d h = absurd (omega arith)
      go (suc y) d h = rw (lt-ltb y 2147483648 (low h)) near
        where
          low : (m < x * 2) ⊎ (2147483648 ≤ x) → y < 2147483648
          low (inl h) = omega arith
          low (inr h) = omega arith

          up : (m < x * 2) ⊎ (2147483648 ≤ x) → (z : ℤ) → Congruent m x z → suc y ≤ nat_abs z
          up (inl h) (pos k) f = omega (arith, mod-le k m, f.1)
          up (inr h) (pos k) f = let l : k < 2147483648 = ltb-true k 2147483648 f.0 in absurd (omega (arith, mod-le k m, f.1))
          up h (negsuc k) f = omega (arith, down k f)

          tie : (m < x * 2) ⊎ (2147483648 ≤ x) → Congruent m x (pos (suc y)) → ⊥
          tie (inl h) f = let g : suc y ≡ x = sym (mod-eq_of_lt (omega arith)) ∙ f.1 in omega arith
          tie (inr h) f =
              let l : suc y < 2147483648 = ltb-true (suc y) 2147483648 f.0 in
              let g : suc y ≡ x = sym (mod-eq_of_lt (omega arith)) ∙ f.1 in omega arith

          at : of_z w32 (negsuc y) % m ≡ x
          at = ap (λ (k : ℕ). (4294967296 - k) % m) d ∙ far_is m n x e b

          near : Nearest (Congruent m x) (negsuc y)
          near = record { is = (lt-ltb y 2147483648 (low h), at); nearest = up h; positive = λ f. absurd (tie h f) }

  nearest_answers : Answers (Congruent m x) (nearest_to m x)
  nearest_answers = by_test (leb (x * 2) m)
      (λ t. rw t (by_test (ltb x 2147483648)
      (λ u. rw u (near_above (leb-true (x * 2) m t) (ltb-true x 2147483648 u)))
      (λ u. rw u (near_below (inr (ltb-false x 2147483648 u))))))
      (λ t. rw t (near_below (inl (leb-false (x * 2) m t))))

-- ---- a * z = w modulo 2^k

-- of an odd a
odd_answers : (k w a : ℕ) → k ≤ 32 → a % 2 ≡ 1 → Answers (Solves a w (2 ^ k)) (nearest_to (2 ^ k) (inverse_of a * (w % 2 ^ k) % 2 ^ k))
odd_answers k w a l o =
    let m : ℕ = 2 ^ k in
    let e : m * 2 ^ (32 - k) ≡ 4294967296 = whole k l in
    let x : ℕ = inverse_of a * (w % m) % m in
    let f : a * inverse_of a % 4294967296 ≡ 1 = inverse_is a o in
    answers_map (Congruent m x) (Solves a w m)
    (λ z g. (g.0, solves m (2 ^ (32 - k)) e a (inverse_of a) f (of_z w32 z) w g.1))
    (λ z g. (g.0, solves_only m (2 ^ (32 - k)) e a (inverse_of a) f (of_z w32 z) w g.1))
    (nearest_to m x)
    (nearest_answers m (2 ^ (32 - k)) x e (mod-lt (inverse_of a * (w % m)) (pow_pos k)) (most m (2 ^ (32 - k)) e))
  where
    most : (m n : ℕ) → m * n ≡ 4294967296 → m ≤ 4294967296
    most m zero e = absurd (omega arith)
    most m (suc n) e = omega (arith, e)

double : (k : ℕ) → 2 ^ suc k ≡ 2 ^ k * 2
double k = omega arith

-- of an even a and an odd w
never_answers : (k w a : ℕ) → a % 2 ≡ 0 → w % 2 ≡ 1 → Answers (Solves a w (2 ^ suc k)) None
never_answers k w a p q z f = odd_never a w (2 ^ k) (of_z w32 z) p q (rw (double k) at f.1)

-- of both even
even_answers : (k w a : ℕ) → a % 2 ≡ 0 → w % 2 ≡ 0 → (r : Option ℤ) → Answers (Solves (a / 2) (w / 2) (2 ^ k)) r → Answers (Solves a w (2 ^ suc k)) r
even_answers k w a p q = answers_map (Solves (a / 2) (w / 2) (2 ^ k)) (Solves a w (2 ^ suc k))
    (λ z f. (f.0, rw (double k) (halve_back a w (2 ^ k) (of_z w32 z) (pow_pos k) p q f.1)))
    (λ z f. (f.0, halve_forth a w (2 ^ k) (of_z w32 z) (pow_pos k) p q (rw (double k) at f.1)))

modulo_answers : (k w a : ℕ) → k ≤ 32 → Answers (Solves a w (2 ^ k)) (factor_modulo k w a)
unfolding factor_modulo
modulo_answers zero w a l = record { is = (refl, mod-one (a * 0) ∙ sym (mod-one w)); nearest = λ y f. omega arith; positive = λ f. refl }
modulo_answers (suc k) w a l = by_test (eqb (a % 2) 1)
    (λ t. rw t (odd_answers (suc k) w a l (eqb-true (a % 2) 1 t)))
    (λ t. let p : a % 2 ≡ 1 → ⊥ = eqb-false (a % 2) 1 t in rw t (by_test (eqb (w % 2) 1)
    (λ u. rw u (never_answers k w a (omega arith) (eqb-true (w % 2) 1 u)))
    (λ u. let q : w % 2 ≡ 1 → ⊥ = eqb-false (w % 2) 1 u in rw u (even_answers k w a (omega arith) (omega arith) (factor_modulo k (w / 2) (a / 2)) (modulo_answers k (w / 2) (a / 2) (omega arith))))))

-- ---- of the leaf's product

product_is : (w a x : ℤ) → mul_i32 a x ≡ Ok (I32 w) → wrap (a *ℤ x) ≡ w
unfolding mul_i32
product_is w a x e = cc

is_product : (w a x : ℤ) → wrap (a *ℤ x) ≡ w → mul_i32 a x ≡ Ok (I32 w)
unfolding mul_i32
is_product w a x e = ap (λ (z : ℤ). Ok (I32 z)) e

product_bits : (w a : ℤ) → SFits w32 w → SFits w32 a → (r : Option ℤ) → Answers (Solves (of_z w32 a) (of_z w32 w) 4294967296) r → Answers (IsFactor mul_i32 (I32 w) a) r
unfolding wrap
product_bits w a h k = answers_map (Solves (of_z w32 a) (of_z w32 w) 4294967296) (IsFactor mul_i32 (I32 w) a)
    (λ x f. (f.0, is_product w a x (ap (λ (n : ℕ). to_z w32 n) (residue_mul a x k (sfits_in x f.0) ∙ f.1 ∙ small) ∙ to_z-of_z h)))
    (λ x f. (f.0, sym (residue_mul a x k (sfits_in x f.0)) ∙ sym (of_z-to_z (fits x f.0)) ∙ ap (λ (z : ℤ). of_z w32 z) (product_is w a x f.1) ∙ sym small))
  where
    small : of_z w32 w % 4294967296 ≡ of_z w32 w
    small = mod-eq_of_lt (bits_below w h)

    fits : (x : ℤ) → in_i32 x ≡ true → Fits w32 (residue (a *ℤ x) 4294967296)
    fits x i = rw (residue_mul a x k (sfits_in x i)) (record { fits = mod-lt (of_z w32 a * of_z w32 x) (omega arith) })

pub closed_i32_lem : (w a : ℤ) → SFits w32 w → SFits w32 a → closed_i32 w a ≡ factor_i32 w a
unfolding factor_i32 closed_i32
closed_i32_lem w a h k = found-only mul_i32 a (told-i32 w) (closed_i32 w a) (product_bits w a h k (closed_i32 w a) (modulo_answers 32 (of_z w32 w) (of_z w32 a) (omega arith)))
