-- The other factor of a MulFx: the closed form is the search's.
use mathlib.Core.Path.{◌≡◌, refl, sym, ◌∙◌, ap}
use mathlib.Core.Bool.{Bool, true, false, cond, true≢false}
use Prim.Native.Nat.{ℕ, zero, suc, ◌+◌, ◌-◌, ◌*◌, ◌/◌, ◌%◌, ◌≤◌, ◌<◌}
use native.Mathlib.Nat.{div-mul-le_self, le-div_iff_mul-le, mul-le-mul_left, mod-add-div', mod-lt, mul-zero}
use native.Mathlib.Decide.{dec_le}
use native.Mathlib.Omega.{arith}
use lib.Dec.{ltb}
use lib.IntN.{ℤ, pos, negsuc, neg_ℤ, nat_abs, ◌*ℤ◌, pos-ne-negsuc}
use lib.Signed.{mag, quot_z}
use mir.Syntax.{w32}
use mir.Val.{SFits}
use borrow.Author.Tests.{ltb-true, ltb-false, lt-ltb, le-ltb, eqb-true}
use Rattle.leaves.specs.Signed.{in_i32, is_zero, checked_as}
use Rattle.leaves.specs.Fixed.{fx_scale, mul_fx}
use Rattle.leaves.specs.declared.constant.ConstVal.TheVariants.{Fx}
use Rattle.leaves.proofs.Ranges.{abs_neg, abs_mul, abs_quot}
use Rattle.factor.specs.Factor.{factor_fx}
use Rattle.factor.specs.Claim.{IsFactor, Nearest, Answers}
use Rattle.factor.specs.Closed.{found_if, least_size, along, of_size, closed_fx}
use Rattle.factor.proofs.Search.{by_test, told-fx, found-only}
use Rattle.factor.proofs.Sizes.{zero_not}
use Rattle.std.specs.Prelude.{Some, None, Ok, Err}
use Rattle.leaves.specs.declared.verdict.Decline.TheVariants.{OutOfRange}

-- ---- the least size whose product with a is w

pub record Size (w a y : ℕ) : Type 0 where
  pub is : a * y / 1000 ≡ w
  pub least : (z : ℕ) → a * z / 1000 ≡ w → y ≤ z

-- y is the quotient of w thousands by a, rounded up
module _ (w a y r : ℕ) (e : r + y * a ≡ w * 1000 + a - 1) (l : r < a) (p : 0 < w) where
  size-least : (z : ℕ) → a * z / 1000 ≡ w → y ≤ z
  size-least z f = go (dec_le y z)
    where
      go : Dec (y ≤ z) → y ≤ z
      go (yes h) = h
      go (no h) = let m : a * suc z ≤ a * y = mul-le-mul_left a (omega arith) in absurd (omega (arith, m))

  size_some : y * a / 1000 ≤ w → Size w a y
  size_some h = record { is = omega arith; least = size-least }

  size_none : w < y * a / 1000 → (z : ℕ) → a * z / 1000 ≡ w → ⊥
  size_none h z f = let m : a * y ≤ a * z = mul-le-mul_left a (size-least z f) in omega (arith, m, f)

-- the product with it fits, and it isn't 0
pub size_product : (w a : ℕ) → w ≤ 2147483648 → a ≤ 2147483648 → least_size w a * a ≤ 4294967296000
size_product w a h k = omega (arith, div-mul-le_self (w * 1000 + a - 1) a)

pub size_positive : (w a : ℕ) → 0 < w → 0 < a → 0 < least_size w a
size_positive w a p q = (le-div_iff_mul-le q).1 (omega arith)

-- ---- the sign

neg_quot : (n : ℕ) → quot_z (neg_ℤ (pos n)) fx_scale ≡ neg_ℤ (pos (n / 1000))
neg_quot zero = refl
neg_quot (suc n) = refl

no_sign : (n w : ℕ) → neg_ℤ (pos n) ≡ pos w → 0 < w → ⊥
no_sign zero w e l = let f : 0 ≡ w = ap nat_abs e in omega arith
no_sign (suc n) w e l = pos-ne-negsuc w n (sym e)

abs_along : (w a : ℤ) (y : ℕ) → nat_abs (along w a y) ≡ y
abs_along (pos w) (pos a) y = refl
abs_along (pos w) (negsuc a) y = abs_neg (pos y)
abs_along (negsuc w) (pos a) y = abs_neg (pos y)
abs_along (negsuc w) (negsuc a) y = refl

quot_along : (w a : ℤ) (y : ℕ) → nat_abs a * y / 1000 ≡ nat_abs w → 0 < nat_abs w → quot_z (a *ℤ along w a y) fx_scale ≡ w
quot_along (pos w) (pos a) y e l = ap pos e
quot_along (pos w) (negsuc a) zero e l = absurd (omega arith)
quot_along (pos w) (negsuc a) (suc y) e l = ap pos e
quot_along (negsuc w) (pos a) zero e l = absurd (omega arith)
quot_along (negsuc w) (pos a) (suc y) e l = neg_quot (a * suc y) ∙ ap (λ (n : ℕ). neg_ℤ (pos n)) e
quot_along (negsuc w) (negsuc a) y e l = neg_quot (suc a * y) ∙ ap (λ (n : ℕ). neg_ℤ (pos n)) e

-- a factor of a value other than 0 has that sign
is_along : (w a x : ℤ) → quot_z (a *ℤ x) fx_scale ≡ w → 0 < nat_abs w → x ≡ along w a (nat_abs x)
is_along (pos w) (pos a) (pos x) e l = refl
is_along (pos w) (pos a) (negsuc x) e l = absurd (no_sign (a * suc x / 1000) w (sym (neg_quot (a * suc x)) ∙ e) l)
is_along (pos w) (negsuc a) (pos x) e l = absurd (no_sign (suc a * x / 1000) w (sym (neg_quot (suc a * x)) ∙ e) l)
is_along (pos w) (negsuc a) (negsuc x) e l = refl
is_along (negsuc w) (pos a) (pos x) e l = absurd (pos-ne-negsuc (a * x / 1000) w e)
is_along (negsuc w) (pos a) (negsuc x) e l = refl
is_along (negsuc w) (negsuc a) (pos x) e l = refl
is_along (negsuc w) (negsuc a) (negsuc x) e l = absurd (pos-ne-negsuc (suc a * suc x / 1000) w e)

size_of : (w a x : ℤ) → quot_z (a *ℤ x) fx_scale ≡ w → nat_abs a * nat_abs x / 1000 ≡ nat_abs w
size_of w a x e = ap (λ (n : ℕ). n / 1000) (sym (abs_mul a x)) ∙ sym (abs_quot (a *ℤ x) fx_scale) ∙ ap nat_abs e

-- ---- ranges: where a size has an i32, so has a smaller one

neg_mono : (y z : ℕ) → y ≤ z → mag (neg_ℤ (pos y)) ≤ mag (neg_ℤ (pos z))
neg_mono zero z l = omega arith
neg_mono (suc y) zero l = absurd (omega arith)
neg_mono (suc y) (suc z) l = omega arith

mag_mono : (w a : ℤ) (y z : ℕ) → y ≤ z → mag (along w a y) ≤ mag (along w a z)
mag_mono (pos w) (pos a) y z l = l
mag_mono (pos w) (negsuc a) y z l = neg_mono y z l
mag_mono (negsuc w) (pos a) y z l = neg_mono y z l
mag_mono (negsuc w) (negsuc a) y z l = l

in_mono : (w a : ℤ) (y z : ℕ) → y ≤ z → in_i32 (along w a z) ≡ true → in_i32 (along w a y) ≡ true
in_mono w a y z l e =
    let k : mag (along w a z) < 2147483648 = ltb-true (mag (along w a z)) 2147483648 e in
    lt-ltb (mag (along w a y)) 2147483648 (omega (arith, mag_mono w a y z l, k))

-- ---- what the leaf says

product_is : (w a x : ℤ) → mul_fx a x ≡ Ok (Fx w) → quot_z (a *ℤ x) fx_scale ≡ w
unfolding mul_fx
product_is w a x e = go (in_i32 (quot_z (a *ℤ x) fx_scale)) (quot_z (a *ℤ x) fx_scale) e
  where
    go : (t : Bool) (z : ℤ) → cond t (Ok (Fx z)) (Err OutOfRange) ≡ Ok (Fx w) → z ≡ w
    go true z e = cc
    go false z e = cc

is_product : (w a x : ℤ) → in_i32 w ≡ true → quot_z (a *ℤ x) fx_scale ≡ w → mul_fx a x ≡ Ok (Fx w)
unfolding mul_fx
is_product w a x h e = ap (checked_as Fx) e ∙ rw h

-- ---- the answers

module _ (w a : ℤ) (h : in_i32 w ≡ true) where
  abbrev Is : ℤ → Type 0
  Is = IsFactor mul_fx (Fx w) a

  found-size : 0 < nat_abs w → (y : ℕ) → Size (nat_abs w) (nat_abs a) y → Answers Is (found_if (along w a y))
  found-size l y s = by_test (in_i32 (along w a y)) (λ t. rw t (some t)) (λ t. rw t (none t))
    where
      some : in_i32 (along w a y) ≡ true → Nearest Is (along w a y)
      some t = record {
        is = (t, is_product w a (along w a y) h (quot_along w a y s.is l));
        nearest = λ x f. rw (abs_along w a y) (s.least (nat_abs x) (size_of w a x (product_is w a x f.1)));
        positive = λ f. rw (abs_along w a y) (sym (is_along w a (pos y) (product_is w a (pos y) (rw (abs_along w a y) at f.1)) l));
      }

      none : in_i32 (along w a y) ≡ false → (x : ℤ) → Is x → ⊥
      none t x f =
          let q : quot_z (a *ℤ x) fx_scale ≡ w = product_is w a x f.1 in
          let m : y ≤ nat_abs x = s.least (nat_abs x) (size_of w a x q) in
          let i : in_i32 (along w a (nat_abs x)) ≡ true = ap in_i32 (sym (is_along w a x q l)) ∙ f.0 in
          true≢false (sym (in_mono w a y (nat_abs x) m i) ∙ t)

  no_size : ((z : ℕ) → nat_abs a * z / 1000 ≡ nat_abs w → ⊥) → Answers Is None
  no_size n x f = n (nat_abs x) (size_of w a x (product_is w a x f.1))

  answers_size : 0 < nat_abs w → 0 < nat_abs a → Answers Is (of_size w a (least_size (nat_abs w) (nat_abs a)))
  answers_size l k =
      let n : ℕ = nat_abs w * 1000 + nat_abs a - 1 in
      let y : ℕ = n / nat_abs a in
      let e : n % nat_abs a + y * nat_abs a ≡ n = mod-add-div' n (nat_abs a) in
      let b : n % nat_abs a < nat_abs a = mod-lt n k in
      by_test (ltb (nat_abs w) (y * nat_abs a / 1000))
      (λ t. rw t (no_size (size_none (nat_abs w) (nat_abs a) y (n % nat_abs a) e b l (ltb-true (nat_abs w) (y * nat_abs a / 1000) t))))
      (λ t. rw t (found-size l y (size_some (nat_abs w) (nat_abs a) y (n % nat_abs a) e b l (ltb-false (nat_abs w) (y * nat_abs a / 1000) t))))

  -- by 0 there is none
  by_zero_lem : 0 < nat_abs w → is_zero a ≡ true → Answers Is None
  by_zero_lem l z = let e : nat_abs a ≡ 0 = eqb-true (nat_abs a) 0 z in no_size (λ x f. let g : 0 * x / 1000 ≡ nat_abs w = ap (λ (n : ℕ). n * x / 1000) (sym e) ∙ f in omega arith)

-- and for 0 it is 0
zero_product : (a : ℤ) → a *ℤ pos 0 ≡ pos 0
zero_product (pos a) = rw (mul-zero a)
zero_product (negsuc a) = rw (mul-zero (suc a))

zero_is : (b : ℤ) → is_zero b ≡ true → b ≡ pos 0
zero_is (pos n) e = ap pos (eqb-true n 0 e)
zero_is (negsuc n) e = absurd (omega (arith, eqb-true (suc n) 0 e))

for_zero : (w a : ℤ) → is_zero w ≡ true → Answers (IsFactor mul_fx (Fx w) a) (Some (pos 0))
unfolding mul_fx
for_zero w a z = rw (zero_is w z) (record {
  is = (refl, rw (zero_product a));
  nearest = λ x f. omega arith;
  positive = λ f. refl;
})

pub closed_fx_lem : (w a : ℤ) → SFits w32 w → closed_fx w a ≡ factor_fx w a
unfolding factor_fx closed_fx
closed_fx_lem w a fits = found-only mul_fx a (told-fx w) (closed_fx w a) answers
  where
    h : in_i32 w ≡ true
    h = lt-ltb (mag w) 2147483648 fits.sfits

    answers : Answers (IsFactor mul_fx (Fx w) a) (closed_fx w a)
    answers = by_test (is_zero w)
        (λ z. rw z (for_zero w a z))
        (λ z. rw z (by_test (is_zero a)
        (λ t. rw t (by_zero_lem w a h (zero_not w z) t))
        (λ t. rw t (answers_size w a h (zero_not w z) (zero_not a t)))))

-- ---- the closed form by the code's tests

module _ (w a : ℤ) where
  abbrev y : ℕ
  y = least_size (nat_abs w) (nat_abs a)

  pub closed_zero : is_zero w ≡ true → Some (pos 0) ≡ closed_fx w a
  unfolding closed_fx
  closed_zero z = rw z

  pub closed_by_zero : is_zero w ≡ false → is_zero a ≡ true → None ≡ closed_fx w a
  unfolding closed_fx
  closed_by_zero z t = rw (z, t)

  pub closed_past : is_zero w ≡ false → is_zero a ≡ false → nat_abs w < y * nat_abs a / 1000 → None ≡ closed_fx w a
  unfolding closed_fx
  closed_past z t l = rw (z, t, lt-ltb (nat_abs w) (y * nat_abs a / 1000) l)

  pub closed_there : is_zero w ≡ false → is_zero a ≡ false → y * nat_abs a / 1000 ≤ nat_abs w → found_if (along w a y) ≡ closed_fx w a
  unfolding closed_fx
  closed_there z t l = rw (z, t, le-ltb (nat_abs w) (y * nat_abs a / 1000) l)
