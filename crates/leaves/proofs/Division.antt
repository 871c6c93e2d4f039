-- Division of integers toward zero: quotient and remainder, and when the quotient of two i32 is one.
use Rattle.std.proofs.Common.{◌≡◌, ℕ, zero, suc, ◌+◌, ◌-◌, ◌*◌, ◌/◌, ◌%◌, ◌<◌, ◌≤◌, true, T, ◌⊎◌, ℤ, pos, negsuc, ◌+ℤ◌, ◌*ℤ◌, neg_ℤ, nat_abs, sym, refl, ap, ◌∙◌, subst, inl, inr, ⊎_elim, le_trans, add-zero, mod-lt, mul-le-mul_left, div-add-mod', zero-add, zero-mul, div-le_self, div-mul-le_self, div-one, arith, w32, SFits, lt-ltb, le-leb, leb-true}
use native.Mathlib.Nat.{mod-le}
use lib.IntN.{sub_ℕ}
use lib.Signed.{mag, le_z, quot_z, rem_z}
use Rattle.leaves.specs.Signed.{in_i32}
use Rattle.leaves.proofs.Integers.{less_or-not, sub_neg}
use Rattle.leaves.proofs.Ranges.{abs_neg}

-- ---- a = q·b + r

zero_less : (n : ℕ) → sub_ℕ 0 (suc n) ≡ negsuc n
zero_less n = sub_neg 0 (suc n) (omega arith) ∙ ap negsuc (let e : suc n - 1 ≡ n = omega arith in e)

neg_sum : (p r : ℕ) → neg_ℤ (pos p) +ℤ neg_ℤ (pos r) ≡ neg_ℤ (pos (p + r))
neg_sum zero zero = refl
neg_sum zero (suc r) = zero_less r ∙ ap (λ (x : ℕ). neg_ℤ (pos x)) (sym (zero-add (suc r)))
neg_sum (suc p) zero = zero_less p ∙ ap (λ (x : ℕ). neg_ℤ (pos x)) (sym (add-zero (suc p)))
neg_sum (suc p) (suc r) = ap (λ (x : ℕ). neg_ℤ (pos x)) (let e : suc (suc (p + r)) ≡ suc p + suc r = omega arith in e)

neg_times : (k n : ℕ) → neg_ℤ (pos k) *ℤ pos n ≡ neg_ℤ (pos (k * n))
neg_times zero n = rw (zero-mul n)
neg_times (suc k) n = refl

neg_times_neg : (k n : ℕ) → neg_ℤ (pos k) *ℤ negsuc n ≡ pos (k * suc n)
neg_times_neg zero n = rw (zero-mul (suc n))
neg_times_neg (suc k) n = refl

pub whole : (a b : ℤ) → a ≡ quot_z a b *ℤ b +ℤ rem_z a b
whole (pos m) (pos n) = ap pos (sym (div-add-mod' m n))
whole (pos m) (negsuc n) = ap pos (sym (div-add-mod' m (suc n))) ∙ ap (λ (x : ℤ). x +ℤ pos (m % suc n)) (sym (neg_times_neg (m / suc n) n))
whole (negsuc m) (pos n) = ap (λ (x : ℕ). neg_ℤ (pos x)) (sym (div-add-mod' (suc m) n)) ∙ sym (neg_sum (suc m / n * n) (suc m % n))
    ∙ ap (λ (x : ℤ). x +ℤ neg_ℤ (pos (suc m % n))) (sym (neg_times (suc m / n) n))
whole (negsuc m) (negsuc n) = ap (λ (x : ℕ). neg_ℤ (pos x)) (sym (div-add-mod' (suc m) (suc n))) ∙ sym (neg_sum (suc m / suc n * suc n) (suc m % suc n))

-- ---- the remainder's size and sign

pub size : (a b : ℤ) → 0 < nat_abs b → nat_abs (rem_z a b) < nat_abs b
size (pos m) b h = mod-lt m h
size (negsuc m) b h = rw (abs_neg (pos (suc m % nat_abs b))) (mod-lt (suc m) h)

pub not_negative : (a b : ℤ) → le_z (pos 0) a ≡ true → le_z (pos 0) (rem_z a b) ≡ true
not_negative (pos m) b t = le-leb 0 (m % nat_abs b) (omega arith)
not_negative (negsuc m) b t = absurd (subst T (sym t) tt)

neg_le : (r : ℕ) → le_z (neg_ℤ (pos r)) (pos 0) ≡ true
neg_le zero = refl
neg_le (suc r) = refl

pub not_positive : (a b : ℤ) → le_z a (pos 0) ≡ true → le_z (rem_z a b) (pos 0) ≡ true
not_positive (pos m) b t = le-leb (m % nat_abs b) 0 (le_trans (mod-le m (nat_abs b)) (leb-true m 0 t))
not_positive (negsuc m) b t = neg_le (suc m % nat_abs b)

-- ---- the one quotient of two i32 that is none

half : (m n : ℕ) → m / suc (suc n) * 2 ≤ m
half m n = le_trans (mul-le-mul_left (m / suc (suc n)) (omega arith)) (div-mul-le_self m (suc (suc n)))

mag_negated : (k m : ℕ) → k ≤ suc m → m < 2147483648 → mag (neg_ℤ (pos k)) < 2147483648
mag_negated zero m h l = omega arith
mag_negated (suc k) m h l = omega arith

pub in_range_but_one : (a b : ℤ) → SFits w32 a → SFits w32 b → (in_i32 (quot_z a b) ≡ true) ⊎ ((a ≡ negsuc 2147483647) × (b ≡ negsuc 0))
in_range_but_one (pos m) (pos n) h k = let u : m < 2147483648 = h.sfits in inl (lt-ltb (m / n) 2147483648 (omega (arith, div-le_self m n)))
in_range_but_one (pos m) (negsuc n) h k = let u : m < 2147483648 = h.sfits in
    inl (lt-ltb (mag (neg_ℤ (pos (m / suc n)))) 2147483648 (mag_negated (m / suc n) m (omega (arith, div-le_self m (suc n))) u))
in_range_but_one (negsuc m) (pos n) h k = let u : m < 2147483648 = h.sfits in
    inl (lt-ltb (mag (neg_ℤ (pos (suc m / n)))) 2147483648 (mag_negated (suc m / n) m (div-le_self (suc m) n) u))
in_range_but_one (negsuc m) (negsuc zero) h k = let u : m < 2147483648 = h.sfits in ⊎_elim
    (λ (l : m < 2147483647). inl (lt-ltb (suc m / 1) 2147483648 (omega (arith, div-one (suc m)))))
    (λ (l : 2147483647 ≤ m). let e : m ≡ 2147483647 = omega arith in inr (ap negsuc e, refl))
    (less_or-not m 2147483647)
in_range_but_one (negsuc m) (negsuc (suc n)) h k = let u : m < 2147483648 = h.sfits in
    inl (lt-ltb (suc m / suc (suc n)) 2147483648 (omega (arith, half (suc m) n)))
