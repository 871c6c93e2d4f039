-- How large a sum, a product or a quotient of signed integers is, and what a test of one says.
use Rattle.std.proofs.Common.{◌≡◌, ℕ, zero, suc, ◌-◌, ◌*◌, ◌/◌, ◌<◌, ◌≤◌, Bool, true, false, eqb, ℤ, pos, negsuc, ◌*ℤ◌, neg_ℤ, nat_abs, sym, refl, ap, ◌∙◌, subst, ap₂, le_trans, le_of_eq, lt_of_le_of_lt, mul-le-mul, div-le_self, arith, to_z-of_z, w32, w64, SFits, to_z, of_z, ltb-true, eq-eqb, ne_eqb}
use native.Mathlib.Decide.{ℕ_discrete}
use lib.Signed.{mag, quot_z, rem_z, mag_rem}
use mir.Facts.{sfits_widen}
use Rattle.leaves.specs.declared.constant.ConstVal.{ConstVal}
use Rattle.leaves.specs.Signed.{in_i32, is_zero, same_z, checked_as}

-- ---- magnitudes

pub abs_neg : (a : ℤ) → nat_abs (neg_ℤ a) ≡ nat_abs a
abs_neg (pos zero) = refl
abs_neg (pos (suc n)) = refl
abs_neg (negsuc n) = refl

pub abs_mul : (a b : ℤ) → nat_abs (a *ℤ b) ≡ nat_abs a * nat_abs b
abs_mul (pos m) (pos n) = refl
abs_mul (pos m) (negsuc n) = abs_neg (pos (m * suc n))
abs_mul (negsuc m) (pos n) = abs_neg (pos (suc m * n))
abs_mul (negsuc m) (negsuc n) = refl

pub abs_quot : (a b : ℤ) → nat_abs (quot_z a b) ≡ nat_abs a / nat_abs b
abs_quot (pos m) (pos n) = refl
abs_quot (pos m) (negsuc n) = abs_neg (pos (m / suc n))
abs_quot (negsuc m) (pos n) = abs_neg (pos (suc m / n))
abs_quot (negsuc m) (negsuc n) = refl

-- ---- ranges

pub abs32 : (a : ℤ) → SFits w32 a → nat_abs a ≤ 2147483648
abs32 (pos n) h = let k : n < 2147483648 = h.sfits in omega arith
abs32 (negsuc n) h = let k : n < 2147483648 = h.sfits in omega arith

-- a magnitude of at most 2^62, which no leaf exceeds
pub small : (a : ℤ) → nat_abs a ≤ 4611686018427387904 → SFits w64 a
small (pos n) h = record { sfits = omega arith }
small (negsuc n) h = record { sfits = omega arith }

pub product_small : (a b : ℤ) → nat_abs a ≤ 2147483648 → nat_abs b ≤ 2147483648 → nat_abs (a *ℤ b) ≤ 4611686018427387904
product_small a b h k = le_trans (le_of_eq (abs_mul a b)) (mul-le-mul h k)

pub product32 : {a b : ℤ} → SFits w32 a → SFits w32 b → nat_abs (a *ℤ b) ≤ 4611686018427387904
product32 {a} {b} h k = product_small a b (abs32 a h) (abs32 b k)

pub quotient_small : (a b : ℤ) → nat_abs a ≤ 4611686018427387904 → SFits w64 (quot_z a b)
quotient_small a b h = small (quot_z a b) (le_trans (le_of_eq (abs_quot a b)) (le_trans (div-le_self (nat_abs a) (nat_abs b)) h))

-- a times a literal, as Fx division has it
pub scaled_small : (a : ℤ) {k : ℕ} → SFits w32 a → k ≤ 2147483648 → nat_abs (a *ℤ pos k) ≤ 4611686018427387904
scaled_small a {k} h l = product_small a (pos k) (abs32 a h) l

pub scaled_quotient : (a b : ℤ) {k : ℕ} → SFits w32 a → k ≤ 2147483648 → SFits w64 (quot_z (a *ℤ pos k) b)
scaled_quotient a b {k} h l = quotient_small (a *ℤ pos k) b (scaled_small a h l)

-- two i32 as they stand in a call
pub passed : {A : Type 0} (f : ℤ → ℤ → A) (a b : ℤ) → mag a < 2147483648 → mag b < 2147483648 → f (to_z w32 (of_z w32 a)) (to_z w32 (of_z w32 b)) ≡ f a b
passed f a b h k = ap₂ f (to_z-of_z {w = w32} (record { sfits = h })) (to_z-of_z {w = w32} (record { sfits = k }))

-- an operand at 64 bits, as `wide` gives it, is the operand
pub widened : {a r : ℤ} → SFits w32 a → r ≡ to_z w32 (of_z w32 a) → to_z w64 (of_z w64 r) ≡ a
widened {a} h e = ap (λ (x : ℤ). to_z w64 (of_z w64 x)) (e ∙ to_z-of_z h) ∙ to_z-of_z {w = w64} (sfits_widen {w = w32} {w' = w64} tt h)

-- an operation at 64 bits is that of the operands
pub at64 : (f : ℤ → ℤ → ℤ) {a b r s : ℤ} → SFits w32 a → SFits w32 b → r ≡ to_z w32 (of_z w32 a) → s ≡ to_z w32 (of_z w32 b)
    → f (to_z w64 (of_z w64 r)) (to_z w64 (of_z w64 s)) ≡ f a b
at64 f h k e g = ap₂ f (widened h e) (widened k g)

-- the answer at 64 bits is that of the exact number
pub exact : (kind : ℤ → ConstVal) (z y : ℤ) → SFits w64 z → z ≡ y → checked_as kind (to_z w64 (of_z w64 z)) ≡ checked_as kind y
exact kind z y h e = ap (checked_as kind) (to_z-of_z h ∙ e)

-- ---- tests

-- what `in_i32` answered of z says of it
pub in_i32-says : {z : ℤ} {b t : Bool} → SFits w64 z → b ≡ in_i32 (to_z w64 (of_z w64 z)) → b ≡ t → in_i32 z ≡ t
in_i32-says h e p = ap in_i32 (sym (to_z-of_z h)) ∙ sym e ∙ p

pub sfits_in : (z : ℤ) → in_i32 z ≡ true → SFits w32 z
sfits_in z e = record { sfits = ltb-true (mag z) 2147483648 e }

-- a test `b == 0` of an i32 speaks of its bits
pub zero_bits : (b : ℤ) → SFits w32 b → of_z w32 b ≡ 0 → is_zero b ≡ true
zero_bits b h e = ap is_zero (sym (to_z-of_z h) ∙ ap (λ (n : ℕ). to_z w32 n) e)

pub nonzero_bits : (b : ℤ) → SFits w32 b → (of_z w32 b ≡ 0 → ⊥) → (is_zero b ≡ false) × (0 < of_z w32 b) × (0 < of_z w64 b)
nonzero_bits (pos zero) h ne = absurd (ne refl)
nonzero_bits (pos (suc n)) h ne = (ne_eqb (suc n) 0 (λ (e : suc n ≡ 0). omega arith), omega arith, omega arith)
nonzero_bits (negsuc n) h ne = let k : n < 2147483648 = h.sfits in (ne_eqb (suc n) 0 (λ (e : suc n ≡ 0). omega arith), omega arith, omega arith)

-- a divisor at 64 bits, as `wide` gives it
pub divisor : {b r : ℤ} → SFits w32 b → r ≡ to_z w32 (of_z w32 b) → (of_z w32 b ≡ 0 → ⊥) → 0 < of_z w64 r
divisor {b} h e ne = subst (λ (x : ℤ). 0 < of_z w64 x) (sym (e ∙ to_z-of_z h)) (nonzero_bits b h ne).2

pub rest_fits : (a b : ℤ) → SFits w32 a → SFits w32 (rem_z a b)
rest_fits a b h = record { sfits = lt_of_le_of_lt (mag_rem a b) h.sfits }

-- ---- equality of two i32 is equality of their bits

pub same_bits : (x y : ℤ) → SFits w32 x → SFits w32 y → eqb (of_z w32 x) (of_z w32 y) ≡ same_z x y
same_bits (pos m) (pos n) h k = refl
same_bits (pos m) (negsuc n) h k =
    let u : m < 2147483648 = h.sfits in
    let v : n < 2147483648 = k.sfits in
    ne_eqb m (4294967296 - suc n) (λ (e : m ≡ 4294967296 - suc n). omega arith)
same_bits (negsuc m) (pos n) h k =
    let u : m < 2147483648 = h.sfits in
    let v : n < 2147483648 = k.sfits in
    ne_eqb (4294967296 - suc m) n (λ (e : 4294967296 - suc m ≡ n). omega arith)
same_bits (negsuc m) (negsuc n) h k =
    let u : m < 2147483648 = h.sfits in
    let v : n < 2147483648 = k.sfits in
    elim (ℕ_discrete m n) [
      | yes e ↦ eq-eqb (4294967296 - suc m) (4294967296 - suc n) (omega arith) ∙ sym (eq-eqb m n e)
      | no d ↦ ne_eqb (4294967296 - suc m) (4294967296 - suc n) (λ (e : 4294967296 - suc m ≡ 4294967296 - suc n). d (omega arith)) ∙ sym (ne_eqb m n d)
    ]
