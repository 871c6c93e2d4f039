-- Laws of signed integers and their bits.
use Rattle.std.proofs.Common.{◌≡◌, ℕ, zero, suc, ◌+◌, ◌-◌, ◌*◌, ◌%◌, ◌<◌, ◌≤◌, ◌⊎◌, ℤ, pos, negsuc, ◌*ℤ◌, neg_ℤ, sym, refl, ap, ◌∙◌, inl, inr, mul_comm, add-mul, add_comm, mul-add, arith, to_z-of_z, w32, w64, SFits, to_z, of_z, le-ltb, lt-ltb}
use native.Mathlib.Decide.{dec_lt}
use lib.IntN.{sub_ℕ}
use Rattle.leaves.specs.declared.constant.ConstVal.TheVariants.{I32}
use Rattle.leaves.specs.Verdict.{Verdict}
use Rattle.std.specs.Int.{int_wrap}
use Rattle.leaves.specs.Signed.{residue, wrap}
use Rattle.std.specs.Prelude.{Ok}

-- ---- a difference of two naturals

pub less_or-not : (m n : ℕ) → (m < n) ⊎ (n ≤ m)
less_or-not m n = elim (dec_lt m n) [
  | yes h ↦ inl h
  | no h ↦ inr (omega arith)
]

pub sub_pos : (a b : ℕ) → b ≤ a → sub_ℕ a b ≡ pos (a - b)
sub_pos a b h = rw (le-ltb a b h)

pub sub_neg : (a b : ℕ) → a < b → sub_ℕ a b ≡ negsuc (b - suc a)
sub_neg a b h = rw (lt-ltb a b h)

-- ---- a number's bits

pub bits_below : (a : ℤ) → SFits w32 a → of_z w32 a < 4294967296
bits_below (pos n) h = let k : n < 2147483648 = h.sfits in omega arith
bits_below (negsuc n) h = let k : n < 2147483648 = h.sfits in omega arith

pub fits64 : (n : ℕ) → n < 4294967296 → SFits w64 (pos n)
fits64 n h = record { sfits = omega arith }

-- a number at 64 bits that is z is z
pub kept64 : {x z : ℤ} → SFits w64 z → x ≡ z → to_z w64 (of_z w64 x) ≡ z
kept64 h e = ap (λ (y : ℤ). to_z w64 (of_z w64 y)) e ∙ to_z-of_z h

-- ---- residues modulo 2^32: the bits of a product

-- where P and N add up to a multiple of 2^32, P is the residue of -N
residue_neg : (P N k : ℕ) → P + N ≡ k * 4294967296 → residue (neg_ℤ (pos N)) 4294967296 ≡ P % 4294967296
unfolding residue
residue_neg P zero k e = omega arith
residue_neg P (suc N) k e = omega arith

-- x and its complement add up to 2^32
whole : (n : ℕ) → n < 2147483648 → 4294967296 - suc n + suc n ≡ 4294967296
whole n h = omega arith

right-sum : (m n : ℕ) → n < 2147483648 → m * (4294967296 - suc n) + m * suc n ≡ m * 4294967296
right-sum m n h = sym (mul-add m (4294967296 - suc n) (suc n)) ∙ ap (λ (x : ℕ). m * x) (whole n h)

left-sum : (m n : ℕ) → m < 2147483648 → (4294967296 - suc m) * n + suc m * n ≡ n * 4294967296
left-sum m n h = sym (add-mul (4294967296 - suc m) (suc m) n) ∙ ap (λ (x : ℕ). x * n) (whole m h) ∙ mul_comm 4294967296 n

same_rest : (P Q A k l : ℕ) → P + A ≡ k * 4294967296 → Q + A ≡ l * 4294967296 → P % 4294967296 ≡ Q % 4294967296
same_rest P Q A k l e f = omega arith

residue_pos : (x : ℕ) → residue (pos x) 4294967296 ≡ x % 4294967296
unfolding residue
residue_pos x = refl

pub residue_mul : (a b : ℤ) → SFits w32 a → SFits w32 b → residue (a *ℤ b) 4294967296 ≡ (of_z w32 a * of_z w32 b) % 4294967296
residue_mul (pos m) (pos n) h k = residue_pos (m * n)
residue_mul (pos m) (negsuc n) h k = residue_neg (m * (4294967296 - suc n)) (m * suc n) m (right-sum m n k.sfits)
residue_mul (negsuc m) (pos n) h k = residue_neg ((4294967296 - suc m) * n) (suc m * n) n (left-sum m n h.sfits)
residue_mul (negsuc m) (negsuc n) h k = residue_pos (suc m * suc n) ∙ same_rest (suc m * suc n) ((4294967296 - suc m) * (4294967296 - suc n)) ((4294967296 - suc m) * suc n)
    (suc n) (4294967296 - suc m)
    (add_comm (suc m * suc n) ((4294967296 - suc m) * suc n) ∙ left-sum m (suc n) h.sfits)
    (right-sum (4294967296 - suc m) n k.sfits)

-- ---- what the wrapping operations leave

wrap_is : (z : ℤ) → int_wrap w32 z ≡ wrap z
unfolding int_wrap wrap residue
wrap_is (pos n) = refl
wrap_is (negsuc n) = ap (λ (m : ℕ). to_z w32 m) (omega arith)

-- the value made of it
pub wrapped : {r : ℤ} (z : ℤ) → r ≡ int_wrap w32 z → ◌≡◌ {A = Verdict} (Ok (I32 r)) (Ok (I32 (wrap z)))
wrapped z e = ap (λ (x : ℤ). Ok (I32 x)) (e ∙ wrap_is z)
