-- The turns of `factor_modulo`: wanted value, factor and modulus, halved so many times, have the same answer.
use mathlib.Core.Path.{◌≡◌, refl, ◌∙◌, ap}
use Prim.Native.Nat.{ℕ, zero, suc, ◌*◌, ◌/◌, ◌%◌, ◌^◌, ◌≤◌, ◌<◌}
use native.Mathlib.Omega.{arith}
use lib.IntN.{pos}
use lib.Pow.{pow_pos}
use borrow.Author.Tests.{eq-eqb, ne_eqb}
use Rattle.factor.specs.Closed.{inverse_of, nearest_to, factor_modulo}
use Rattle.std.specs.Prelude.{Some, None}

pub record Halved (wanted factor w a m : ℕ) : Type 0 where
  pub bits : ℕ
  pub is : m ≡ 2 ^ bits
  pub low : 0 < m
  pub most : m ≤ 4294967296
  pub same : factor_modulo bits w a ≡ factor_modulo 32 wanted factor

pub halved_none : (w a : ℕ) → Halved w a w a 4294967296
halved_none w a = record { bits = 32; is = refl; low = omega arith; most = omega arith; same = refl }

module _ {wanted factor w a m : ℕ} (h : Halved wanted factor w a m) where
  pub odd_turn : 1 < m → a % 2 ≡ 1 → nearest_to m (inverse_of a * (w % m) % m) ≡ factor_modulo 32 wanted factor
  unfolding factor_modulo
  odd_turn l o = go h.bits h.is h.same
    where
      go : (k : ℕ) → m ≡ 2 ^ k → factor_modulo k w a ≡ factor_modulo 32 wanted factor → nearest_to m (inverse_of a * (w % m) % m) ≡ factor_modulo 32 wanted factor
      go zero e s = absurd (omega (arith, e))
      go (suc k) e s = ap (λ (n : ℕ). nearest_to n (inverse_of a * (w % n) % n)) e ∙ (rw (eq-eqb (a % 2) 1 o) at s)

  pub never_turn : 1 < m → (a % 2 ≡ 1 → ⊥) → w % 2 ≡ 1 → None ≡ factor_modulo 32 wanted factor
  unfolding factor_modulo
  never_turn l n o = go h.bits h.is h.same
    where
      go : (k : ℕ) → m ≡ 2 ^ k → factor_modulo k w a ≡ factor_modulo 32 wanted factor → None ≡ factor_modulo 32 wanted factor
      go zero e s = absurd (omega (arith, e))
      go (suc k) e s = rw (ne_eqb (a % 2) 1 n, eq-eqb (w % 2) 1 o) at s

  pub even_turn : 1 < m → (a % 2 ≡ 1 → ⊥) → (w % 2 ≡ 1 → ⊥) → Halved wanted factor (w / 2) (a / 2) (m / 2)
  unfolding factor_modulo
  even_turn l n o = go h.bits h.is h.same
    where
      go : (k : ℕ) → m ≡ 2 ^ k → factor_modulo k w a ≡ factor_modulo 32 wanted factor → Halved wanted factor (w / 2) (a / 2) (m / 2)
      go zero e s = absurd (omega (arith, e))
      go (suc k) e s =
          let d : m / 2 ≡ 2 ^ k = omega (arith, e) in
          record {
            bits = k;
            is = d;
            low = omega arith;
            most = omega (arith, h.most);
            same = rw (ne_eqb (a % 2) 1 n, ne_eqb (w % 2) 1 o) at s;
          }

  pub last_turn : m ≤ 1 → Some (pos 0) ≡ factor_modulo 32 wanted factor
  unfolding factor_modulo
  last_turn l = go h.bits h.is h.same
    where
      go : (k : ℕ) → m ≡ 2 ^ k → factor_modulo k w a ≡ factor_modulo 32 wanted factor → Some (pos 0) ≡ factor_modulo 32 wanted factor
      go zero e s = s
      go (suc k) e s = let p : 0 < 2 ^ k = pow_pos k in absurd (omega (arith, e))
