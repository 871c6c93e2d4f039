-- Answers that decide a statement.
use Prim.Native.Nat.{ℕ}
use mathlib.Core.Path.{◌≡◌, refl}
use mathlib.Core.Logic.{◌↔◌}
use mathlib.Core.Bool.{Bool, true, false, ◌&&◌}
use native.Mathlib.Omega.{arith}
use lib.Dec.{eqb}
use borrow.Author.Tests.{eqb-true, eq-eqb}

pub never : {A : Type 0} → false ≡ true → A
never e = let z : ◌≡◌ {A = ℕ} 0 1 = cc in absurd (omega arith)

module _ {P : Type 0} where
  pub yes : P → (true ≡ true) ↔ P
  yes p = (λ (e : true ≡ true). p, λ (q : P). refl)

  pub no : (P → ⊥) → (false ≡ true) ↔ P
  no f = (λ (e : false ≡ true). never e, λ (p : P). absurd (f p))

module _ {P Q : Type 0} where
  pub both : (x y : Bool) → (x ≡ true) ↔ P → (y ≡ true) ↔ Q → ((x && y) ≡ true) ↔ (P × Q)
  both true y f g = (λ (e : y ≡ true). (f.0 refl, g.0 e), λ (h : P × Q). g.1 h.1)
  both false y f g = (λ (e : false ≡ true). never e, λ (h : P × Q). f.1 h.0)

  -- the same of an equivalent statement
  pub through : (x : Bool) → (x ≡ true) ↔ P → (P → Q) → (Q → P) → (x ≡ true) ↔ Q
  through x f to from = (λ (e : x ≡ true). to (f.0 e), λ (q : Q). f.1 (from q))

pub equal : (a b : ℕ) → (eqb a b ≡ true) ↔ (a ≡ b)
equal a b = (eqb-true a b, eq-eqb a b)
