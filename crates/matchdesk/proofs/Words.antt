-- The test of a word against the words of the program.
use mathlib.Core.Path.{◌≡◌, refl, subst, ap₂}
use mathlib.Core.Bool.{Bool, true, false}
use mathlib.Core.List.{List, [], ◌∷◌}
use Prim.Native.Nat.{ℕ}
use lib.Dec.{eqb}
use Rattle.cells.proofs.Facts.{by_test, clash, and_true, eqb_true, eqb_self}
use Rattle.matchdesk.specs.Program.{same_bytes}

same_self : (a : List ℕ) → same_bytes a a ≡ true
same_self [] = refl
same_self (x ∷ a) = rw (eqb_self x, same_self a)

same_eq : (a b : List ℕ) → same_bytes a b ≡ true → a ≡ b
same_eq [] [] e = refl
same_eq [] (y ∷ b) e = clash false e refl
same_eq (x ∷ a) [] e = clash false e refl
same_eq (x ∷ a) (y ∷ b) e =
    let (p, q) = and_true (eqb x y) (same_bytes a b) e in
    ap₂ (λ (z : ℕ) (s : List ℕ). z ∷ s) (eqb_true x y p) (same_eq a b q)

-- an answer that is true exactly if the words are equal is the test's
pub same_test : (r : Bool) (a b : List ℕ) → (r ≡ true → a ≡ b) × (a ≡ b → r ≡ true) → same_bytes a b ≡ r
same_test true a b h = subst (λ (s : List ℕ). same_bytes a s ≡ true) (h.0 refl) (same_self a)
same_test false a b h = by_test (same_bytes a b) (λ y. clash false (h.1 (same_eq a b y)) refl) (λ n. n)
