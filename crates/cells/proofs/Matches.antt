-- What the arms of a `match` on a number are told: each arm that the number is one of its patterns, and `_` that it is in none of the arms.
use mathlib.Core.Path.{◌≡◌, sym, subst}
use mathlib.Core.Bool.{Bool, true, false, ◌&&◌, ◌||◌, true≢false}
use mathlib.Core.List.{List, [], ◌∷◌}
use Prim.Native.Nat.{ℕ, zero, suc, ◌+◌, ◌≤◌, ◌<◌}
use native.Mathlib.Omega.{arith}
use borrow.Author.Tests.{ne_eqb}
use lib.Dec.{T, eqb}
use types.Run.{OneOf, hit}
use mir.Val.{has_key}
use Rattle.cells.proofs.Facts.{by_test, T_of, and_true, eqb_true, eqb_false}

or-right_true : (a b : Bool) → a ≡ false → (a || b) ≡ true → b ≡ true
or-right_true true b e y = absurd (true≢false e)
or-right_true false b e y = y

-- x is in none of the arms, as what `_` is told has it; the last arm stands first
abbrev pub Missed : List (List ℕ) → ℕ → Type 0
Missed [] x = Unit {0}
Missed (ks ∷ kss) x = Missed kss x × (OneOf ks x → ⊥)

-- some arm has k
abbrev pub listed : List (List ℕ) → ℕ → Bool
listed [] k = false
listed (ks ∷ kss) k = has_key ks k || listed kss k

pub missed : (kss : List (List ℕ)) (x k : ℕ) → Missed kss x → T (listed kss k) → x ≡ k → ⊥
missed [] x k m t e = t
missed (ks ∷ kss) x k m t e = by_test (has_key ks k)
    (λ y. m.1 (subst (OneOf ks) (sym e) (hit ks k (T_of (has_key ks k) y))))
    (λ y. missed kss x k m.0 (rw y at t) e)

-- so that x is none of the numbers that the arms have
abbrev pub covered : List (List ℕ) → List ℕ → Bool
covered kss [] = true
covered kss (k ∷ ks) = listed kss k && covered kss ks

pub missed_test : (kss : List (List ℕ)) (x : ℕ) → Missed kss x → (k : ℕ) → T (listed kss k) → eqb x k ≡ false
missed_test kss x m k t = ne_eqb x k (missed kss x k m t)

-- arms of one pattern each: of n numbers from k on, or of these
abbrev pub from : ℕ → ℕ → List (List ℕ)
from k zero = []
from k (suc n) = ((k + n) ∷ []) ∷ from k n

abbrev onto : List ℕ → List (List ℕ) → List (List ℕ)
onto [] kss = kss
onto (k ∷ ks) kss = onto ks ((k ∷ []) ∷ kss)

abbrev pub singly : List ℕ → List (List ℕ)
singly ks = onto ks []

-- ---- what the arms leave of the numbers from lo on

-- x is one of ks, if the arms have the others from lo on
abbrev pub filled : List (List ℕ) → List ℕ → ℕ → ℕ → Bool
filled kss ks lo zero = true
filled kss ks lo (suc n) = (has_key ks lo || listed kss lo) && filled kss ks (suc lo) n

pub one_of : (kss : List (List ℕ)) (ks : List ℕ) (lo n x : ℕ) → Missed kss x → lo ≤ x → x < lo + n → filled kss ks lo n ≡ true → OneOf ks x
one_of kss ks lo zero x m low high f = absurd (omega arith)
one_of kss ks lo (suc n) x m low high f =
    let (y, z) = and_true (has_key ks lo || listed kss lo) (filled kss ks (suc lo) n) f in
    by_test (eqb x lo)
    (λ e. by_test (has_key ks lo)
    (λ h. subst (OneOf ks) (sym (eqb_true x lo e)) (hit ks lo (T_of (has_key ks lo) h)))
    (λ h. absurd (missed kss x lo m (T_of (listed kss lo) (or-right_true (has_key ks lo) (listed kss lo) h y)) (eqb_true x lo e))))
    (λ e. let d : x ≡ lo → ⊥ = eqb_false x lo e in one_of kss ks (suc lo) n x m (omega arith) (omega arith) z)
