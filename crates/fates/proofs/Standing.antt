-- Where a position stands among increasing ones.
use mathlib.Core.Path.{◌≡◌, sym, ap, subst}
use mathlib.Core.Bool.{true, false, true≢false}
use mathlib.Core.List.{List, [], ◌∷◌, ◌++◌}
use Prim.Native.Nat.{ℕ, ◌<◌}
use native.Mathlib.Omega.{arith}
use lib.Dec.{eqb}
use Rattle.cells.specs.Lists.{All}
use Rattle.cells.proofs.Facts.{by_test, eqb_true, eqb_self}
use Rattle.cells.proofs.Lists.{all_parts}
use Rattle.cleanup.specs.Positions.{AllBelow}
use Rattle.fates.specs.Fates.{among}
use Rattle.fates.proofs.Lists.{Above, Increasing, among-above}

-- what holds of all positions of a list holds of one that is among them
pub all_among : (P : ℕ → Type 0) (k : ℕ) (p : List ℕ) → All P p → among k p ≡ true → P k
all_among P k [] a e = absurd (true≢false (sym e))
all_among P k (j ∷ p) a e = by_test (eqb j k) (λ y. subst P (eqb_true j k y) a.0) (λ y. all_among P k p a.1 (rw y at e))

pub below_differs : (j k : ℕ) → j < k → eqb j k ≡ false
below_differs j k h = by_test (eqb j k) (λ y. absurd (omega (arith, eqb_true j k y))) (λ y. y)

-- what stands there is among them
pub among_there : (k : ℕ) (a b : List ℕ) → among k (a ++ k ∷ b) ≡ true
among_there k [] b = rw (eqb_self k)
among_there k (j ∷ a) b = by_test (eqb j k) (λ y. rw y) (λ y. rw y (among_there k a b))

-- between one of increasing positions and those behind it there is none
pub none_between : (a : List ℕ) (j : ℕ) (b : List ℕ) (k : ℕ) → Increasing (a ++ j ∷ b) → j < k → Above k b → among k (a ++ j ∷ b) ≡ false
none_between [] j b k i h l = rw (below_differs j k h) (among-above k b l)
none_between (c ∷ a) j b k i h l =
    let m : c < j = (all_parts (λ (x : ℕ). c < x) a (j ∷ b) i.0).1.0 in
    rw (below_differs c k (omega arith)) (none_between a j b k i.1 h l)

-- k stands in p, between smaller and larger ones
pub record Standing (k : ℕ) (p : List ℕ) : Type 0 where
  pub ahead : List ℕ
  pub behind : List ℕ
  pub parts : p ≡ ahead ++ k ∷ behind
  pub below : AllBelow k ahead
  pub above : Above k behind

pub standing : (k : ℕ) (p : List ℕ) → Increasing p → among k p ≡ true → Standing k p
standing k [] i e = absurd (true≢false (sym e))
standing k (j ∷ p) i e = by_test (eqb j k)
    (λ y.
    let s : j ≡ k = eqb_true j k y in
    record { ahead = []; behind = p; parts = rw s; below = tt; above = rw s at i.0 })
    (λ y.
    let m : among k p ≡ true = rw y at e in
    let r = standing k p i.1 m in
    record { ahead = j ∷ r.ahead; behind = r.behind; parts = ap (◌∷◌ j) r.parts; below = (all_among (λ (x : ℕ). j < x) k p i.0 m, r.below); above = r.above })
