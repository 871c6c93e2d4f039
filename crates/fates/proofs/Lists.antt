-- Positions in a list: which are among it, increasing lists, and fates written at places of another list.
use mathlib.Core.Path.{◌≡◌, refl, sym, ◌∙◌, ap}
use mathlib.Core.Bool.{Bool, true, false, cond}
use mathlib.Core.List.{List, [], ◌∷◌, map}
use Prim.Native.Nat.{ℕ, zero, suc, ◌+◌, ◌≤◌, ◌<◌}
use native.Mathlib.Nat.{le_of_suc-le-suc, not-suc-le-zero}
use native.Mathlib.Omega.{arith}
use lib.Dec.{eqb}
use lib.ListN.{length, get_or, set, length-set}
use lib.Seq.{get_or-set_same, get_or-set_other}
use Rattle.cells.specs.Lists.{All}
use Rattle.cells.proofs.Facts.{by_test, clash, eqb_true, eqb_false, or_false}
use Rattle.cells.proofs.Lists.{Sub, end, keep, skip, sub_all}
use Rattle.cleanup.specs.Positions.{up_from, AllBelow}
use Rattle.fates.specs.Fates.{among}
use Rattle.fates.specs.Steps.{marked, placed}
use Rattle.fates.specs.declared.Fate.{Fate}
use Rattle.fates.specs.declared.Fate.TheVariants.{RepeatedLabel}

-- ---- increasing lists

abbrev pub Above : ℕ → List ℕ → Type 0
Above k p = All (λ (j : ℕ). k < j) p

abbrev pub Increasing : List ℕ → Type 0
Increasing [] = Unit {0}
Increasing (k ∷ p) = Above k p × Increasing p

above_up : (k m n : ℕ) → k < m → Above k (up_from m n)
above_up k m zero h = tt
above_up k m (suc n) h = (h, above_up k (m + 1) n (omega arith))

pub increasing_up : (m n : ℕ) → Increasing (up_from m n)
increasing_up m zero = tt
increasing_up m (suc n) = (above_up m (m + 1) n (omega arith), increasing_up (m + 1) n)

pub sub_increasing : {q p : List ℕ} → Sub q p → Increasing p → Increasing q
sub_increasing end i = i
sub_increasing (keep {x} s) i = (sub_all (λ (j : ℕ). x < j) s i.0, sub_increasing s i.1)
sub_increasing (skip s) i = sub_increasing s i.1

-- ---- among

pub among-above : (k : ℕ) (p : List ℕ) → Above k p → among k p ≡ false
among-above k [] a = refl
among-above k (j ∷ p) a = by_test (eqb j k)
    (λ y. absurd (omega (arith, eqb_true j k y, a.0)))
    (λ y. rw y (among-above k p a.1))

pub among_below : (k : ℕ) (p : List ℕ) → AllBelow k p → among k p ≡ false
among_below k [] a = refl
among_below k (j ∷ p) a = by_test (eqb j k)
    (λ y. absurd (omega (arith, eqb_true j k y, a.0)))
    (λ y. rw y (among_below k p a.1))

pub among_up : (k m n : ℕ) → m ≤ k → k < m + n → among k (up_from m n) ≡ true
among_up k m zero h l = absurd (omega arith)
among_up k m (suc n) h l = by_test (eqb m k)
    (λ y. rw y)
    (λ y. rw y (among_up k (m + 1) n (omega (arith, eqb_false m k y)) (omega arith)))

pub among_sub : {q p : List ℕ} (k : ℕ) → Sub q p → among k q ≡ true → among k p ≡ true
among_sub k end e = e
among_sub k (keep {x} s) e = by_test (eqb x k) (λ y. rw y) (λ y. rw y (among_sub k s (rw y at e)))
among_sub k (skip {x} s) e = by_test (eqb x k) (λ y. rw y) (λ y. rw y (among_sub k s e))

pub not-among_sub : {q p : List ℕ} (k : ℕ) → Sub q p → among k p ≡ false → among k q ≡ false
not-among_sub {q} {p} k s e = by_test (among k q) (λ y. clash (among k p) (among_sub k s y) e) (λ y. y)

-- ---- one fate at many places

pub length_marked : (x : Fate) (p : List ℕ) (l : List Fate) → length (marked x p l) ≡ length l
length_marked x [] l = refl
length_marked x (k ∷ p) l = length_marked x p (set l k x) ∙ length-set l k x

pub get_or-marked : (x : Fate) (p : List ℕ) (l : List Fate) (k : ℕ) → k < length l → get_or (marked x p l) k RepeatedLabel ≡ cond (among k p) x (get_or l k RepeatedLabel)
get_or-marked x [] l k h = refl
get_or-marked x (j ∷ p) l k h = get_or-marked x p (set l j x) k (omega (arith, length-set l j x)) ∙ by_test (eqb j k)
    (λ y. let e : get_or (set l j x) k RepeatedLabel ≡ x = rw (eqb_true j k y) (get_or-set_same l k x RepeatedLabel h) in rw (y, e) (same (among k p)))
    (λ y. let e : get_or (set l j x) k RepeatedLabel ≡ get_or l k RepeatedLabel = get_or-set_other l j k x RepeatedLabel (λ z. eqb_false j k y (sym z)) in rw (y, e))
  where
    same : (b : Bool) → cond b x x ≡ x
    same true = refl
    same false = refl

-- behind all places a list is as it was
pub get_or-marked-behind : (x : Fate) (p : List ℕ) (l : List Fate) (k : ℕ) → AllBelow k p → get_or (marked x p l) k RepeatedLabel ≡ get_or l k RepeatedLabel
get_or-marked-behind x [] l k a = refl
get_or-marked-behind x (j ∷ p) l k a =
    get_or-marked-behind x p (set l j x) k a.1 ∙ get_or-set_other l j k x RepeatedLabel (λ z. omega (arith, a.0))

-- ---- fates, each at its place

pub length-placed : (p : List ℕ) (xs l : List Fate) → length (placed p xs l) ≡ length l
length-placed [] xs l = refl
length-placed (k ∷ p) [] l = refl
length-placed (k ∷ p) (x ∷ xs) l = length-placed p xs (set l k x) ∙ length-set l k x

-- at no place of it a list is as it was
pub get_or-placed_other : (p : List ℕ) (xs l : List Fate) (k : ℕ) → among k p ≡ false → get_or (placed p xs l) k RepeatedLabel ≡ get_or l k RepeatedLabel
get_or-placed_other [] xs l k e = refl
get_or-placed_other (j ∷ p) [] l k e = refl
get_or-placed_other (j ∷ p) (x ∷ xs) l k e =
    let o = or_false (eqb j k) (among k p) e in
    get_or-placed_other p xs (set l j x) k o.1 ∙ get_or-set_other l j k x RepeatedLabel (λ z. eqb_false j k o.0 (sym z))

-- ---- what f says of n positions from m on
pub get_or_up : {A : Type 0} (f : ℕ → A) (m n k : ℕ) (d : A) → k < n → get_or (map f (up_from m n)) k d ≡ f (m + k)
get_or_up f m zero k d h = absurd (not-suc-le-zero h)
get_or_up f m (suc n) zero d h = let e : m ≡ m + 0 = omega arith in ap f e
get_or_up f m (suc n) (suc k) d h =
    let e : m + 1 + k ≡ m + suc k = omega arith in
    get_or_up f (m + 1) n k d (le_of_suc-le-suc h) ∙ ap f e
