-- A position that a sweep over increasing positions takes: what the sweep leaves on both sides of it, and by which state it goes.
use mathlib.Core.Path.{◌≡◌, refl, ◌∙◌, ap, subst}
use mathlib.Core.Bool.{Bool, true, false}
use mathlib.Core.List.{List, [], ◌∷◌, ◌++◌, append_assoc}
use Prim.Native.Nat.{ℕ, ◌<◌}
use Rattle.cells.proofs.Facts.{by_test, clash}
use Rattle.cells.proofs.Lists.{Sub, end, keep, skip, sub_all, all_parts}
use Rattle.cleanup.specs.Positions.{AllBelow}
use Rattle.cleanup.specs.Sweeps.{remaining}
use Rattle.cleanup.proofs.Sweeping.{sub_remaining}
use Rattle.fates.specs.Fates.{among}
use Rattle.fates.proofs.Lists.{Above, Increasing}
use Rattle.fates.proofs.Standing.{Standing, standing, among_there}

module _ {S : Type 0} (goes : S → ℕ → List ℕ → Bool) (after : ℕ → S) where
  -- the state behind positions that stay
  abbrev pub state_behind : S → List ℕ → S
  state_behind s [] = s
  state_behind s (j ∷ q) = state_behind (after j) q

  -- what a sweep over a ++ b leaves of a, and from where it goes on
  record Halfway (s : S) (a b : List ℕ) : Type 0 where
    before : List ℕ
    sub : Sub before a
    left : remaining goes after s (a ++ b) ≡ before ++ remaining goes after (state_behind s before) b

  halfway : (s : S) (a b : List ℕ) → Halfway s a b
  halfway s [] b = record { before = []; sub = end; left = refl }
  halfway s (c ∷ a) b = by_test (goes s c (a ++ b))
      (λ y. let r = halfway s a b in record { before = r.before; sub = skip r.sub; left = rw y r.left })
      (λ y. let r = halfway (after c) a b in record { before = c ∷ r.before; sub = keep r.sub; left = rw y (ap (◌∷◌ c) r.left) })

  -- the sweep over p from the state s takes k
  pub record Taken (s : S) (p : List ℕ) (k : ℕ) : Type 0 where
    pub place : Standing k p
    -- what stays, before it and behind it
    pub before : List ℕ
    pub later : List ℕ
    pub left : remaining goes after s p ≡ before ++ later
    pub below : AllBelow k before
    pub above : Above k later
    pub by : goes (state_behind s before) k place.behind ≡ true

  pub taken : (s : S) (p : List ℕ) (k : ℕ) → Increasing p → among k p ≡ true → among k (remaining goes after s p) ≡ false → Taken s p k
  taken s p k i m g =
      let w = standing k p i m in
      let r = halfway s w.ahead (k ∷ w.behind) in
      let t : S = state_behind s r.before in
      let e : remaining goes after s p ≡ r.before ++ remaining goes after t (k ∷ w.behind) = ap (remaining goes after s) w.parts ∙ r.left in
      by_test (goes t k w.behind)
      (λ y. record {
        place = w;
        before = r.before;
        later = remaining goes after t w.behind;
        left = rw y at e;
        below = sub_all (λ (j : ℕ). j < k) r.sub w.below;
        above = sub_all (λ (j : ℕ). k < j) (sub_remaining goes after t w.behind) w.above;
        by = y;
      })
      (λ y. clash (among k (remaining goes after s p)) (rw (e, y) (among_there k r.before _)) g)

  -- ---- from a state in which nothing goes: it goes by the last position that stays before it

  pub record TakenBehind (s : S) (p : List ℕ) (k : ℕ) : Type 0 where
    pub before : List ℕ
    pub last : ℕ
    pub later : List ℕ
    pub parts : remaining goes after s p ≡ before ++ last ∷ later
    pub earlier : last < k
    pub above : Above k later
    pub behind : List ℕ
    pub by : goes (after last) k behind ≡ true

  -- the last of some positions that stay
  record Last (s : S) (q : List ℕ) : Type 0 where
    front : List ℕ
    last : ℕ
    parts : q ≡ front ++ last ∷ []
    state : state_behind s q ≡ after last

  last_of : (s : S) (j : ℕ) (q : List ℕ) → Last s (j ∷ q)
  last_of s j [] = record { front = []; last = j; parts = refl; state = refl }
  last_of s j (i ∷ q) =
      let r = last_of (after j) i q in
      record { front = j ∷ r.front; last = r.last; parts = ap (◌∷◌ j) r.parts; state = r.state }

  pub taken_behind : (s : S) → ((k : ℕ) (q : List ℕ) → goes s k q ≡ false) → (p : List ℕ) (k : ℕ) → Increasing p → among k p ≡ true → among k (remaining goes after s p) ≡ false → TakenBehind s p k
  taken_behind s stay p k i m g = go t.before t.left t.below t.by
    where
      t : Taken s p k
      t = taken s p k i m g

      go : (q : List ℕ) → remaining goes after s p ≡ q ++ t.later → AllBelow k q → goes (state_behind s q) k t.place.behind ≡ true → TakenBehind s p k
      go [] e l y = clash (goes s k t.place.behind) y (stay k t.place.behind)
      go (j ∷ q) e l y =
          let r = last_of s j q in
          record {
            before = r.front;
            last = r.last;
            later = t.later;
            parts = e ∙ ap (λ (x : List ℕ). x ++ t.later) r.parts ∙ append_assoc r.front (r.last ∷ []) t.later;
            earlier = (all_parts (λ (x : ℕ). x < k) r.front (r.last ∷ []) (subst (AllBelow k) r.parts l)).1.0;
            above = t.above;
            behind = t.place.behind;
            by = rw r.state at y;
          }
