-- What one rewrite of a function's cells leaves to the next, and why the third finds nothing. For cells of any form, any rules and any labels.
--
-- After one round there is no cell between Ret or Jmp and the next label, no Jmp to the next cell, and nothing to fold (`Settled`). Labels that
-- a removed Jmp stood between may be neighbours and alike, and so may be loads that a fold made. The second round takes these, and nothing else
-- (`second`): no jump, nothing unreachable, so no event, and no fold. After it there is nothing left (`Quiet`).
use Rattle.std.specs.Prelude.{Option, None, Some}
use mathlib.Core.Path.{◌≡◌, refl, sym, ◌∙◌, ap, fun_ext, subst}
use mathlib.Core.Bool.{Bool, true, false, true≢false, ◌&&◌, not}
use mathlib.Core.List.{List, [], ◌∷◌}
use Prim.Native.Nat.{ℕ}
use native.Mathlib.Omega.{arith}
use lib.Dec.{eqb}
use Rattle.cells.specs.Ins.{Const, Ins, load, comp, label, jmp, jmp_if, ret, act, label_of, alike}
use Rattle.cells.proofs.Facts.{by_test, alike_true, alike_eq, alike-none, label_is}
use Rattle.cleanup.specs.Marks.{terminal, is_there, jump_of, removable_load}
use Rattle.cleanup.specs.Sweeps.{cut_off, dedupe, reach, unreached, next, sweep, cleanup}
use Rattle.cleanup.proofs.NoopJumps.{jump_is, jump_label}
use Rattle.cleanup.proofs.RedundantLoads.{load_is, load_label}
use Rattle.crystalfold.specs.Rules.{Rules}
use Rattle.crystalfold.specs.Fold.{Table, unknown, note, folded_to, dst_of, known_after, one_if, fold_count, as_load, fold}

-- ---- tests

label_goes_on : (i : Ins) (l : ℕ) → label_of i ≡ Some l → terminal i ≡ false
label_goes_on i l e = rw (label_is i l e)

label_unknown : (f : Rules) (t : Table) (i : Ins) (l : ℕ) → label_of i ≡ Some l → known_after f t i ≡ unknown
label_unknown f t i l e = rw (label_is i l e)

-- a cell that is no label and not cut off is reached
not_cut : (b : Bool) (k : Option ℕ) → k ≡ None → (b && not (is_there k)) ≡ false → b ≡ false
not_cut true k e x = absurd (true≢false (rw e at x))
not_cut false k e x = refl

note-note : (d : ℕ) (j k : Option Const) (t : Table) → note d k (note d j t) ≡ note d k t
unfolding note
note-note d j k t = fun_ext λ x. by_test (eqb x d) (λ e. rw e) (λ e. rw e)

module _ {C : Type 0} (see : C → Ins) where
  -- ---- lists on which a pass does nothing

  -- sweeps 1, 3 and 4: no cell's f is the next cell's g
  abbrev Swept : (Ins → Option ℕ) → (Ins → Option ℕ) → List C → Type 0
  Swept f g [] = Unit {0}
  Swept f g (c ∷ p) = (alike (f (see c)) (next see g p) ≡ false) × Swept f g p

  -- sweep 2
  abbrev pub Reached : Bool → List C → Type 0
  Reached b [] = Unit {0}
  Reached b (c ∷ p) = (cut_off see b c ≡ false) × Reached (terminal (see c)) p

  -- the fold
  abbrev Folded : Rules → Table → List C → Type 0
  Folded f t [] = Unit {0}
  Folded f t (c ∷ p) = (folded_to f t (see c) ≡ None) × Folded f (known_after f t (see c)) p

  dedupe_rests : (k : Option ℕ) (p : List C) → alike k (next see label_of p) ≡ false → Swept label_of label_of p → dedupe see k p ≡ p
  dedupe_rests k [] e x = refl
  dedupe_rests k (c ∷ p) e x = rw e (ap (◌∷◌ c) (dedupe_rests (label_of (see c)) p x.0 x.1))

  reach_rests : (b : Bool) (p : List C) → Reached b p → reach see b p ≡ p
  reach_rests b [] x = refl
  reach_rests b (c ∷ p) x = rw x.0 (ap (◌∷◌ c) (reach_rests (terminal (see c)) p x.1))

  -- and nothing goes
  pub none-unreached : (b : Bool) (p : List C) → Reached b p → unreached see b p ≡ []
  none-unreached b [] x = refl
  none-unreached b (c ∷ p) x = rw x.0 (none-unreached (terminal (see c)) p x.1)

  sweep_rests : (f g : Ins → Option ℕ) (p : List C) → Swept f g p → sweep see f g p ≡ p
  sweep_rests f g [] x = refl
  sweep_rests f g (c ∷ p) x = rw x.0 (ap (◌∷◌ c) (sweep_rests f g p x.1))

  -- ---- what each sweep brings about

  first_label : (k : Option ℕ) (p : List C) → alike k (next see label_of (dedupe see k p)) ≡ false
  first_label k [] = alike-none k
  first_label k (c ∷ p) = by_test (alike k (label_of (see c)))
      (λ y. rw y (first_label k p))
      (λ y. rw y y)

  dedupe-swept : (k : Option ℕ) (p : List C) → Swept label_of label_of (dedupe see k p)
  dedupe-swept k [] = tt
  dedupe-swept k (c ∷ p) = by_test (alike k (label_of (see c)))
      (λ y. rw y (dedupe-swept k p))
      (λ y. rw y (first_label (label_of (see c)) p, dedupe-swept (label_of (see c)) p))

  reach_reached : (b : Bool) (p : List C) → Reached b (reach see b p)
  reach_reached b [] = tt
  reach_reached b (c ∷ p) = by_test (cut_off see b c)
      (λ y. rw y (reach_reached b p))
      (λ y. rw y (y, reach_reached (terminal (see c)) p))

  -- a sweep for loads leaves the next load and the next label what they were
  next_load : (p : List C) → next see removable_load (sweep see removable_load removable_load p) ≡ next see removable_load p
  next_load [] = refl
  next_load (c ∷ p) = by_test (alike (removable_load (see c)) (next see removable_load p))
      (λ y. rw y (next_load p ∙ sym (alike_eq (removable_load (see c)) (next see removable_load p) y)))
      (λ y. rw y)

  no_label : (p : List C) (d : ℕ) → next see removable_load p ≡ Some d → next see label_of p ≡ None
  no_label [] d e = refl
  no_label (c ∷ p) d e = load_label (see c) d e

  next_label : (p : List C) → next see label_of (sweep see removable_load removable_load p) ≡ next see label_of p
  next_label [] = refl
  next_label (c ∷ p) = by_test (alike (removable_load (see c)) (next see removable_load p))
      (λ y.
      let (d, u, v) = alike_true (removable_load (see c)) (next see removable_load p) y in
      rw y (next_label p ∙ no_label p d v ∙ sym (load_label (see c) d u)))
      (λ y. rw y)

  loads-swept : (p : List C) → Swept removable_load removable_load (sweep see removable_load removable_load p)
  loads-swept [] = tt
  loads-swept (c ∷ p) = by_test (alike (removable_load (see c)) (next see removable_load p))
      (λ y. rw y (loads-swept p))
      (λ y. rw y (rw (next_load p) y, loads-swept p))

  -- behind a Jmp stands a label, which the sweep for jumps keeps: a Jmp that it keeps is no jump to the next cell afterwards
  jump_next : (c : C) (p : List C) (l : ℕ) → jump_of (see c) ≡ Some l → Reached (terminal (see c)) p → next see label_of (sweep see jump_of label_of p) ≡ next see label_of p
  jump_next c [] l e x = refl
  jump_next c (a ∷ p) l e x =
      let w : terminal (see c) ≡ true = rw (jump_is (see c) l e) in
      by_test (alike (jump_of (see a)) (next see label_of p))
      (λ y.
      let (m, u, v) = alike_true (jump_of (see a)) (next see label_of p) y in
      absurd (true≢false (sym w ∙ not_cut (terminal (see c)) (label_of (see a)) (jump_label (see a) m u) x.0)))
      (λ y. rw y)

  jumps-swept : (b : Bool) (p : List C) → Reached b p → Swept jump_of label_of (sweep see jump_of label_of p)
  jumps-swept b [] x = tt
  jumps-swept b (c ∷ p) x = by_test (alike (jump_of (see c)) (next see label_of p))
      (λ y. rw y (jumps-swept (terminal (see c)) p x.1))
      (λ y. rw y (go (jump_of (see c)) refl y, jumps-swept (terminal (see c)) p x.1))
    where
      go : (k : Option ℕ) → jump_of (see c) ≡ k → alike (jump_of (see c)) (next see label_of p) ≡ false → alike (jump_of (see c)) (next see label_of (sweep see jump_of label_of p)) ≡ false
      go None e y = rw e
      go (Some l) e y = rw (jump_next c p l e x.1) y

  -- ---- what later sweeps keep

  weaker : (b : Bool) (p : List C) → Reached b p → Reached false p
  weaker b [] x = tt
  weaker b (c ∷ p) x = (refl, x.1)

  reached_sweep : (f g : Ins → Option ℕ) → ((i : Ins) (l : ℕ) → f i ≡ Some l → label_of i ≡ None) → (b : Bool) (p : List C) → Reached b p → Reached b (sweep see f g p)
  reached_sweep f g u b [] x = tt
  reached_sweep f g u b (c ∷ p) x = by_test (alike (f (see c)) (next see g p))
      (λ y.
      let (l, v, w) = alike_true (f (see c)) (next see g p) y in
      rw (y, not_cut b (label_of (see c)) (u (see c) l v) x.0) (weaker (terminal (see c)) (sweep see f g p) (reached_sweep f g u (terminal (see c)) p x.1)))
      (λ y. rw y (x.0, reached_sweep f g u (terminal (see c)) p x.1))

  -- b and k are of the cell just kept
  reached_dedupe : (b : Bool) (k : Option ℕ) → ((l : ℕ) → k ≡ Some l → b ≡ false) → (p : List C) → Reached b p → Reached b (dedupe see k p)
  reached_dedupe b k u [] x = tt
  reached_dedupe b k u (c ∷ p) x = by_test (alike k (label_of (see c)))
      (λ y.
      let (l, v, w) = alike_true k (label_of (see c)) y in
      let q : Reached (terminal (see c)) p = x.1 in
      rw y (reached_dedupe b k u p (rw (u l v, ← (label_goes_on (see c) l w)) q)))
      (λ y. rw y (x.0, reached_dedupe (terminal (see c)) (label_of (see c)) (label_goes_on (see c)) p x.1))

  swept-loads : (f : Ins → Option ℕ) (p : List C) → Swept f label_of p → Swept f label_of (sweep see removable_load removable_load p)
  swept-loads f [] x = tt
  swept-loads f (c ∷ p) x = by_test (alike (removable_load (see c)) (next see removable_load p))
      (λ y. rw y (swept-loads f p x.1))
      (λ y. rw y (rw (next_label p) x.0, swept-loads f p x.1))

  next-kept : (p : List C) → next see label_of (dedupe see None p) ≡ next see label_of p
  next-kept [] = refl
  next-kept (c ∷ p) = refl

  jumps-dedupe : (k : Option ℕ) (p : List C) → Swept jump_of label_of p → Swept jump_of label_of (dedupe see k p)
  jumps-dedupe k [] x = tt
  jumps-dedupe k (c ∷ p) x = by_test (alike k (label_of (see c)))
      (λ y. rw y (jumps-dedupe k p x.1))
      (λ y. rw y (go (jump_of (see c)) refl, jumps-dedupe (label_of (see c)) p x.1))
    where
      go : (j : Option ℕ) → jump_of (see c) ≡ j → alike (jump_of (see c)) (next see label_of (dedupe see (label_of (see c)) p)) ≡ false
      go None e = rw e
      go (Some l) e = rw (jump_label (see c) l e, next-kept p) x.0

  module _ (f : Rules) where
    -- nothing folds exactly if the count is 0
    none-folded : (t : Table) (p : List C) → fold_count see f t p ≡ 0 → Folded f t p
    none-folded t [] e = tt
    none-folded t (c ∷ p) e = (go (folded_to f t (see c)) (omega (arith, e)), none-folded (known_after f t (see c)) p (omega (arith, e)))
      where
        go : (k : Option Const) → one_if k ≡ 0 → k ≡ None
        go None e = refl
        go (Some v) e = absurd (omega (arith, e))

    folded-none : (t : Table) (p : List C) → Folded f t p → fold_count see f t p ≡ 0
    folded-none t [] x = refl
    folded-none t (c ∷ p) x = let a : one_if (folded_to f t (see c)) ≡ 0 = rw x.0 in omega (arith, a, folded-none (known_after f t (see c)) p x.1)

    -- the second of two equal labels changes nothing that is known
    folded-dedupe : (t : Table) (k : Option ℕ) → ((l : ℕ) → k ≡ Some l → t ≡ unknown) → (p : List C) → Folded f t p → Folded f t (dedupe see k p)
    folded-dedupe t k u [] x = tt
    folded-dedupe t k u (c ∷ p) x = by_test (alike k (label_of (see c)))
        (λ y.
        let (l, v, w) = alike_true k (label_of (see c)) y in
        let q : Folded f (known_after f t (see c)) p = x.1 in
        rw y (folded-dedupe t k u p (subst (λ s. Folded f s p) (label_unknown f t (see c) l w ∙ sym (u l v)) q)))
        (λ y. rw y (x.0, folded-dedupe (known_after f t (see c)) (label_of (see c)) (label_unknown f t (see c)) p x.1))

    -- before a load into d, what is known of d does not matter
    before_load : (d : ℕ) (j : Option Const) (t : Table) (p : List C) → next see removable_load p ≡ Some d → Folded f (note d j t) p → Folded f t p
    before_load d j t [] e x = tt
    before_load d j t (c ∷ p) e x =
        let (v, w) = load_is (see c) d e in
        (rw w, subst (λ s. Folded f s p) (after v w) x.1)
      where
        after : (v : Const) → see c ≡ load d v → known_after f (note d j t) (see c) ≡ known_after f t (see c)
        after v w = rw w (note-note d j (Some v) t)

    folded-loads : (t : Table) (p : List C) → Folded f t p → Folded f t (sweep see removable_load removable_load p)
    folded-loads t [] x = tt
    folded-loads t (c ∷ p) x = by_test (alike (removable_load (see c)) (next see removable_load p))
        (λ y.
        let (d, u, v) = alike_true (removable_load (see c)) (next see removable_load p) y in
        let (w, z) = load_is (see c) d u in
        let p' : List C = sweep see removable_load removable_load p in
        let q : Folded f (known_after f t (see c)) p' = folded-loads (known_after f t (see c)) p x.1 in
        rw y (before_load d (Some w) t p' (next_load p ∙ v) (subst (λ s. Folded f s p') (ap (known_after f t) z) q)))
        (λ y. rw y (x.0, folded-loads (known_after f t (see c)) p x.1))

    module _ (make : ℕ → Const → C) (seen : (d : ℕ) (v : Const) → see (make d v) ≡ load d v) where
      abbrev folds : Table → List C → List C
      folds = fold see f make

      abbrev rewrite : List C → List C
      rewrite p = folds unknown (cleanup see p)

      fold_rests : (t : Table) (p : List C) → Folded f t p → folds t p ≡ p
      fold_rests t [] x = refl
      fold_rests t (c ∷ p) x = rw x.0 (ap (◌∷◌ c) (fold_rests (known_after f t (see c)) p x.1))

      -- the cell as the fold leaves it
      abbrev here : Table → C → C
      here t c = as_load see f make c (dst_of (see c)) (folded_to f t (see c))

      -- what is the same of a load and of a computed command, a fold does not change
      same_of : {A : Type 0} (g : Ins → A) (a : A) → ((d : ℕ) (v : Const) → g (load d v) ≡ a) → ((c : List ℕ) (o d x y : ℕ) → g (comp c o d x y) ≡ a)
          → (t : Table) (c : C) → g (see (here t c)) ≡ g (see c)
      same_of g a u w t c = go (folded_to f t (see c)) refl
        where
          is : (i : Ins) (v : Const) → folded_to f t i ≡ Some v → g i ≡ a
          is (load d z) v e = u d z
          is (comp b o d x y) v e = w b o d x y
          is (label l) v e = let z : ◌≡◌ {A = Bool} true false = cc in absurd (true≢false z)
          is (jmp l) v e = let z : ◌≡◌ {A = Bool} true false = cc in absurd (true≢false z)
          is (jmp_if b l) v e = let z : ◌≡◌ {A = Bool} true false = cc in absurd (true≢false z)
          is (ret s) v e = let z : ◌≡◌ {A = Bool} true false = cc in absurd (true≢false z)
          is (act b d z) v e = let z : ◌≡◌ {A = Bool} true false = cc in absurd (true≢false z)

          go : (k : Option Const) → folded_to f t (see c) ≡ k → g (see (as_load see f make c (dst_of (see c)) k)) ≡ g (see c)
          go None e = refl
          go (Some v) e = ap g (seen (dst_of (see c)) v) ∙ u (dst_of (see c)) v ∙ sym (is (see c) v e)

      here_label : (t : Table) (c : C) → label_of (see (here t c)) ≡ label_of (see c)
      here_label = same_of label_of None (λ d v. refl) (λ b o d x y. refl)

      here_jump : (t : Table) (c : C) → jump_of (see (here t c)) ≡ jump_of (see c)
      here_jump = same_of jump_of None (λ d v. refl) (λ b o d x y. refl)

      here_terminal : (t : Table) (c : C) → terminal (see (here t c)) ≡ terminal (see c)
      here_terminal = same_of terminal false (λ d v. refl) (λ b o d x y. refl)

      reached_fold : (b : Bool) (t : Table) (p : List C) → Reached b p → Reached b (folds t p)
      reached_fold b t [] x = tt
      reached_fold b t (c ∷ p) x = rw (here_label t c, here_terminal t c) (x.0, reached_fold (terminal (see c)) (known_after f t (see c)) p x.1)

      next-fold : (t : Table) (p : List C) → next see label_of (folds t p) ≡ next see label_of p
      next-fold t [] = refl
      next-fold t (c ∷ p) = here_label t c

      jumps-fold : (t : Table) (p : List C) → Swept jump_of label_of p → Swept jump_of label_of (folds t p)
      jumps-fold t [] x = tt
      jumps-fold t (c ∷ p) x = (rw (here_jump t c, next-fold (known_after f t (see c)) p) x.0, jumps-fold (known_after f t (see c)) p x.1)

      -- a folded cell is not folded again, and leaves known what the command did
      here_known : (t : Table) (c : C) → (folded_to f t (see (here t c)) ≡ None) × (known_after f t (see (here t c)) ≡ known_after f t (see c))
      here_known t c = go (folded_to f t (see c)) refl
        where
          at : (i : Ins) (v : Const) → folded_to f t i ≡ Some v → known_after f t i ≡ note (dst_of i) (Some v) t
          at (load d z) v e = cc
          at (comp b o d x y) v e = rw e
          at (label l) v e = cc
          at (jmp l) v e = cc
          at (jmp_if b l) v e = cc
          at (ret s) v e = cc
          at (act b d z) v e = cc

          go : (k : Option Const) → folded_to f t (see c) ≡ k
              → (folded_to f t (see (as_load see f make c (dst_of (see c)) k)) ≡ None) × (known_after f t (see (as_load see f make c (dst_of (see c)) k)) ≡ known_after f t (see c))
          go None e = (e, refl)
          go (Some v) e = (ap (folded_to f t) (seen (dst_of (see c)) v), ap (known_after f t) (seen (dst_of (see c)) v) ∙ sym (at (see c) v e))

      fold-folded : (t : Table) (p : List C) → Folded f t (folds t p)
      fold-folded t [] = tt
      fold-folded t (c ∷ p) =
          ((here_known t c).0, subst (λ s. Folded f s (folds (known_after f t (see c)) p)) (sym (here_known t c).1) (fold-folded (known_after f t (see c)) p))

      -- ---- the rounds

      -- after one: only repeated labels and overwritten loads are left to remove
      record Settled (p : List C) : Type 0 where
        reached : Reached false p
        jumps : Swept jump_of label_of p
        folded : Folded f unknown p

      -- after two: nothing
      record Quiet (p : List C) : Type 0 where
        settled : Settled p
        labels : Swept label_of label_of p
        loads : Swept removable_load removable_load p

      settles : (p : List C) → Settled (rewrite p)
      settles p =
          let p₁ : List C = dedupe see None p in
          let p₂ : List C = reach see false p₁ in
          let p₃ : List C = sweep see jump_of label_of p₂ in
          let p₄ : List C = sweep see removable_load removable_load p₃ in
          let r : Reached false p₂ = reach_reached false p₁ in
          record {
            reached = reached_fold false unknown p₄ (reached_sweep removable_load removable_load load_label false p₃ (reached_sweep jump_of label_of jump_label false p₂ r));
            jumps = jumps-fold unknown p₄ (swept-loads jump_of p₃ (jumps-swept false p₂ r));
            folded = fold-folded unknown p₄;
          }

      -- the second round removes repeated labels, then overwritten loads, and no more
      second_reached : (p : List C) → Settled p → Reached false (dedupe see None p)
      second_reached p s = reached_dedupe false None (λ l e. refl) p s.reached

      second_cleanup : (p : List C) → Settled p → cleanup see p ≡ sweep see removable_load removable_load (dedupe see None p)
      second_cleanup p s =
          let p₁ : List C = dedupe see None p in
          let a : reach see false p₁ ≡ p₁ = reach_rests false p₁ (second_reached p s) in
          let b : sweep see jump_of label_of p₁ ≡ p₁ = sweep_rests jump_of label_of p₁ (jumps-dedupe None p s.jumps) in
          rw (a, b)

      second_folded : (p : List C) → Settled p → Folded f unknown (cleanup see p)
      second_folded p s = rw (second_cleanup p s) (folded-loads unknown (dedupe see None p) (folded-dedupe unknown None (λ l e. refl) p s.folded))

      second : (p : List C) → Settled p → rewrite p ≡ sweep see removable_load removable_load (dedupe see None p)
      second p s = fold_rests unknown (cleanup see p) (second_folded p s) ∙ second_cleanup p s

      second_quiet : (p : List C) → Settled p → Quiet (rewrite p)
      second_quiet p s =
          let p₁ : List C = dedupe see None p in
          record {
            settled = settles p;
            labels = subst (Swept label_of label_of) (sym (second p s)) (swept-loads label_of p₁ (dedupe-swept None p));
            loads = subst (Swept removable_load removable_load) (sym (second p s)) (loads-swept p₁);
          }

      -- the third finds nothing: cleanup leaves every cell, and the fold folds none
      pub third_cleanup : (p : List C) → cleanup see (rewrite (rewrite p)) ≡ rewrite (rewrite p)
      third_cleanup p =
          let q : List C = rewrite (rewrite p) in
          let z : Quiet q = second_quiet (rewrite p) (settles p) in
          rw (dedupe_rests None q refl z.labels, reach_rests false q z.settled.reached, sweep_rests jump_of label_of q z.settled.jumps, sweep_rests removable_load removable_load q z.loads)

      pub third_folds : (p : List C) → fold_count see f unknown (rewrite (rewrite p)) ≡ 0
      third_folds p = folded-none unknown (rewrite (rewrite p)) (second_quiet (rewrite p) (settles p)).settled.folded

      -- where nothing folds, the fold leaves every cell
      pub fold_still : (p : List C) → fold_count see f unknown p ≡ 0 → folds unknown p ≡ p
      fold_still p e = fold_rests unknown p (none-folded unknown p e)
