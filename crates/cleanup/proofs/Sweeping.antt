-- Laws of any sweep: it leaves cells out, what stays and what goes are all cells, and it may go over whatever stands for the cells.
use Rattle.std.specs.Prelude.{Option, None}
use mathlib.Core.Path.{◌≡◌, refl, ap, ◌∙◌}
use mathlib.Core.Bool.{Bool, false}
use mathlib.Core.List.{List, [], ◌∷◌, map}
use Prim.Native.Nat.{ℕ, ◌+◌}
use native.Mathlib.Omega.{arith}
use lib.ListN.{length}
use Rattle.cells.specs.Ins.{Ins, label_of}
use Rattle.cells.proofs.Facts.{by_test}
use Rattle.cells.proofs.Lists.{Sub, end, keep, skip, sub_sub}
use Rattle.cleanup.specs.Marks.{terminal, jump_of, removable_load}
use Rattle.cleanup.specs.Sweeps.{remaining, removing, same_label, dedupe, cut_off, reach, same_next, sweep, remove_duplicate_consecutive_labels, remove_unreachable_until_label, remove_noop_jumps, cleanup}

module _ {C S : Type 0} (goes : S → C → List C → Bool) (after : C → S) where
  pub sub_remaining : (s : S) (p : List C) → Sub (remaining goes after s p) p
  sub_remaining s [] = end
  sub_remaining s (c ∷ p) = by_test (goes s c p) (λ y. rw y (skip (sub_remaining s p))) (λ y. rw y (keep (sub_remaining (after c) p)))

  pub sub_removing : (s : S) (p : List C) → Sub (removing goes after s p) p
  sub_removing s [] = end
  sub_removing s (c ∷ p) = by_test (goes s c p) (λ y. rw y (keep (sub_removing s p))) (λ y. rw y (skip (sub_removing (after c) p)))

  -- each cell stays or goes
  pub both_lengths : (s : S) (p : List C) → length (remaining goes after s p) + length (removing goes after s p) ≡ length p
  both_lengths s [] = refl
  both_lengths s (c ∷ p) = by_test (goes s c p) (λ y. rw y (omega (arith, both_lengths s p))) (λ y. rw y (omega (arith, both_lengths (after c) p)))

-- over whatever stands for the cells
module _ {C D S : Type 0} (h : C → D) (goes : S → D → List D → Bool) (after : D → S) where
  abbrev pub goes_by : S → C → List C → Bool
  goes_by s c p = goes s (h c) (map h p)

  pub map-remaining : (s : S) (p : List C) → map h (remaining goes_by (λ (c : C). after (h c)) s p) ≡ remaining goes after s (map h p)
  map-remaining s [] = refl
  map-remaining s (c ∷ p) = by_test (goes s (h c) (map h p))
      (λ y. rw y (map-remaining s p))
      (λ y. rw y (ap (◌∷◌ (h c)) (map-remaining (after (h c)) p)))

  pub map-removing : (s : S) (p : List C) → map h (removing goes_by (λ (c : C). after (h c)) s p) ≡ removing goes after s (map h p)
  map-removing s [] = refl
  map-removing s (c ∷ p) = by_test (goes s (h c) (map h p))
      (λ y. rw y (ap (◌∷◌ (h c)) (map-removing s p)))
      (λ y. rw y (map-removing (after (h c)) p))

-- two tests that agree sweep alike
module _ {C S : Type 0} (goes other : S → C → List C → Bool) (after : C → S) (same : (s : S) (c : C) (p : List C) → goes s c p ≡ other s c p) where
  pub remaining-same : (s : S) (p : List C) → remaining goes after s p ≡ remaining other after s p
  remaining-same s [] = refl
  remaining-same s (c ∷ p) = rw (same s c p) (by_test (other s c p) (λ y. rw y (remaining-same s p)) (λ y. rw y (ap (◌∷◌ c) (remaining-same (after c) p))))

-- the same sweep with another state
module _ {C S T : Type 0} (π : S → T) (goes : S → C → List C → Bool) (after : C → S) (other : T → C → List C → Bool) (then : C → T)
    (same : (s : S) (c : C) (p : List C) → goes s c p ≡ other (π s) c p) (next : (c : C) → π (after c) ≡ then c) where
  pub remaining_through : (s : S) (p : List C) → remaining goes after s p ≡ remaining other then (π s) p
  remaining_through s [] = refl
  remaining_through s (c ∷ p) = rw (same s c p) (by_test (other (π s) c p)
      (λ y. rw y (remaining_through s p))
      (λ y. rw y (ap (◌∷◌ c) (remaining_through (after c) p ∙ ap (λ (t : T). remaining other then t p) (next c)))))

-- ---- cleanup's four

module _ {C : Type 0} (see : C → Ins) where
  pub sub_dedupe : (k : Option ℕ) (p : List C) → Sub (dedupe see k p) p
  sub_dedupe k p = sub_remaining (same_label see) (λ (c : C). label_of (see c)) k p

  pub sub_reach : (b : Bool) (p : List C) → Sub (reach see b p) p
  sub_reach b p = sub_remaining (λ (t : Bool) (c : C) (_ : List C). cut_off see t c) (λ (c : C). terminal (see c)) b p

  pub sub_sweep : (f g : Ins → Option ℕ) (p : List C) → Sub (sweep see f g p) p
  sub_sweep f g p = sub_remaining (same_next see f g) (λ (_ : C). tt) tt p

  pub sub_cleanup : (p : List C) → Sub (cleanup see p) p
  sub_cleanup p =
      let p₁ = remove_duplicate_consecutive_labels see p in
      let p₂ = remove_unreachable_until_label see p₁ in
      let p₃ = remove_noop_jumps see p₂ in
      sub_sub (sub_sweep removable_load removable_load p₃) (sub_sub (sub_sweep jump_of label_of p₂) (sub_sub (sub_reach false p₁) (sub_dedupe None p)))
