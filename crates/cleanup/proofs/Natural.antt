-- Naturality: the sweeps over whatever stands for cells (a position, a cell, what a cell is) are the sweeps over the cells.
use Rattle.std.specs.Prelude.{Option}
use mathlib.Core.Path.{◌≡◌, refl, ap, ◌∙◌}
use mathlib.Core.Bool.{Bool}
use mathlib.Core.List.{List, [], ◌∷◌, map}
use Prim.Native.Nat.{ℕ}
use Rattle.cells.specs.Ins.{Ins, label_of, alike}
use Rattle.cleanup.specs.Marks.{terminal}
use Rattle.cleanup.specs.Sweeps.{same_label, dedupe, reach, unreached, cut_off, same_next, sweep, next, cleanup, removed}
use Rattle.cleanup.proofs.Sweeping.{goes_by, map-remaining, map-removing, remaining-same}

module _ {C D : Type 0} (see : D → Ins) (h : C → D) where
  -- what a C is, by the D that it stands for
  abbrev pub through : C → Ins
  through c = see (h c)

  pub map-dedupe : (k : Option ℕ) (p : List C) → map h (dedupe through k p) ≡ dedupe see k (map h p)
  map-dedupe k p = map-remaining h (same_label see) (λ (d : D). label_of (see d)) k p

  pub map-reach : (b : Bool) (p : List C) → map h (reach through b p) ≡ reach see b (map h p)
  map-reach b p = map-remaining h (λ (t : Bool) (d : D) (_ : List D). cut_off see t d) (λ (d : D). terminal (see d)) b p

  pub map-unreached : (b : Bool) (p : List C) → map h (unreached through b p) ≡ unreached see b (map h p)
  map-unreached b p = map-removing h (λ (t : Bool) (d : D) (_ : List D). cut_off see t d) (λ (d : D). terminal (see d)) b p

  pub map_next : (g : Ins → Option ℕ) (p : List C) → next through g p ≡ next see g (map h p)
  map_next g [] = refl
  map_next g (c ∷ p) = refl

  pub map-sweep : (f g : Ins → Option ℕ) (p : List C) → map h (sweep through f g p) ≡ sweep see f g (map h p)
  map-sweep f g p =
      ap (map h) (remaining-same (same_next through f g) (goes_by h (same_next see f g) (λ (_ : D). tt)) (λ (_ : C). tt) (λ _ c q. ap (alike (f (see (h c)))) (map_next g q)) tt p)
      ∙ map-remaining h (same_next see f g) (λ (_ : D). tt) tt p

  pub map-cleanup : (p : List C) → map h (cleanup through p) ≡ cleanup see (map h p)
  map-cleanup p = simp (map-sweep, map-reach, map-dedupe)

  pub map-removed : (p : List C) → map h (removed through p) ≡ removed see (map h p)
  map-removed p = simp (map-unreached, map-dedupe)
