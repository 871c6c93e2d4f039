-- Naturality: the fold over whatever stands for cells is the fold over the cells.
use Rattle.std.specs.Prelude.{Option, None, Some}
use mathlib.Core.Path.{◌≡◌, refl, ap, ap₂}
use mathlib.Core.List.{List, [], ◌∷◌, map}
use Prim.Native.Nat.{ℕ, ◌+◌}
use Rattle.cells.specs.Ins.{Const, Ins}
use Rattle.crystalfold.specs.Rules.{Rules}
use Rattle.crystalfold.specs.Fold.{Table, folded_to, dst_of, known_after, one_if, fold_count, as_load, fold}

module _ {C D : Type 0} (see : D → Ins) (h : C → D) (f : Rules) where
  -- what a C is, by the D that it stands for
  abbrev pub through : C → Ins
  through c = see (h c)

  pub map-fold_count : (t : Table) (p : List C) → fold_count through f t p ≡ fold_count see f t (map h p)
  map-fold_count t [] = refl
  map-fold_count t (c ∷ p) = ap (λ (n : ℕ). one_if (folded_to f t (see (h c))) + n) (map-fold_count (known_after f t (see (h c))) p)

  module _ (make : ℕ → Const → C) (make' : ℕ → Const → D) (made : (d : ℕ) (v : Const) → h (make d v) ≡ make' d v) where
    map-as_load : (c : C) (d : ℕ) (k : Option Const) → h (as_load through f make c d k) ≡ as_load see f make' (h c) d k
    map-as_load c d None = refl
    map-as_load c d (Some v) = made d v

    pub map-fold : (t : Table) (p : List C) → map h (fold through f make t p) ≡ fold see f make' t (map h p)
    map-fold t [] = refl
    map-fold t (c ∷ p) = ap₂ ◌∷◌ (map-as_load c (dst_of (see (h c))) (folded_to f t (see (h c)))) (map-fold (known_after f t (see (h c))) p)
