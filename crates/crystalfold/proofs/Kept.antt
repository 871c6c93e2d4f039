-- Every cell that isn't folded keeps all its bytes: a cell of the result is the one sent, or the load of a computed command's dst in its
-- place.
use Rattle.std.specs.Prelude.{Option, None, Some}
use mathlib.Core.Path.{◌≡◌, refl}
use mathlib.Core.Logic.{◌⊎◌, inl, inr}
use mathlib.Core.List.{List, [], ◌∷◌}
use Prim.Native.Nat.{ℕ, zero, suc, ◌<◌}
use native.Mathlib.Nat.{le_of_suc-le-suc, not-suc-le-zero}
use lib.ListN.{length, get_or}
use Rattle.cells.specs.Cells.{Cell}
use Rattle.cells.specs.Ins.{Const, Ins, load, comp, label, jmp, jmp_if, ret, act}
use Rattle.cells.specs.View.{view, load_cell}
use Rattle.crystalfold.specs.Rules.{Rules, fold₂}
use Rattle.crystalfold.specs.Fold.{Table, unknown, folded_to, dst_of, known_after, fold, as_load}
use Rattle.crystalfold.specs.CrystalFold.{fold_code}

-- a computed command c whose place the load r of its dst takes
pub record Replaced (c r : Cell) : Type 0 where
  pub cell : Cell
  pub command : ℕ
  pub dst : ℕ
  pub lhs : ℕ
  pub rhs : ℕ
  pub result : Const
  pub is : view c ≡ comp cell command dst lhs rhs
  pub by : r ≡ load_cell dst result

module _ (f : Rules) where
  one_cell : (t : Table) (c : Cell) (i : Ins) → view c ≡ i
      → (as_load view f load_cell c (dst_of i) (folded_to f t i) ≡ c) ⊎ Replaced c (as_load view f load_cell c (dst_of i) (folded_to f t i))
  one_cell t c (load d v) e = inl refl
  one_cell t c (comp c' o d a b) e = go (fold₂ (f o) (t a) (t b))
    where
      go : (k : Option Const) → (as_load view f load_cell c d k ≡ c) ⊎ Replaced c (as_load view f load_cell c d k)
      go None = inl refl
      go (Some v) = inr (record { cell = c'; command = o; dst = d; lhs = a; rhs = b; result = v; is = e; by = refl })
  one_cell t c (label l) e = inl refl
  one_cell t c (jmp l) e = inl refl
  one_cell t c (jmp_if r l) e = inl refl
  one_cell t c (ret s) e = inl refl
  one_cell t c (act c' d b) e = inl refl

  each_cell : (t : Table) (cs : List Cell) (k : ℕ) → k < length cs
      → (get_or (fold view f load_cell t cs) k [] ≡ get_or cs k []) ⊎ Replaced (get_or cs k []) (get_or (fold view f load_cell t cs) k [])
  each_cell t [] k h = absurd (not-suc-le-zero h)
  each_cell t (c ∷ cs) zero h = one_cell t c (view c) refl
  each_cell t (c ∷ cs) (suc k) h = each_cell (known_after f t (view c)) cs k (le_of_suc-le-suc h)

  pub kept-or_replaced : (cs : List Cell) (k : ℕ) → k < length cs
      → (get_or (fold_code f cs) k [] ≡ get_or cs k []) ⊎ Replaced (get_or cs k []) (get_or (fold_code f cs) k [])
  unfolding fold_code
  kept-or_replaced cs k h = each_cell unknown cs k h
