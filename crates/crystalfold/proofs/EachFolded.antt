-- What holds of every cell of a function holds of every cell that CrystalFold leaves, if it holds of each load of a computed command's dst.
use Rattle.std.specs.Prelude.{Option, None, Some}
use mathlib.Core.Path.{◌≡◌, refl}
use mathlib.Core.List.{List, [], ◌∷◌}
use Prim.Native.Nat.{ℕ}
use Rattle.cells.specs.Cells.{Cell}
use Rattle.cells.specs.Ins.{Const, Ins, load, comp, label, jmp, jmp_if, ret, act}
use Rattle.cells.specs.View.{view, load_cell}
use Rattle.cells.specs.Lists.{All}
use Rattle.crystalfold.specs.Rules.{Rules, fold₂}
use Rattle.crystalfold.specs.Fold.{Table, unknown, folded_to, dst_of, known_after, as_load, fold}
use Rattle.crystalfold.specs.CrystalFold.{fold_code}

module _ (Ok : Cell → Type 0) (f : Rules)
    (made : (c k : Cell) (o d a b : ℕ) (v : Const) → Ok c → view c ≡ comp k o d a b → Ok (load_cell d v)) where
  folded_ok : (t : Table) (c : Cell) (i : Ins) → view c ≡ i → Ok c → Ok (as_load view f load_cell c (dst_of i) (folded_to f t i))
  folded_ok t c (load d v) e k = k
  folded_ok t c (comp m o d a b) e k = go (fold₂ (f o) (t a) (t b))
    where
      go : (x : Option Const) → Ok (as_load view f load_cell c d x)
      go None = k
      go (Some v) = made c m o d a b v k e
  folded_ok t c (label l) e k = k
  folded_ok t c (jmp l) e k = k
  folded_ok t c (jmp_if a l) e k = k
  folded_ok t c (ret s) e k = k
  folded_ok t c (act m d b) e k = k

  all-fold : (t : Table) (p : List Cell) → All Ok p → All Ok (fold view f load_cell t p)
  all-fold t [] a = tt
  all-fold t (c ∷ p) a = (folded_ok t c (view c) refl a.0, all-fold (known_after f t (view c)) p a.1)

  pub all-folded : (cs : List Cell) → All Ok cs → All Ok (fold_code f cs)
  unfolding fold_code
  all-folded cs a = all-fold unknown cs a
