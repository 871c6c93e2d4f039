-- CrystalFold keeps the number of cells, and folds no more than there are.
use Rattle.std.specs.Prelude.{Option, None, Some}
use mathlib.Core.Path.{◌≡◌, refl}
use mathlib.Core.List.{List, [], ◌∷◌}
use Prim.Native.Nat.{◌≤◌}
use native.Mathlib.Omega.{arith}
use lib.ListN.{length}
use Rattle.cells.specs.Cells.{Cell}
use Rattle.cells.specs.Ins.{Const}
use Rattle.cells.specs.View.{view, load_cell}
use Rattle.crystalfold.specs.Rules.{Rules}
use Rattle.crystalfold.specs.Fold.{Table, unknown, folded_to, known_after, one_if, fold_count, fold}
use Rattle.crystalfold.specs.CrystalFold.{fold_code, folds_of}

pub at_most_one : (k : Option Const) → one_if k ≤ 1
at_most_one None = omega arith
at_most_one (Some v) = omega arith

module _ (f : Rules) where
  fold-length : (t : Table) (p : List Cell) → length (fold view f load_cell t p) ≡ length p
  fold-length t [] = refl
  fold-length t (c ∷ p) = omega (arith, fold-length (known_after f t (view c)) p)

  pub length-folded : (cs : List Cell) → length (fold_code f cs) ≡ length cs
  unfolding fold_code
  length-folded cs = fold-length unknown cs

  count_few : (t : Table) (p : List Cell) → fold_count view f t p ≤ length p
  count_few t [] = omega arith
  count_few t (c ∷ p) = omega (arith, at_most_one (folded_to f t (view c)), count_few (known_after f t (view c)) p)

  pub folds_few : (cs : List Cell) → folds_of f cs ≤ length cs
  unfolding folds_of
  folds_few cs = count_few unknown cs
