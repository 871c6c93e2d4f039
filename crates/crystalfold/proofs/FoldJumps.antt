-- Jumps move with a fold, by any rules: it makes no label and takes none, and after a label nothing is known.
use Rattle.std.specs.Prelude.{Option, None, Some, option_map}
use mathlib.Core.Path.{◌≡◌, refl, sym, ap}
use mathlib.Core.List.{List, [], ◌∷◌}
use Prim.Native.Nat.{ℕ}
use Rattle.cells.specs.Ins.{Const, Ins, load, comp, label, jmp, jmp_if, ret, act, label_of, alike}
use Rattle.cells.proofs.Facts.{by_test, alike_true, label_is}
use Rattle.machine.specs.Run.{seek}
use Rattle.machine.proofs.Jumps.{plain}
use Rattle.crystalfold.specs.Rules.{Rules}
use Rattle.crystalfold.specs.Fold.{Table, unknown, folded_to, dst_of, known_after, as_load, fold}

module _ (f : Rules) where
  -- a cell, and a list of cells, by what they are
  abbrev pub folded : Table → Ins → Ins
  folded t i = as_load plain f load i (dst_of i) (folded_to f t i)

  abbrev pub folds : Table → List Ins → List Ins
  folds = fold plain f load

  value_label : (t : Table) (i : Ins) (v : Const) → folded_to f t i ≡ Some v → label_of i ≡ None
  value_label t (load d w) v e = refl
  value_label t (comp c o d a b) v e = refl
  value_label t (label l) v e = cc
  value_label t (jmp l) v e = refl
  value_label t (jmp_if c l) v e = refl
  value_label t (ret s) v e = refl
  value_label t (act c d b) v e = refl

  pub folded_label : (t : Table) (i : Ins) → label_of (folded t i) ≡ label_of i
  folded_label t i = go (folded_to f t i) refl
    where
      go : (k : Option Const) → folded_to f t i ≡ k → label_of (as_load plain f load i (dst_of i) k) ≡ label_of i
      go None e = refl
      go (Some v) e = sym (value_label t i v e)

  at_label_lem : (t : Table) (i : Ins) (p : List Ins) (l : ℕ) → label_of i ≡ Some l → folds t (i ∷ p) ≡ folds unknown (i ∷ p)
  at_label_lem t i p l e = rw (label_is i l e)

  pub seek-fold : (l : ℕ) (t : Table) (p : List Ins) → seek l (folds t p) ≡ option_map (folds unknown) (seek l p)
  seek-fold l t [] = refl
  seek-fold l t (i ∷ p) = rw (folded_label t i) (by_test (alike (Some l) (label_of i))
      (λ y. let (m, u, v) = alike_true (Some l) (label_of i) y in rw y (ap Some (at_label_lem t i p m v)))
      (λ y. rw y (seek-fold l (known_after f t i) p)))
