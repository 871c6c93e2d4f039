-- The rewrite of an image's functions reads of a leaf's answer only whether there is a value (document 02, W5): with the leaves' reasons left out, the
-- functions handed back and the count are the same, by any rules. So the operations' bytes and answers, which are made of these, are too.
use mathlib.Core.Path.{◌≡◌, ap, fun_ext}
use mathlib.Core.List.{List, map}
use Prim.Native.Nat.{ℕ, ◌+◌}
use Rattle.cells.specs.Functions.{Function}
use Rattle.crystalfold.specs.Rules.{Rules}
use Rattle.crystalfold.proofs.WithoutReasons.{reasonless, same-folds, same-function}
use Rattle.rewrite.specs.AllFunctions.{clean_all, fold_all, rewrite_all, sum_of, clean_count_all, folds_of_all, rewrite_count_all}

module _ (f : Rules) where
  pub same-fold-all : (fs : List Function) → fold_all (reasonless f) fs ≡ fold_all f fs
  same-fold-all fs = ap (λ (h : Function → Function). map h fs) (fun_ext λ g. same-function f g)

  pub same_rewrite_all : (fs : List Function) → rewrite_all (reasonless f) fs ≡ rewrite_all f fs
  same_rewrite_all fs = same-fold-all (clean_all fs)

  pub same-folds-all : (fs : List Function) → folds_of_all (reasonless f) fs ≡ folds_of_all f fs
  same-folds-all fs = ap (λ (h : Function → ℕ). sum_of h fs) (fun_ext λ g. same-folds f g.code)

  pub same_rewrite_count : (fs : List Function) → rewrite_count_all (reasonless f) fs ≡ rewrite_count_all f fs
  same_rewrite_count fs = ap (λ (n : ℕ). clean_count_all fs + n) (same-folds-all (clean_all fs))
