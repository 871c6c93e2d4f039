-- The passes over functions joined: what is made of each, joined; and the sums of the counts.
use mathlib.Core.Path.{◌≡◌, ◌∙◌, ap}
use mathlib.Core.List.{List, [], ◌∷◌, ◌++◌, map-append}
use Prim.Native.Nat.{ℕ, ◌+◌}
use native.Mathlib.Omega.{arith}
use Rattle.cells.specs.Functions.{Function}
use Rattle.cleanup.specs.Cleanup.{clean_count, clean_function}
use Rattle.crystalfold.specs.Rules.{Rules}
use Rattle.crystalfold.specs.CrystalFold.{folds_of, fold_function}
use Rattle.rewrite.specs.AllFunctions.{clean_all, fold_all, rewrite_all, sum_of, clean_count_all, folds_of_all, rewrite_count_all}

pub clean_append : (fs gs : List Function) → clean_all (fs ++ gs) ≡ clean_all fs ++ clean_all gs
clean_append fs gs = map-append clean_function fs gs

sum-append : (n : Function → ℕ) (fs gs : List Function) → sum_of n (fs ++ gs) ≡ sum_of n fs + sum_of n gs
sum-append n [] gs = omega arith
sum-append n (f ∷ fs) gs = omega (arith, sum-append n fs gs)

pub clean_count_append : (fs gs : List Function) → clean_count_all (fs ++ gs) ≡ clean_count_all fs + clean_count_all gs
clean_count_append fs gs = sum-append (λ (g : Function). clean_count g.code) fs gs

module _ (f : Rules) where
  pub fold-append : (fs gs : List Function) → fold_all f (fs ++ gs) ≡ fold_all f fs ++ fold_all f gs
  fold-append fs gs = map-append (fold_function f) fs gs

  pub folds-append : (fs gs : List Function) → folds_of_all f (fs ++ gs) ≡ folds_of_all f fs + folds_of_all f gs
  folds-append fs gs = sum-append (λ (g : Function). folds_of f g.code) fs gs

  pub rewrite_append : (fs gs : List Function) → rewrite_all f (fs ++ gs) ≡ rewrite_all f fs ++ rewrite_all f gs
  rewrite_append fs gs = ap (fold_all f) (clean_append fs gs) ∙ fold-append (clean_all fs) (clean_all gs)

  pub rewrite_count_append : (fs gs : List Function) → rewrite_count_all f (fs ++ gs) ≡ rewrite_count_all f fs + rewrite_count_all f gs
  rewrite_count_append fs gs =
      omega (arith, clean_count_append fs gs, ap (folds_of_all f) (clean_append fs gs), folds-append (clean_all fs) (clean_all gs))
