-- Promise: the rewrite of an image's functions as `run_default_opt_passes` does it: cleanup over every function, then CrystalFold over every function.
use Rattle.std.specs.Prelude.{List, [], ◌∷◌, map, ℕ, ◌+◌}
use Rattle.cells.specs.Functions.{Function}
use Rattle.cleanup.specs.Cleanup.{clean_count, clean_function}
use Rattle.crystalfold.specs.Rules.{Rules}
use Rattle.crystalfold.specs.CrystalFold.{folds_of, fold_function}

abbrev pub clean_all : List Function → List Function
clean_all fs = map clean_function fs

abbrev pub fold_all : Rules → List Function → List Function
fold_all f fs = map (fold_function f) fs

abbrev pub rewrite_all : Rules → List Function → List Function
rewrite_all f fs = fold_all f (clean_all fs)

-- the counts: of each pass over every function, and of both
abbrev pub sum_of : (Function → ℕ) → List Function → ℕ
sum_of n [] = 0
sum_of n (g ∷ fs) = n g + sum_of n fs

abbrev pub clean_count_all : List Function → ℕ
clean_count_all fs = sum_of (λ (g : Function). clean_count g.code) fs

abbrev pub folds_of_all : Rules → List Function → ℕ
folds_of_all f fs = sum_of (λ (g : Function). folds_of f g.code) fs

abbrev pub rewrite_count_all : Rules → List Function → ℕ
rewrite_count_all f fs = clean_count_all fs + folds_of_all f (clean_all fs)
