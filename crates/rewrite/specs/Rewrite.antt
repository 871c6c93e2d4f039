-- Promise: the rewrite of a function: cleanup, then CrystalFold.
use Rattle.std.specs.Prelude.{ℕ, ◌+◌, List}
use Rattle.cells.specs.Cells.{Cell}
use Rattle.cells.specs.Functions.{Function}
use Rattle.cleanup.specs.Cleanup.{clean_code, clean_count, clean_function}
use Rattle.crystalfold.specs.Rules.{Rules}
use Rattle.crystalfold.specs.CrystalFold.{fold_code, folds_of, fold_function}

unfoldable pub rewrite_function : Rules → Function → Function
rewrite_function f g = fold_function f (clean_function g)

unfoldable pub rewrite_code : Rules → List Cell → List Cell
rewrite_code f cs = fold_code f (clean_code cs)

-- the report's count: the sum of both
unfoldable pub rewrite_count : Rules → List Cell → ℕ
rewrite_count f cs = clean_count cs + folds_of f (clean_code cs)
