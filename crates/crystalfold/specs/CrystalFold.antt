-- Promise: CrystalFold of a function (document 01, module 5): its instruction cells and the count; its events stay.
use Rattle.std.specs.Prelude.{ℕ, List}
use Rattle.cells.specs.Cells.{Cell}
use Rattle.cells.specs.Functions.{Function}
use Rattle.cells.specs.View.{view, load_cell}
use Rattle.crystalfold.specs.Rules.{Rules}
use Rattle.crystalfold.specs.Fold.{unknown, fold, fold_count}

unfoldable pub fold_code : Rules → List Cell → List Cell
fold_code f cs = fold view f load_cell unknown cs

unfoldable pub folds_of : Rules → List Cell → ℕ
folds_of f cs = fold_count view f unknown cs

unfoldable pub fold_function : Rules → Function → Function
fold_function f g = record { head = g.head; code = fold_code f g.code; events = g.events }
