-- `image::check::check_cells` meets its contract.
use mathlib.Core.Path.{◌≡◌}
use Prim.Native.Nat.{◌+◌}
use lib.ListN.{drop}
use Rattle.cells.specs.Cells.{cells}
use Rattle.image.specs.Image.{cells_answer}
use Rattle.image.proofs.check.check_cells.Given as goal

abbrev pub invariant-loop-i : goal.invariant-loop-i
invariant-loop-i l = cells_answer l.p l.position l.first (cells l.part) ≡ cells_answer l.p l.position (l.first + l.i) (drop l.i (cells l.part))
