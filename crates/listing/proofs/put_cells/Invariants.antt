-- `listing::put_cells` meets its contract.
use mathlib.Core.Path.{◌≡◌}
use Prim.Native.Nat.{◌*◌}
use lib.ListN.{length, take}
use Rattle.cells.specs.Cells.{cells as cells_of}
use Rattle.listing.specs.Text.{cell_lines}
use Rattle.listing.specs.Promises.{TextWritten}
use Rattle.listing.proofs.put_cells.Given as goal

abbrev pub invariant-loop-cell : goal.invariant-loop-cell
invariant-loop-cell l = (l.at ≡ 33 * l.cell-index) × (length l.text ≡ length l.initial.text) × TextWritten (cell_lines (take l.cell-index (cells_of l.cells))) l.initial.text l.text l.at
