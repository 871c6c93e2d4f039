-- `listing::put_cells` meets its contract.
use mathlib.Core.Path.{refl}
use mathlib.Core.List.{◌++◌}
use Prim.Native.Nat.{◌/◌, ◌<◌}
use native.Mathlib.Omega.{arith}
use lib.ListN.{length, take}
use Rattle.cells.specs.Cells.{cell_at}
use Rattle.cells.proofs.Cells.{length-cell_at}
use Rattle.listing.specs.Text.{cell_line}
use Rattle.listing.specs.Promises.{TextWritten}
use Rattle.listing.proofs.Pieces.{end_at_lem, written_none}
use Rattle.listing.proofs.Lines.{length-line, whole_cell, written-line}
use Rattle.listing.proofs.put_cells.Goals as goal

pub loop-cell-init : goal.loop-cell-init
loop-cell-init c = (refl, refl, written_none c.args.text.now)

pub loop-cell-preserved : goal.loop-cell-preserved
loop-cell-preserved c =
    let l = c.loop-cell in
    let s = c.args.cells.now in
    let h : l.cell-index < length s / 16 = omega arith in
    let w : TextWritten (take l.at l.text ++ cell_line (cell_at s l.cell-index)) l.text c.put_line-at.new.text c.put_line-at.result =
    rw (whole_cell s _ l.cell-index c.as_chunks.ensures.front (omega arith)) at c.put_line-at.ensures in
    let n = length-line (cell_at s l.cell-index) (length-cell_at s l.cell-index (omega arith)) in (
      omega (arith, n, end_at_lem l.text (cell_line (cell_at s l.cell-index)) l.at _ (omega arith) w.end),
      omega (arith, c.put_line-at.auto),
      written-line s l.cell-index l.invariant.2 h w,
    )
