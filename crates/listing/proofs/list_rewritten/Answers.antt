-- `listing::list_rewritten` meets its contract.
use mathlib.Core.Path.{sym, ◌∙◌, ap}
use native.Mathlib.Omega.{arith}
use lib.ListN.{length}
use Rattle.cells.specs.Cells.{cells as cells_of}
use Rattle.cells.proofs.Cells.{length-cells, full_cells}
use Rattle.listing.specs.Text.{rewrites_line, rewritten_text}
use Rattle.listing.proofs.Pieces.{written-take, written_next}
use Rattle.listing.proofs.Lines.{length_lines}
use Rattle.listing.proofs.Whole.{length-rewrites, length_rewritten, listing_short, listing_whole}
use Rattle.listing.proofs.list_rewritten.Goals as goal

pub returns-then-text-n : goal.returns-then-text-n
returns-then-text-n c =
    let a = c.args in
    listing_short (rewritten_text (cells_of a.cells.now) a.rewrites) a.text.now (omega (arith, length_rewritten a.cells.now a.rewrites))

pub returns-then-text-lines : goal.returns-then-text-lines
returns-then-text-lines c =
    let a = c.args in
    let w = c.put_rewrites-m.ensures in
    listing_short (rewritten_text (cells_of a.cells.now) a.rewrites) a.text.now (omega (arith, w.end, length_rewritten a.cells.now a.rewrites))

pub slice_bounds-line-end : goal.slice_bounds-line-end
slice_bounds-line-end c =
    let w = c.put_rewrites-m.ensures in
    omega (arith, w.end, length-rewrites c.args.rewrites, c.put_rewrites-m.auto)

pub slice_bounds-append-end : goal.slice_bounds-append-end
slice_bounds-append-end c =
    let w = c.put_rewrites-m.ensures in
    w.end ∙ ap length (sym (written-take w))

pub append-requires : goal.append-requires
append-requires c =
    let a = c.args in
    let s = a.cells.now in
    let w = c.put_rewrites-m.ensures in
    let v = c.put_cells-at.ensures in
    omega (arith, w.end, ap length (written-take w), v.end, length_lines (cells_of s) (full_cells s), length-cells s, c.put_cells-at.auto)

pub returns : goal.returns
unfolding rewritten_text
returns c =
    let a = c.args in
    let s = a.cells.now in
    let w = c.put_rewrites-m.ensures in
    listing_whole (rewritten_text (cells_of s) a.rewrites) a.text.now (omega (arith, w.end, length_rewritten s a.rewrites))
    (written_next c.put_cells-at.ensures (rewrites_line a.rewrites) (rw (written-take w) at c.append.ensures))
