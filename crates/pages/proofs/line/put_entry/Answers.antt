-- `pages::line::put_entry` meets its contract.
use mathlib.Core.Path.{ap}
use native.Mathlib.Omega.{arith}
use lib.ListN.{length, take, length-append}
use Rattle.cells.specs.Cells.{flat}
use Rattle.listing.proofs.Pieces.{end_at_lem, written_both}
use Rattle.pages.specs.Pages.{new_page, cell_line}
use Rattle.pages.proofs.Lines.{length-cell, entry_text}
use Rattle.pages.proofs.line.put_entry.Goals as goal

pub put_page-k-requires : goal.put_page-k-requires
put_page-k-requires c =
    let a = c.args in
    let page = flat (new_page a.name a.position) in
    let line = cell_line a.p a.position a.cell.now in
    omega (arith, c.requires.room, ap length (entry_text a.p a.name a.position a.cell.now), length-append page line)

pub put_cell-requires : goal.put_cell-requires
put_cell-requires c =
    let a = c.args in
    let u = c.put_page-k in
    let page = flat (new_page a.name a.position) in
    let line = cell_line a.p a.position a.cell.now in
    let n = ap length (entry_text a.p a.name a.position a.cell.now) in
    let l = length-cell a.p a.position a.cell.now c.requires.listable c.requires.few in
    let e = end_at_lem a.text.now page a.at u.result (omega (arith, c.requires.room)) u.ensures.end in
    (c.requires.listable, c.requires.few, omega (arith, e, n, l, length-append page line, c.requires.room, u.auto))

pub returns : goal.returns
returns c =
    let a = c.args in
    rw (entry_text a.p a.name a.position a.cell.now)
    (written_both (take a.at a.text.now) (flat (new_page a.name a.position)) (cell_line a.p a.position a.cell.now) c.put_page-k.ensures c.put_cell.ensures)
