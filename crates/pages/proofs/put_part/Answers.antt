-- `pages::put_part` meets its contract.
use mathlib.Core.Path.{◌∙◌, sym}
use mathlib.Core.List.{[]}
use Prim.Native.Nat.{◌<◌, ◌/◌}
use native.Mathlib.Omega.{arith}
use lib.ListN.{length}
use Rattle.cells.specs.Cells.{cells}
use Rattle.cells.proofs.Cells.{length-cells, cell_at_lem}
use Rattle.listing.proofs.Lines.{whole_cell}
use Rattle.pages.proofs.Laying.{part_start, entry_room, part-next, part_end}
use Rattle.pages.proofs.put_part.Goals as goal

pub loop-i-init : goal.loop-i-init
loop-i-init c =
    part_start c.args.p c.args.name c.args.position (cells c.args.part.now) c.args.text.now c.args.at (omega (arith, c.requires.room))

pub overflow_add-position : goal.overflow_add-position
overflow_add-position c =
    record { fits = omega (arith, c.requires.few, length-cells c.args.part.now) }

pub put_entry-to-requires : goal.put_entry-to-requires
put_entry-to-requires c =
    let l = c.loop-i in
    let b = c.args.part.now in
    let h : l.i < length b / 16 = omega arith in
    rw (whole_cell b [] l.i c.as_chunks.ensures.front (omega arith) ∙ sym (cell_at_lem b l.i h)) (entry_room l.invariant (omega (arith, length-cells b)) c.requires)

pub loop-i-preserved : goal.loop-i-preserved
loop-i-preserved c =
    let l = c.loop-i in
    let b = c.args.part.now in
    let h : l.i < length b / 16 = omega arith in
    let v = c.put_entry-to in
    part-next l.invariant (omega (arith, length-cells b)) c.requires (rw (whole_cell b [] l.i c.as_chunks.ensures.front (omega arith) ∙ sym (cell_at_lem b l.i h)) at v.ensures) (omega (arith, v.auto))

pub returns : goal.returns
returns c =
    part_end c.loop-i.invariant (omega (arith, length-cells c.args.part.now))
