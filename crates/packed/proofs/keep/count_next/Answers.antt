-- `packed::keep::count_next` meets its contract.
use Rattle.packed.proofs.Counts.{counted-head}
use Rattle.packed.proofs.keep.count_next.Goals as goal

pub returns : goal.returns
returns c =
    let a = c.args in
    counted-head a.due.code a.due.events c.half.result c.half-2.result a.cell.now c.if-due-ne0.false c.if-due-ne0-2.false c.half.ensures.0 c.half-2.ensures.0
