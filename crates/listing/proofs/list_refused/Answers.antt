-- `listing::list_refused` meets its contract.
use mathlib.Core.Path.{sym, ◌∙◌, ap}
use native.Mathlib.Omega.{arith}
use lib.ListN.{length}
use Rattle.listing.proofs.Pieces.{written-take}
use Rattle.listing.proofs.Whole.{length-refused}
use Rattle.listing.proofs.list_refused.Goals as goal

pub slice_bounds-line-end : goal.slice_bounds-line-end
slice_bounds-line-end c =
    let r = c.args.r in
    omega (arith, c.put_refused-n.ensures.end, length-refused r.number r.position r.detail, c.put_refused-n.auto)

pub slice_bounds-list_line-end : goal.slice_bounds-list_line-end
slice_bounds-list_line-end c =
    let w = c.put_refused-n.ensures in
    w.end ∙ ap length (sym (written-take w))

pub returns : goal.returns
returns c = rw (written-take c.put_refused-n.ensures) at c.list_line.ensures
