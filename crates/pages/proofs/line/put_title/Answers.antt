-- `pages::line::put_title` meets its contract.
use native.Mathlib.Omega.{arith}
use lib.ListN.{length-append}
use Rattle.cells.specs.Names.{name_of}
use Rattle.listing.specs.Decimal.{decimal}
use Rattle.listing.specs.Places.{ascii, fill, fill_left}
use Rattle.listing.proofs.Pieces.{written_next}
use Rattle.pages.proofs.Lines.{length_position}
use Rattle.pages.proofs.line.put_title.Goals as goal

pub append-b-requires : goal.append-b-requires
append-b-requires c =
    let u = c.put_position-a in
    omega (arith, u.ensures.end, length_position c.args.position c.requires.1, u.auto)

pub put_name-requires : goal.put_name-requires
put_name-requires c =
    let u = c.put_position-a in
    let v = c.append-b in
    let w = written_next u.ensures (ascii "  ") v.ensures in
    let n = fill_left 5 (decimal c.args.position) in
    (c.requires.0, omega (arith, w.end, length-append n (ascii "  "), length_position c.args.position c.requires.1, u.auto, v.auto))

pub returns : goal.returns
returns c =
    let a = c.args in
    written_next (written_next c.put_position-a.ensures (ascii "  ") c.append-b.ensures) (fill 18 (ascii (name_of a.p a.cell.now))) c.put_name.ensures
