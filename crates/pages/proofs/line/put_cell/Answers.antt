-- `pages::line::put_cell` meets its contract.
use Rattle.listing.proofs.Pieces.{written-whole}
use Rattle.pages.proofs.Lines.{length-cell}
use Rattle.pages.proofs.line.put_cell.Goals as goal

pub returns : goal.returns
returns c =
    let e = written-whole c.put_line.ensures (length-cell c.args.p c.args.position c.args.cell.now c.requires.0 c.requires.1) in
    rw e at c.append.ensures
