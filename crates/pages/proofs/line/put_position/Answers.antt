-- `pages::line::put_position` meets its contract.
use native.Mathlib.Omega.{arith}
use Rattle.listing.proofs.Placed.{five_places}
use Rattle.pages.proofs.line.put_position.Goals as goal

pub returns : goal.returns
returns c =
    rw (five_places c.args.n (omega arith))
    (rw (c.place.ensures, c.place-2.ensures, c.place-3.ensures, c.place-4.ensures, c.digit.ensures) at c.append.ensures)
