-- `listing::place` meets its contract.
use borrow.Author.Tests.{lt-ltb, le-ltb}
use Rattle.listing.proofs.place.Goals as goal

pub returns-then-n-unit : goal.returns-then-n-unit
returns-then-n-unit c = rw (lt-ltb _ _ c.if-n-unit.true)

pub returns : goal.returns
returns c = rw (le-ltb _ _ c.if-n-unit.false) c.digit.ensures
