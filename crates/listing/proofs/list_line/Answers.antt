-- `listing::list_line` meets its contract.
use native.Mathlib.Omega.{arith}
use Rattle.listing.proofs.Whole.{listing_short, listing_whole}
use Rattle.listing.proofs.list_line.Goals as goal

pub returns-then-text-line : goal.returns-then-text-line
returns-then-text-line c = listing_short c.args.line.now c.args.text.now (omega arith)

pub returns : goal.returns
returns c = listing_whole c.args.line.now c.args.text.now (omega arith) c.append.ensures
