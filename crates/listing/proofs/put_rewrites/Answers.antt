-- `listing::put_rewrites` meets its contract.
use Rattle.listing.specs.Text.{line_feed, field, rewrites_line}
use Rattle.listing.proofs.Pieces.{written_next}
use Rattle.listing.proofs.put_rewrites.Goals as goal

pub returns : goal.returns
unfolding rewrites_line
returns c = written_next c.append-a.ensures (field c.args.count line_feed) c.put_field.ensures
