-- `numbers::put_sign` meets its contract.
use Rattle.listing.proofs.Pieces.{written_none}
use Rattle.numbers.proofs.Signs.{none-by_test}
use Rattle.numbers.proofs.put_sign.Goals as goal

pub returns-else-z-lt0 : goal.returns-else-z-lt0
returns-else-z-lt0 c = rw (none-by_test c.args.z c.ranges.z c.if-z-lt0.false) (written_none c.args.text.now)
