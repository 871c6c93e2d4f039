-- `listing::append` meets its contract.
use native.Mathlib.Omega.{arith}
use Rattle.listing.proofs.Pieces.{written_copy}
use Rattle.listing.proofs.append.Goals as goal

pub returns : goal.returns
returns c =
    let a = c.args in
    written_copy a.piece.now a.text.now _ a.at _ (omega arith) c.copy.ensures.0 c.copy.ensures.1
