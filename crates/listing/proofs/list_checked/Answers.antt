-- `listing::list_checked` meets its contract.
use Rattle.listing.specs.Text.{refusal_text, good_text}
use Rattle.listing.proofs.list_checked.Goals as goal

pub returns-in-Ok : goal.returns-in-Ok
unfolding good_text
returns-in-Ok c = rw c.in-Ok.is c.list_line.ensures

pub returns-in-Err : goal.returns-in-Err
unfolding refusal_text
returns-in-Err c =
    rw (c.in-Err.is, ← c.from.ensures) c.list_refused.ensures
