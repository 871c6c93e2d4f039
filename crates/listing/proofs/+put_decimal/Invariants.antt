-- `listing::put_decimal` meets its contract: the number falls at each call.
use Rattle.listing.proofs.+put_decimal.Given as goal

abbrev pub decreases-put_decimal : goal.decreases-put_decimal
decreases-put_decimal l = l.n
