-- Inner: the size of a number without its sign, as digits are read one by one, and the sign as it is written.
use Rattle.std.specs.Prelude.{cond, List, [], ◌∷◌, ℕ, ◌^◌, leb, ℤ, pos, negsuc, Option, Some, None}
use Rattle.listing.specs.Decimal.{value_from}
use Rattle.numbers.specs.Numbers.{minus, all_digits}

-- a size that an i32 can have, up to 2 ^ 31
abbrev pub size_up_to : ℕ → Option ℕ
size_up_to n = cond (leb n (2 ^ 31)) (Some n) None

-- of digits behind digits that stand for n
unfoldable pub size_from : ℕ → List ℕ → Option ℕ
size_from n s = cond (all_digits s) (size_up_to (value_from n s)) None

-- of one or more digits
abbrev pub size_in : List ℕ → Option ℕ
size_in [] = None
size_in (b ∷ s) = size_from 0 (b ∷ s)

abbrev pub sign_of : ℤ → List ℕ
sign_of (pos n) = []
sign_of (negsuc n) = minus ∷ []
