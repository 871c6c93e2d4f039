-- Promise: which i32 a word says, as Rust's `i32::from_str` reads it, and how an i32 is written.
use Rattle.std.specs.Prelude.{◌≡◌, Bool, true, false, cond, ◌&&◌, List, [], ◌∷◌, ℕ, suc, leb, eqb, ℤ, pos, negsuc, neg_ℤ, Option, Some, None}
use Rattle.leaves.specs.Signed.{in_i32}
use Rattle.listing.specs.Decimal.{decimal, value}

-- `+` and `-`
abbrev pub plus : ℕ
plus = 43

abbrev pub minus : ℕ
minus = 45

-- ---- read

-- `0` to `9`
abbrev pub is_digit : ℕ → Bool
is_digit b = leb 48 b && leb b 57

abbrev pub all_digits : List ℕ → Bool
all_digits [] = true
all_digits (b ∷ s) = is_digit b && all_digits s

-- one or more digits, and nothing else; leading zeros are digits
abbrev pub is_numeral : List ℕ → Bool
is_numeral [] = false
is_numeral (b ∷ s) = all_digits (b ∷ s)

-- a size behind a minus sign, or behind none; -0 is 0
abbrev pub with_sign : Bool → ℕ → ℤ
with_sign true n = neg_ℤ (pos n)
with_sign false n = pos n

-- a number in the range of an i32, -2147483648 to 2147483647
abbrev pub ranged : ℤ → Option ℤ
ranged z = cond (in_i32 z) (Some z) None

-- what stands behind the sign
abbrev pub number_of : Bool → List ℕ → Option ℤ
number_of negative s = cond (is_numeral s) (ranged (with_sign negative (value s))) None

-- a word: an optional `+` or `-`, then digits
unfoldable pub number_in : List ℕ → Option ℤ
number_in [] = None
number_in (b ∷ s) = cond (eqb b minus) (number_of true s) (cond (eqb b plus) (number_of false s) (number_of false (b ∷ s)))

-- ---- written

-- a minus sign before a negative number's size
unfoldable pub signed : ℤ → List ℕ
signed (pos n) = decimal n
signed (negsuc n) = minus ∷ decimal (suc n)

-- what is written of an i32 is read back as it (proved in numbers/proofs/ReadBack.antt)
abbrev pub ReadBack : Type 0
ReadBack = (z : ℤ) → in_i32 z ≡ true → number_in (signed z) ≡ Some z
