-- Promise: texts in ASCII, and texts and numbers in a fixed number of places (document 02, W1: 'five digits', 'five places, blank-filled on the
-- left', '18 places from the left').
use Rattle.std.specs.Prelude.{cond, List, [], ◌∷◌, ◌++◌, ℕ, zero, suc, ◌-◌, ◌/◌, ◌%◌, ltb, length, replicate}
use Prim.Native.Char.{code}
use Prim.Native.String.{String}
use Prim.Native.String as Str
use Rattle.listing.specs.Decimal.{digit}
use Rattle.listing.specs.Text.{blank}

-- a text by its bytes; all of ours are ASCII
abbrev pub ascii : String → List ℕ
ascii (Str.[]) = []
ascii (Str.◌∷◌ c s) = code c ∷ ascii s

-- so many blanks
abbrev pub blanks : ℕ → List ℕ
blanks n = replicate n blank

-- a text in so many places from the left: blanks behind it
abbrev pub fill : ℕ → List ℕ → List ℕ
fill places s = s ++ blanks (places - length s)

-- blanks before it
abbrev pub fill_left : ℕ → List ℕ → List ℕ
fill_left places s = blanks (places - length s) ++ s

-- a number in so many digits: the last digit stands behind those of n / 10. Of a number with more digits they are the last
abbrev pub digits : ℕ → ℕ → List ℕ
digits zero n = []
digits (suc places) n = digits places (n / 10) ++ digit (n % 10) ∷ []

-- its digit at the place of a unit, a power of ten; a blank where the number is less
abbrev pub place_of : ℕ → ℕ → ℕ
place_of n unit = cond (ltb n unit) blank (digit (n / unit % 10))
