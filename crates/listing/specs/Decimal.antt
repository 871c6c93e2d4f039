-- Promise: the decimal numeral of a number, in ASCII, and what makes a numeral right: document 01 asks for decimal numbers in the printed text.
use Rattle.std.specs.Prelude.{◌≡◌, cond, List, [], ◌∷◌, ◌++◌, ℕ, zero, suc, ◌+◌, ◌-◌, ◌*◌, ◌/◌, ◌%◌, ◌≤◌, ◌<◌, ltb, length, get_or}
use Rattle.cells.specs.Lists.{All}

-- the ASCII code of a digit
abbrev pub digit : ℕ → ℕ
digit d = 48 + d

-- the numeral of n, of at most `places` digits: the last digit stands behind the numeral of n / 10, and a number below 10 is one digit
abbrev pub numeral : ℕ → ℕ → List ℕ
numeral zero n = []
numeral (suc places) n = cond (ltb n 10) (digit n ∷ []) (numeral places (n / 10) ++ digit (n % 10) ∷ [])

-- 20 digits are enough for a number below 2 ^ 64
unfoldable pub decimal : ℕ → List ℕ
decimal n = numeral 20 n

-- ---- what is right: the digits' value is the number, and no zero stands in front

-- the number that digits stand for, behind digits that stand for n
abbrev pub value_from : ℕ → List ℕ → ℕ
value_from n [] = n
value_from n (d ∷ s) = value_from (10 * n + (d - 48)) s

abbrev pub value : List ℕ → ℕ
value s = value_from 0 s

abbrev pub IsDigit : ℕ → Type 0
IsDigit d = (48 ≤ d) × (d ≤ 57)

pub record Numeral (n : ℕ) (s : List ℕ) : Type 0 where
  pub is_value : value s ≡ n
  pub digits : All IsDigit s
  pub some : 0 < length s
  pub few : length s ≤ 20
  -- a leading zero is the numeral of 0
  pub no_zero : get_or s 0 0 ≡ 48 → s ≡ 48 ∷ []
