-- Worked: words and the numbers that they say, and numbers as they are written.
use Rattle.std.specs.Prelude.{◌≡◌, refl, List, [], ◌∷◌, ◌++◌, map, ℕ, ℤ, pos, neg_ℤ, replicate, Option, Some, None}
use Rattle.listing.specs.Decimal.{decimal}
use Rattle.listing.specs.Places.{ascii}
use Rattle.numbers.specs.Numbers.{number_in, signed}

-- ---- what a word says

pub record NumberCase : Type 0 where
  pub word : List ℕ
  pub number : Option ℤ

abbrev pub says : List ℕ → Option ℤ → NumberCase
says word number = record { word = word; number = number }

pub number_cases : List NumberCase
number_cases =
    -- the ends of the range, and past them
    says (ascii "2147483647") (Some (pos 2147483647))
    ∷ says (ascii "2147483648") None
    ∷ says (ascii "-2147483648") (Some (neg_ℤ (pos 2147483648)))
    ∷ says (ascii "-2147483649") None
    ∷ says (ascii "+2147483647") (Some (pos 2147483647))
    ∷ says (ascii "+2147483648") None
    ∷ says (ascii "4294967296") None
    ∷ says (ascii "18446744073709551621") None
    ∷ says (ascii "99999999999999999999") None
    -- signs and leading zeros
    ∷ says (ascii "0") (Some (pos 0))
    ∷ says (ascii "-0") (Some (pos 0))
    ∷ says (ascii "+0") (Some (pos 0))
    ∷ says (ascii "5") (Some (pos 5))
    ∷ says (ascii "-5") (Some (neg_ℤ (pos 5)))
    ∷ says (ascii "+5") (Some (pos 5))
    ∷ says (ascii "007") (Some (pos 7))
    ∷ says (ascii "-007") (Some (neg_ℤ (pos 7)))
    ∷ says (replicate 100 48 ++ ascii "1") (Some (pos 1))
    -- no number: nothing, a sign alone, two signs, anything before or behind the digits
    ∷ says [] None
    ∷ says (ascii "-") None
    ∷ says (ascii "+") None
    ∷ says (ascii "+-5") None
    ∷ says (ascii "--5") None
    ∷ says (ascii "5x") None
    ∷ says (ascii "x5") None
    ∷ says (ascii " 5") None
    ∷ says (ascii "5 ") None
    ∷ says (ascii "- 5") None
    ∷ says (ascii "5-") None
    ∷ says (ascii "5.0") None
    ∷ says (ascii "0x5") None
    ∷ says (ascii "1,000") None
    -- the bytes beside the digits, `/` and `:`
    ∷ says (ascii "1/") None
    ∷ says (ascii "1:") None
    ∷ []

pub numbers_worked : map (λ (c : NumberCase). says c.word (number_in c.word)) number_cases ≡ number_cases
unfolding number_cases number_in
numbers_worked = refl

-- ---- and how a number is written

pub record SignedCase : Type 0 where
  pub value : ℤ
  pub text : List ℕ

abbrev pub writes : ℤ → List ℕ → SignedCase
writes value text = record { value = value; text = text }

pub signed_cases : List SignedCase
signed_cases =
    writes (pos 0) (ascii "0")
    ∷ writes (neg_ℤ (pos 1)) (ascii "-1")
    ∷ writes (pos 10) (ascii "10")
    ∷ writes (neg_ℤ (pos 2147483648)) (ascii "-2147483648")
    ∷ writes (pos 2147483647) (ascii "2147483647")
    ∷ []

pub signed_worked : map (λ (c : SignedCase). writes c.value (signed c.value)) signed_cases ≡ signed_cases
unfolding signed_cases signed decimal
signed_worked = refl
