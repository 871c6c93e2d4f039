-- What is written of an i32 is read back as it.
use mathlib.Core.Path.{◌≡◌, refl, ◌∙◌, ap}
use mathlib.Core.Bool.{Bool, true, false}
use mathlib.Core.List.{List, [], ◌∷◌}
use Prim.Native.Nat.{ℕ, suc, ◌<◌}
use native.Mathlib.Omega.{arith}
use borrow.Author.Tests.{ltb-true, le-leb, ne_eqb}
use lib.IntN.{pos, negsuc}
use lib.ListN.{length}
use Rattle.cells.specs.Lists.{All}
use Rattle.listing.specs.Decimal.{decimal, IsDigit, Numeral}
use Rattle.listing.proofs.Numerals.{decimal-right}
use Rattle.numbers.specs.Numbers.{minus, plus, is_digit, all_digits, with_sign, ranged, number_of, number_in, signed, ReadBack}

digit_test : (b : ℕ) → IsDigit b → is_digit b ≡ true
digit_test b d = rw (le-leb 48 b d.0, le-leb b 57 d.1)

digits_test : (s : List ℕ) → All IsDigit s → all_digits s ≡ true
digits_test [] d = refl
digits_test (b ∷ s) d = rw (digit_test b d.0, digits_test s d.1)

-- a right numeral behind a sign is the number
numeral_reads : (negative : Bool) (n : ℕ) (s : List ℕ) → Numeral n s → number_of negative s ≡ ranged (with_sign negative n)
numeral_reads negative n [] d = absurd (omega (arith, d.some))
numeral_reads negative n (b ∷ s) d = rw (digits_test (b ∷ s) d.digits) (ap (λ (m : ℕ). ranged (with_sign negative m)) d.is_value)

-- and begins with none
numeral-plain : (s : List ℕ) → All IsDigit s → 0 < length s → number_in s ≡ number_of false s
unfolding number_in
numeral-plain [] d h = absurd (omega arith)
numeral-plain (b ∷ s) d h = rw (ne_eqb b minus (λ e. omega (arith, d.0.0)), ne_eqb b plus (λ e. omega (arith, d.0.0)))

pub read_back : ReadBack
unfolding signed number_in
read_back (pos n) e =
    let h : n < 2147483648 = ltb-true n 2147483648 e in
    let d = decimal-right n (omega arith) in
    numeral-plain (decimal n) d.digits d.some ∙ numeral_reads false n (decimal n) d ∙ rw e
read_back (negsuc n) e =
    let h : n < 2147483648 = ltb-true n 2147483648 e in
    numeral_reads true (suc n) (decimal (suc n)) (decimal-right (suc n) (omega arith)) ∙ rw e
