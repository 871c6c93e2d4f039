-- Laws of texts in a fixed number of places.
use mathlib.Core.Path.{◌≡◌, refl, ◌∙◌, ap}
use mathlib.Core.List.{List, [], ◌∷◌, ◌++◌, head-eq_of_cons-eq}
use Prim.Native.Nat.{ℕ, zero, suc, ◌/◌, ◌%◌, ◌^◌, ◌≤◌, ◌<◌}
use native.Mathlib.Nat.{pow-succ'}
use native.Mathlib.Omega.{arith}
use borrow.Author.Tests.{ltb-true, ltb-false, lt-ltb, le-ltb}
use lib.Dec.{ltb}
use lib.ListN.{length, length-append}
use Rattle.cells.proofs.Facts.{by_test}
use Rattle.cells.proofs.Lists.{same_front, same_back}
use Rattle.listing.specs.Decimal.{digit, decimal}
use Rattle.listing.specs.Places.{fill_left, digits, place_of}
use Rattle.listing.specs.Text.{blank}
use Rattle.listing.proofs.Numerals.{decimal-one, decimal-more}

-- ---- how long they are

pub length_digits : (places n : ℕ) → length (digits places n) ≡ places
length_digits zero n = refl
length_digits (suc places) n = omega (arith, length-append (digits places (n / 10)) (digit (n % 10) ∷ []), length_digits places (n / 10))

-- ---- a number behind blanks in five places

one-digit : (n : ℕ) → n < 10 → fill_left 5 (decimal n) ≡ blank ∷ blank ∷ blank ∷ blank ∷ digit n ∷ []
one-digit n h = ap (fill_left 5) (decimal-one n h)

two_digits : (n : ℕ) → 10 ≤ n → n < 100 → decimal n ≡ digit (n / 10) ∷ digit (n % 10) ∷ []
two_digits n a b = decimal-more n a (omega arith) ∙ ap (λ (s : List ℕ). s ++ digit (n % 10) ∷ []) (decimal-one (n / 10) (omega arith))

three-digits : (n : ℕ) → 100 ≤ n → n < 1000 → decimal n ≡ digit (n / 10 / 10) ∷ digit (n / 10 % 10) ∷ digit (n % 10) ∷ []
three-digits n a b = decimal-more n (omega arith) (omega arith) ∙ ap (λ (s : List ℕ). s ++ digit (n % 10) ∷ []) (two_digits (n / 10) (omega arith) (omega arith))

four-digits : (n : ℕ) → 1000 ≤ n → n < 10000 → decimal n ≡ digit (n / 10 / 10 / 10) ∷ digit (n / 10 / 10 % 10) ∷ digit (n / 10 % 10) ∷ digit (n % 10) ∷ []
four-digits n a b = decimal-more n (omega arith) (omega arith) ∙ ap (λ (s : List ℕ). s ++ digit (n % 10) ∷ []) (three-digits (n / 10) (omega arith) (omega arith))

blank_place : (n unit : ℕ) → n < unit → blank ≡ place_of n unit
blank_place n unit h = rw (lt-ltb n unit h)

digit_place : (n unit d : ℕ) → unit ≤ n → d ≡ n / unit % 10 → digit d ≡ place_of n unit
digit_place n unit d h e = rw (le-ltb n unit h, e)

same_five : {a b c d e i j k l m : ℕ} → a ≡ i → b ≡ j → c ≡ k → d ≡ l → e ≡ m → a ∷ b ∷ c ∷ d ∷ e ∷ [] ≡ i ∷ j ∷ k ∷ l ∷ m ∷ []
same_five a b c d e = cc

pub five_places : (n : ℕ) → n < 10000 → fill_left 5 (decimal n) ≡ place_of n 10000 ∷ place_of n 1000 ∷ place_of n 100 ∷ place_of n 10 ∷ digit (n % 10) ∷ []
five_places n h =
    let e = blank_place n 10000 h in
    by_test (ltb n 10)
    (λ t.
    let l = ltb-true n 10 t in
    one-digit n l ∙ same_five e (blank_place n 1000 (omega arith)) (blank_place n 100 (omega arith)) (blank_place n 10 l) (ap digit (omega arith)))
    (λ t.
    let k = ltb-false n 10 t in
    let d = digit_place n 10 (n / 10 % 10) k refl in
    by_test (ltb n 100)
    (λ u.
    let l = ltb-true n 100 u in
    ap (fill_left 5) (two_digits n k l) ∙ same_five e (blank_place n 1000 (omega arith)) (blank_place n 100 l) (digit_place n 10 (n / 10) k (omega arith)) refl)
    (λ u.
    let k = ltb-false n 100 u in
    by_test (ltb n 1000)
    (λ v.
    let l = ltb-true n 1000 v in
    ap (fill_left 5) (three-digits n k l) ∙ same_five e (blank_place n 1000 l) (digit_place n 100 (n / 10 / 10) k (omega arith)) d refl)
    (λ v.
    let l = ltb-false n 1000 v in
    ap (fill_left 5) (four-digits n l h) ∙ same_five e (digit_place n 1000 (n / 10 / 10 / 10) l (omega arith)) (digit_place n 100 (n / 10 / 10 % 10) k (omega arith)) d refl)))

-- ---- a number is known by its digits

pub same_digits : (k m n : ℕ) → m < 10 ^ k → n < 10 ^ k → digits k m ≡ digits k n → m ≡ n
same_digits zero m n h l e = omega (arith, h, l)
same_digits (suc k) m n h l e =
    let a = digits k (m / 10) in
    let b = digits k (n / 10) in
    let u = digit (m % 10) ∷ [] in
    let v = digit (n % 10) ∷ [] in
    let s = same_front k a u b v (length_digits k (m / 10)) (length_digits k (n / 10)) e in
    let t = same_back k a u b v (length_digits k (m / 10)) (length_digits k (n / 10)) e in
    omega (arith, same_digits k (m / 10) (n / 10) (omega (arith, pow-succ' 10 k)) (omega (arith, pow-succ' 10 k)) s, head-eq_of_cons-eq t)
