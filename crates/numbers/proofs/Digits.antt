-- Digits read from left to right: their size, and the number that a word says.
use mathlib.Core.Path.{◌≡◌, refl, sym, ◌∙◌, ap, subst}
use mathlib.Core.Bool.{Bool, true, false}
use mathlib.Core.List.{List, [], ◌∷◌}
use Prim.Native.Nat.{ℕ, zero, suc, ◌+◌, ◌-◌, ◌*◌, ◌≤◌, ◌<◌}
use native.Mathlib.Nat.{le_refl, le_trans}
use native.Mathlib.Numerals.{add-one}
use native.Mathlib.Omega.{arith}
use borrow.Author.Tests.{leb-true, leb-false, le-leb, lt-leb, le-ltb, eq-eqb, ne_eqb}
use lib.Dec.{leb}
use lib.ListN.{length, get_or, take, drop, drop_of_length-le}
use lib.Seq.{drop-cons, take-length}
use Rattle.cells.proofs.Facts.{by_test, and_true}
use Rattle.listing.specs.Decimal.{value_from, value}
use Rattle.numbers.specs.Numbers.{plus, minus, is_digit, all_digits, with_sign, ranged, number_of, number_in}
use Rattle.numbers.specs.Sizes.{size_up_to, size_from, size_in}
use Rattle.std.specs.Prelude.{ℤ, Option, Some, None}

pub digit_bounds : (b : ℕ) → is_digit b ≡ true → (48 ≤ b) × (b ≤ 57)
digit_bounds b e = let t = and_true (leb 48 b) (leb b 57) e in (leb-true 48 b t.0, leb-true b 57 t.1)

-- ---- a turn of the loop

not_digit : (n b : ℕ) (s : List ℕ) → is_digit b ≡ false → size_from n (b ∷ s) ≡ None
unfolding size_from
not_digit n b s e = rw e

next-digit : (n b : ℕ) (s : List ℕ) → is_digit b ≡ true → size_from n (b ∷ s) ≡ size_from (10 * n + (b - 48)) s
unfolding size_from
next-digit n b s e = rw e

value_grows : (n : ℕ) (s : List ℕ) → n ≤ value_from n s
value_grows n [] = le_refl n
value_grows n (d ∷ s) = le_trans (omega arith) (value_grows (10 * n + (d - 48)) s)

-- past the greatest size, digits and anything else come to the same
past : (n : ℕ) (s : List ℕ) → 2147483648 < n → size_from n s ≡ None
unfolding size_from
past n s h = by_test (all_digits s) (λ t. rw (t, lt-leb (value_from n s) 2147483648 (omega (arith, value_grows n s)))) (λ t. rw t)

-- n is the size of the first i digits, and the others go on from there
pub record Reading (s : List ℕ) (n i : ℕ) : Type 0 where
  pub some : 0 < length s
  pub within : i ≤ length s
  pub most : n ≤ 2147483648
  pub same : size_from n (drop i s) ≡ size_in s

size_some : (s : List ℕ) → 0 < length s → size_from 0 s ≡ size_in s
size_some [] h = absurd (omega arith)
size_some (b ∷ s) h = refl

pub reading_none : (s : List ℕ) → 0 < length s → Reading s 0 0
reading_none s h = record { some = h; within = omega arith; most = omega arith; same = size_some s h }

module _ {s : List ℕ} {n i : ℕ} (r : Reading s n i) where
  module _ (h : i < length s) where
    at : size_from n (get_or s i 0 ∷ drop (suc i) s) ≡ size_in s
    at = ap (size_from n) (sym (drop-cons s i 0 h)) ∙ r.same

    pub reading_not : is_digit (get_or s i 0) ≡ false → None ≡ size_in s
    reading_not e = sym (not_digit n (get_or s i 0) (drop (suc i) s) e) ∙ at

    on : is_digit (get_or s i 0) ≡ true → size_from (10 * n + (get_or s i 0 - 48)) (drop (suc i) s) ≡ size_in s
    on e = sym (next-digit n (get_or s i 0) (drop (suc i) s) e) ∙ at

    pub reading_past : is_digit (get_or s i 0) ≡ true → 2147483648 < 10 * n + (get_or s i 0 - 48) → None ≡ size_in s
    reading_past e l = sym (past (10 * n + (get_or s i 0 - 48)) (drop (suc i) s) l) ∙ on e

    pub reading_next : is_digit (get_or s i 0) ≡ true → 10 * n + (get_or s i 0 - 48) ≤ 2147483648 → Reading s (10 * n + (get_or s i 0 - 48)) (i + 1)
    reading_next e l = record { some = r.some; within = omega arith; most = l; same = rw (add-one i) (on e) }

  pub reading_all : length s ≤ i → Some n ≡ size_in s
  unfolding size_from
  reading_all l =
      let t : size_from n [] ≡ Some n = rw (le-leb n 2147483648 r.most) in
      sym t ∙ ap (size_from n) (sym (drop_of_length-le s l)) ∙ r.same

pub size-empty : (s : List ℕ) → length s ≡ 0 → None ≡ size_in s
size-empty [] h = refl
size-empty (b ∷ s) h = absurd (omega arith)

-- ---- the number, by its size

abbrev by_size : Bool → Option ℕ → Option ℤ
by_size negative (Some n) = ranged (with_sign negative n)
by_size negative None = None

too_large : (negative : Bool) (n : ℕ) → 2147483648 < n → ranged (with_sign negative n) ≡ None
too_large true zero h = absurd (omega arith)
too_large true (suc n) h = rw (le-ltb n 2147483648 (omega arith))
too_large false n h = rw (le-ltb n 2147483648 (omega arith))

by-size_from : (negative : Bool) (n : ℕ) → by_size negative (size_up_to n) ≡ ranged (with_sign negative n)
by-size_from negative n =
    by_test (leb n 2147483648) (λ t. rw t) (λ t. rw t (sym (too_large negative n (leb-false n 2147483648 t))))

number_by-size : (negative : Bool) (s : List ℕ) → number_of negative s ≡ by_size negative (size_in s)
unfolding size_from
number_by-size negative [] = refl
number_by-size negative (b ∷ s) =
    by_test (all_digits (b ∷ s)) (λ t. rw t (sym (by-size_from negative (value (b ∷ s))))) (λ t. rw t)

abbrev AtMost : Option ℕ → Type 0
AtMost (Some n) = n ≤ 2147483648
AtMost None = Unit {0}

up_to_most : (n : ℕ) → AtMost (size_up_to n)
up_to_most n = by_test (leb n 2147483648) (λ t. rw t (leb-true n 2147483648 t)) (λ t. rw t tt)

size-most : (s : List ℕ) → AtMost (size_in s)
unfolding size_from
size-most [] = tt
size-most (b ∷ s) = by_test (all_digits (b ∷ s)) (λ t. rw t (up_to_most (value (b ∷ s)))) (λ t. rw t tt)

module _ (s : List ℕ) {r : Option ℕ} (e : r ≡ size_in s) where
  pub number_none : (negative : Bool) → r ≡ None → None ≡ number_of negative s
  number_none negative f = ap (by_size negative) (sym f ∙ e) ∙ sym (number_by-size negative s)

  pub number_some : (negative : Bool) (n : ℕ) → r ≡ Some n → ranged (with_sign negative n) ≡ number_of negative s
  number_some negative n f = ap (by_size negative) (sym f ∙ e) ∙ sym (number_by-size negative s)

  pub number_most : (n : ℕ) → r ≡ Some n → n ≤ 2147483648
  number_most n f = subst AtMost (sym e ∙ f) (size-most s)

-- ---- a word, by its first byte

-- what stands behind it
rest : (b : ℕ) (s : List ℕ) → take (length (b ∷ s) - 1) (drop 1 (b ∷ s)) ≡ s
rest b s =
    let e : length (b ∷ s) - 1 ≡ length s = omega arith in
    rw e (take-length s)

pub word-minus : (s : List ℕ) → 0 < length s → get_or s 0 0 ≡ minus → number_of true (take (length s - 1) (drop 1 s)) ≡ number_in s
unfolding number_in
word-minus [] h e = absurd (omega arith)
word-minus (b ∷ s) h e = rw (eq-eqb b minus e) (ap (number_of true) (rest b s))

pub word-plus : (s : List ℕ) → 0 < length s → get_or s 0 0 ≡ plus → number_of false (take (length s - 1) (drop 1 s)) ≡ number_in s
unfolding number_in
word-plus [] h e = absurd (omega arith)
word-plus (b ∷ s) h e =
    rw (ne_eqb b minus (λ m. let z : ◌≡◌ {A = ℕ} 43 45 = sym e ∙ m in omega arith), eq-eqb b plus e) (ap (number_of false) (rest b s))

-- no sign, or no byte at all
pub word-plain : (s : List ℕ) → (0 < length s → get_or s 0 0 ≡ minus → ⊥) → (0 < length s → get_or s 0 0 ≡ plus → ⊥) → number_of false s ≡ number_in s
unfolding number_in
word-plain [] m p = refl
word-plain (b ∷ s) m p = rw (ne_eqb b minus (m (omega arith)), ne_eqb b plus (p (omega arith)))
