-- The decimal numeral is right: its digits' value is the number, and no zero stands in front.
use mathlib.Core.Path.{◌≡◌, refl, sym, ◌∙◌, ap}
use mathlib.Core.List.{List, [], ◌∷◌, ◌++◌}
use Prim.Native.Nat.{ℕ, zero, suc, ◌+◌, ◌-◌, ◌*◌, ◌/◌, ◌%◌, ◌^◌, ◌≤◌, ◌<◌}
use native.Mathlib.Nat.{pow-succ'}
use native.Mathlib.Omega.{arith}
use borrow.Author.Tests.{ltb-true, ltb-false, lt-ltb, le-ltb}
use lib.Dec.{ltb}
use lib.ListN.{length, get_or, length-append, get_or-append}
use Rattle.cells.specs.Lists.{All}
use Rattle.cells.proofs.Lists.{all_append}
use Rattle.cells.proofs.Facts.{by_test}
use Rattle.listing.specs.Decimal.{digit, numeral, decimal, value_from, value, IsDigit, Numeral}

numeral-one : (k n : ℕ) → n < 10 → numeral (suc k) n ≡ digit n ∷ []
numeral-one k n h = rw (lt-ltb n 10 h)

numeral-more : (k n : ℕ) → 10 ≤ n → numeral (suc k) n ≡ numeral k (n / 10) ++ digit (n % 10) ∷ []
numeral-more k n h = rw (le-ltb n 10 h)

tenth : (k n : ℕ) → n < 10 ^ suc k → n / 10 < 10 ^ k
tenth k n h = omega (arith, pow-succ' 10 k)

-- more places change nothing
enough : (k n : ℕ) → n < 10 ^ suc k → numeral (suc (suc k)) n ≡ numeral (suc k) n
enough zero n h = numeral-one 1 n (omega (arith, h)) ∙ sym (numeral-one 0 n (omega (arith, h)))
enough (suc k) n h =
    by_test (ltb n 10) (λ t. numeral-one (suc (suc k)) n (ltb-true n 10 t) ∙ sym (numeral-one (suc k) n (ltb-true n 10 t)))
    (λ t.
    numeral-more (suc (suc k)) n (ltb-false n 10 t) ∙ ap (λ (s : List ℕ). s ++ digit (n % 10) ∷ []) (enough k (n / 10) (tenth (suc k) n h))
    ∙ sym (numeral-more (suc k) n (ltb-false n 10 t)))

pub decimal-one : (n : ℕ) → n < 10 → decimal n ≡ digit n ∷ []
unfolding decimal
decimal-one n h = numeral-one 19 n h

pub decimal-more : (n : ℕ) → 10 ≤ n → n < 10 ^ 20 → decimal n ≡ decimal (n / 10) ++ digit (n % 10) ∷ []
unfolding decimal
decimal-more n h l = numeral-more 19 n h ∙ ap (λ (s : List ℕ). s ++ digit (n % 10) ∷ []) (sym (enough 18 (n / 10) (tenth 19 n l)))

length-numeral : (k n : ℕ) → length (numeral k n) ≤ k
length-numeral zero n = omega arith
length-numeral (suc k) n =
    by_test (ltb n 10) (λ t. rw (numeral-one k n (ltb-true n 10 t)) (omega arith))
    (λ t. rw (numeral-more k n (ltb-false n 10 t), length-append) (omega (arith, length-numeral k (n / 10))))

pub length_more : (n : ℕ) → 10 ≤ n → n < 10 ^ 20 → length (decimal n) ≡ length (decimal (n / 10)) + 1
length_more n h l = rw (decimal-more n h l) (length-append (decimal (n / 10)) (digit (n % 10) ∷ []))

pub length-one : (n : ℕ) → n < 10 → length (decimal n) ≡ 1
length-one n h = rw (decimal-one n h)

pub length-decimal : (n : ℕ) → length (decimal n) ≤ 20
unfolding decimal
length-decimal n = length-numeral 20 n

-- a number below 10 ^ k has no more than k digits
pub length_few : (k n : ℕ) → n < 10 ^ suc k → n < 10 ^ 20 → length (decimal n) ≤ suc k
length_few zero n h l = omega (arith, length-one n (omega (arith, h)))
length_few (suc k) n h l =
    by_test (ltb n 10) (λ t. omega (arith, length-one n (ltb-true n 10 t)))
    (λ t. omega (arith, length_more n (ltb-false n 10 t) l, length_few k (n / 10) (tenth (suc k) n h) (omega arith)))

-- ---- the value

value_snoc : (m : ℕ) (s : List ℕ) (d : ℕ) → value_from m (s ++ d ∷ []) ≡ 10 * value_from m s + (d - 48)
value_snoc m [] d = refl
value_snoc m (e ∷ s) d = value_snoc (10 * m + (e - 48)) s d

value-numeral : (k n : ℕ) → n < 10 ^ suc k → value (numeral (suc k) n) ≡ n
value-numeral zero n h = rw (numeral-one 0 n (omega (arith, h))) (omega arith)
value-numeral (suc k) n h =
    by_test (ltb n 10) (λ t. rw (numeral-one (suc k) n (ltb-true n 10 t)) (omega arith))
    (λ t.
    rw (numeral-more (suc k) n (ltb-false n 10 t))
    (omega (arith, value_snoc 0 (numeral (suc k) (n / 10)) (digit (n % 10)), value-numeral k (n / 10) (tenth (suc k) n h))))

-- ---- the digits

digits-numeral : (k n : ℕ) → All IsDigit (numeral k n)
digits-numeral zero n = tt
digits-numeral (suc k) n =
    by_test (ltb n 10)
    (λ t.
    let h : n < 10 = ltb-true n 10 t in
    rw (numeral-one k n h) ((omega arith, omega arith), tt))
    (λ t.
    rw (numeral-more k n (ltb-false n 10 t))
    (all_append IsDigit (numeral k (n / 10)) (digit (n % 10) ∷ []) (digits-numeral k (n / 10)) ((omega arith, omega arith), tt)))

some_numeral : (k n : ℕ) → 0 < length (numeral (suc k) n)
some_numeral k n =
    by_test (ltb n 10) (λ t. rw (numeral-one k n (ltb-true n 10 t)) (omega arith))
    (λ t. rw (numeral-more k n (ltb-false n 10 t), length-append) (omega arith))

no_zero_one : (k n : ℕ) → n < 10 → get_or (numeral (suc k) n) 0 0 ≡ 48 → numeral (suc k) n ≡ 48 ∷ []
no_zero_one k n h z =
    let e : numeral (suc k) n ≡ digit n ∷ [] = numeral-one k n h in
    let d : n ≡ 0 = omega (arith, rw e at z) in
    e ∙ rw d

no_zero_numeral : (k n : ℕ) → n < 10 ^ suc k → get_or (numeral (suc k) n) 0 0 ≡ 48 → numeral (suc k) n ≡ 48 ∷ []
no_zero_numeral zero n h z = no_zero_one 0 n (omega (arith, h)) z
no_zero_numeral (suc k) n h z =
    by_test (ltb n 10) (λ t. no_zero_one (suc k) n (ltb-true n 10 t) z)
    (λ t.
    let l : 10 ≤ n = ltb-false n 10 t in
    let s = numeral (suc k) (n / 10) in
    let m : n / 10 < 10 ^ suc k = tenth (suc k) n h in
    let f : get_or s 0 0 ≡ 48 = sym (get_or-append s (digit (n % 10) ∷ []) 0 0 (some_numeral k (n / 10))) ∙ (rw (numeral-more (suc k) n l) at z) in
    let v : value s ≡ 0 = ap value (no_zero_numeral k (n / 10) m f) in
    absurd (omega (arith, value-numeral k (n / 10) m)))

-- the numeral of a number of up to 20 digits, so of every usize, is right
pub decimal-right : (n : ℕ) → n < 10 ^ 20 → Numeral n (decimal n)
unfolding decimal
decimal-right n h = record {
  is_value = value-numeral 19 n h;
  digits = digits-numeral 20 n;
  some = some_numeral 19 n;
  few = length-numeral 20 n;
  no_zero = no_zero_numeral 19 n h;
}
