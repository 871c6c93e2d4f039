-- Laws of any list: of the tests on its elements, what a loop over the first of them finds, and what stands before and behind.
use mathlib.Core.Path.{◌≡◌, refl, ap, sym, ◌∙◌}
use mathlib.Core.Logic.{◌↔◌}
use mathlib.Core.List.{List, [], ◌∷◌, ◌++◌}
use mathlib.Core.Bool.{Bool, true, false, ◌||◌, not, or-true, or_assoc, true≢false}
use Prim.Native.Nat.{ℕ, zero, suc, ◌+◌, ◌-◌, ◌≤◌, ◌<◌}
use native.Mathlib.Nat.{le_of_suc-le-suc, not-suc-le-zero}
use native.Mathlib.Numerals.{add-one}
use native.Mathlib.Omega.{arith}
use lib.ListN.{length, get_or, take, drop}
use lib.Seq.{take-suc, take_at, drop_at, drop-cons, get_or-take, length-take-le}
use Rattle.cells.specs.Lists.{one, any, tally, only, All}
use Rattle.cells.specs.Spans.{part}
use Rattle.cells.proofs.Facts.{by_test, clash}

module _ {A : Type 0} (f : A → Bool) where
  pub any_append : (xs ys : List A) → any f (xs ++ ys) ≡ (any f xs || any f ys)
  any_append [] ys = refl
  any_append (x ∷ xs) ys = ap (λ (b : Bool). f x || b) (any_append xs ys) ∙ sym (or_assoc (f x) (any f xs) (any f ys))

  -- found at j: found among the first i
  pub any_at : (d : A) (xs : List A) (i j : ℕ) → j < i → j < length xs → f (get_or xs j d) ≡ true → any f (take i xs) ≡ true
  any_at d [] i j h l e = absurd (not-suc-le-zero l)
  any_at d (x ∷ xs) zero j h l e = absurd (not-suc-le-zero h)
  any_at d (x ∷ xs) (suc i) zero h l e = simp e
  any_at d (x ∷ xs) (suc i) (suc j) h l e =
      ap (λ (b : Bool). f x || b) (any_at d xs i j (le_of_suc-le-suc h) (le_of_suc-le-suc l) e) ∙ or-true (f x)

  -- not found among the first j, nor at j: not found among the first j + 1
  pub any-not : (d : A) (xs : List A) (j : ℕ) → j < length xs → any f (take j xs) ≡ false → f (get_or xs j d) ≡ false → any f (take (j + 1) xs) ≡ false
  any-not d xs j l none e = rw (add-one, take-suc xs j d) (any_append (take j xs) (get_or xs j d ∷ []) ∙ simp (none, e))

  pub tally-append : (xs ys : List A) → tally f (xs ++ ys) ≡ tally f xs + tally f ys
  tally-append [] ys = omega arith
  tally-append (x ∷ xs) ys = omega (arith, tally-append xs ys)

  pub tally-next : (d : A) (xs : List A) (i : ℕ) → i < length xs → tally f (take (i + 1) xs) ≡ tally f (take i xs) + one (f (get_or xs i d))
  tally-next d xs i h = rw (add-one, take-suc xs i d) (omega (arith, tally-append (take i xs) (get_or xs i d ∷ [])))

pub one-most : (b : Bool) → one b ≤ 1
one-most true = omega arith
one-most false = omega arith

module _ {A : Type 0} where
  pub all_append : (P : A → Type 0) (xs ys : List A) → All P xs → All P ys → All P (xs ++ ys)
  all_append P [] ys p q = q
  all_append P (x ∷ xs) ys p q = (p.0, all_append P xs ys p.1 q)

  pub all_at : (P : A → Type 0) (d : A) (xs : List A) (i : ℕ) → i < length xs → All P xs → P (get_or xs i d)
  all_at P d [] i h p = absurd (not-suc-le-zero h)
  all_at P d (x ∷ xs) zero h p = p.0
  all_at P d (x ∷ xs) (suc i) h p = all_at P d xs i (le_of_suc-le-suc h) p.1

  -- of the first n
  pub all_first : (P : A → Type 0) (d : A) (n : ℕ) (xs : List A) (i : ℕ) → All P (take n xs) → i < n → n ≤ length xs → P (get_or xs i d)
  all_first P d n xs i p h r =
      let k : i < length (take n xs) = omega (arith, length-take-le n xs r) in
      rw (get_or-take n xs i d h) at (all_at P d (take n xs) i k p)

  pub all_each : (P Q : A → Type 0) → ((x : A) → P x → Q x) → (xs : List A) → All P xs → All Q xs
  all_each P Q f [] p = tt
  all_each P Q f (x ∷ xs) p = (f x p.0, all_each P Q f xs p.1)

  pub all_of : (P : A → Type 0) → ((x : A) → P x) → (xs : List A) → All P xs
  all_of P f [] = tt
  all_of P f (x ∷ xs) = (f x, all_of P f xs)

  pub all_parts : (P : A → Type 0) (xs ys : List A) → All P (xs ++ ys) → All P xs × All P ys
  all_parts P [] ys p = (tt, p)
  all_parts P (x ∷ xs) ys p = let r = all_parts P xs ys p.1 in ((p.0, r.0), r.1)

  pub all_two : (P Q R : A → Type 0) → ((x : A) → P x → Q x → R x) → (xs : List A) → All P xs → All Q xs → All R xs
  all_two P Q R f [] p q = tt
  all_two P Q R f (x ∷ xs) p q = (f x p.0 q.0, all_two P Q R f xs p.1 q.1)

  pub all_both : (P Q : A → Type 0) (xs : List A) → All (λ (x : A). P x × Q x) xs ↔ (All P xs × All Q xs)
  all_both P Q xs = (
    λ p. (all_each (λ (x : A). P x × Q x) P (λ x b. b.0) xs p, all_each (λ (x : A). P x × Q x) Q (λ x b. b.1) xs p),
    λ p. all_two P Q (λ (x : A). P x × Q x) (λ x b c. (b, c)) xs p.0 p.1,
  )

-- ---- a test that some element passes, and how many do

module _ {A : Type 0} (f : A → Bool) where
  pub any_yes : (xs : List A) → any f xs ≡ true → 1 ≤ tally f xs
  any_yes [] e = absurd (true≢false (sym e))
  any_yes (x ∷ xs) e = by_test (f x)
      (λ y. rw y (omega arith))
      (λ y. let h = any_yes xs (rw y at e) in omega arith)

  pub any_no : (xs : List A) → any f xs ≡ false → tally f xs ≡ 0
  any_no [] e = refl
  any_no (x ∷ xs) e = by_test (f x)
      (λ y. absurd (true≢false (rw y at e)))
      (λ y. rw y (omega (arith, any_no xs (rw y at e))))

  pub yes_any : (xs : List A) → 1 ≤ tally f xs → any f xs ≡ true
  yes_any xs h = by_test (any f xs) (λ y. y) (λ y. absurd (omega (arith, any_no xs y)))

  pub no_any : (xs : List A) → tally f xs ≡ 0 → any f xs ≡ false
  no_any xs h = by_test (any f xs) (λ y. absurd (omega (arith, any_yes xs y))) (λ y. y)

  -- an element passes one of two tests at most
  pub tally-sum : (g h : A → Bool) → ((x : A) → one (f x) ≡ one (g x) + one (h x)) → (xs : List A) → tally f xs ≡ tally g xs + tally h xs
  tally-sum g h u [] = refl
  tally-sum g h u (x ∷ xs) = omega (arith, u x, tally-sum g h u xs)

  -- of the elements that pass g: as many, if all that pass f do; none, if none does
  pub tally-only : (g : A → Bool) (xs : List A) → All (λ (x : A). f x ≡ true → g x ≡ true) xs → tally f (only g xs) ≡ tally f xs
  tally-only g [] a = refl
  tally-only g (x ∷ xs) a = by_test (g x)
      (λ y. rw y (omega (arith, tally-only g xs a.1)))
      (λ y. by_test (f x) (λ z. clash (g x) (a.0 z) y) (λ z. rw (y, z) (omega (arith, tally-only g xs a.1))))

  pub tally-none : (g : A → Bool) (xs : List A) → All (λ (x : A). f x ≡ true → g x ≡ false) xs → tally f (only g xs) ≡ 0
  tally-none g [] a = refl
  tally-none g (x ∷ xs) a = by_test (g x)
      (λ y. by_test (f x) (λ z. clash (g x) y (a.0 z)) (λ z. rw (y, z) (omega (arith, tally-none g xs a.1))))
      (λ y. rw y (tally-none g xs a.1))

  -- those that pass and those that do not are all
  pub length-not : (xs : List A) → length xs ≡ tally f xs + length (only (λ (x : A). not (f x)) xs)
  length-not [] = refl
  length-not (x ∷ xs) = by_test (f x)
      (λ y. rw y (omega (arith, length-not xs)))
      (λ y. rw y (omega (arith, length-not xs)))

  -- two tests that agree; a test and a wider one; two tests one after the other
  pub only_same : (g : A → Bool) (xs : List A) → All (λ (x : A). f x ≡ g x) xs → only f xs ≡ only g xs
  only_same g [] a = refl
  only_same g (x ∷ xs) a = by_test (g x)
      (λ y. rw (a.0, y) (ap (◌∷◌ x) (only_same g xs a.1)))
      (λ y. rw (a.0, y) (only_same g xs a.1))

  pub only-only : (g : A → Bool) → ((x : A) → f x ≡ true → g x ≡ true) → (xs : List A) → only f (only g xs) ≡ only f xs
  only-only g u [] = refl
  only-only g u (x ∷ xs) = by_test (f x)
      (λ y. rw (u x y, y) (ap (◌∷◌ x) (only-only g u xs)))
      (λ y. by_test (g x) (λ z. rw (z, y) (only-only g u xs)) (λ z. rw (z, y) (only-only g u xs)))

  pub only_neither : (g : A → Bool) (xs : List A) → only (λ (x : A). not (g x)) (only (λ (x : A). not (f x)) xs) ≡ only (λ (x : A). not (f x || g x)) xs
  only_neither g [] = refl
  only_neither g (x ∷ xs) = by_test (f x)
      (λ y. rw y (only_neither g xs))
      (λ y. by_test (g x) (λ z. rw (y, z) (only_neither g xs)) (λ z. rw (y, z) (ap (◌∷◌ x) (only_neither g xs))))

pub tally_false : {A : Type 0} (xs : List A) → tally (λ (x : A). false) xs ≡ 0
tally_false [] = refl
tally_false (x ∷ xs) = omega (arith, tally_false xs)

-- ---- the elements from i to n: all, none, and the first of them

pub part-all : (s : List ℕ) (n : ℕ) → part s 0 n ≡ take n s
part-all s n = let e : n - 0 ≡ n = omega arith in rw e

pub part_none : (s : List ℕ) (i n : ℕ) → n ≤ i → part s i n ≡ []
part_none s i n h = let e : n - i ≡ 0 = omega arith in rw e

pub part_cons : (s : List ℕ) (i n : ℕ) → i < n → n ≤ length s → part s i n ≡ get_or s i 0 ∷ part s (i + 1) n
part_cons s i n h r =
    let e : n - i ≡ suc (n - (i + 1)) = omega arith in
    let k : i < length s = omega arith in
    let f : suc i ≡ i + 1 = omega arith in
    rw (e, drop-cons s i 0 k, f)

-- ---- sublists

-- q is p with some elements left out
pub data Sub {A : Type 0} : List A → List A → Type 0 where
  end : Sub [] []
  keep : {x : A} {q p : List A} → Sub q p → Sub (x ∷ q) (x ∷ p)
  skip : {x : A} {q p : List A} → Sub q p → Sub q (x ∷ p)

module _ {A : Type 0} where
  pub sub_all : (P : A → Type 0) {q p : List A} → Sub q p → All P p → All P q
  sub_all P end b = b
  sub_all P (keep s) b = (b.0, sub_all P s b.1)
  sub_all P (skip s) b = sub_all P s b.1

  pub sub_length : {q p : List A} → Sub q p → length q ≤ length p
  sub_length end = omega arith
  sub_length (keep s) = let h = sub_length s in omega arith
  sub_length (skip s) = let h = sub_length s in omega arith

  pub sub_tally : (f : A → Bool) {q p : List A} → Sub q p → tally f q ≤ tally f p
  sub_tally f end = omega arith
  sub_tally f (keep s) = let h = sub_tally f s in omega arith
  sub_tally f (skip s) = let h = sub_tally f s in omega arith

  pub sub_sub : {r q p : List A} → Sub r q → Sub q p → Sub r p
  sub_sub end end = end
  sub_sub {r} s (skip t) = skip (sub_sub {r = r} s t)
  sub_sub (keep {x = x} {q = q} s) (keep {q = q'} {p = p} t) = keep (sub_sub {r = q} s t)
  sub_sub {r} (skip s) (keep t) = skip (sub_sub {r = r} s t)

  pub sub_only : (f : A → Bool) (p : List A) → Sub (only f p) p
  sub_only f [] = end
  sub_only f (x ∷ p) = by_test (f x) (λ y. rw y (keep (sub_only f p))) (λ y. rw y (skip (sub_only f p)))

module _ {A : Type 0} where
  -- as many of a list as its first n are, are its first n
  pub take-there : (n : ℕ) (xs : List A) → take (length (take n xs)) xs ≡ take n xs
  take-there zero xs = refl
  take-there (suc n) [] = refl
  take-there (suc n) (x ∷ xs) = ap (◌∷◌ x) (take-there n xs)

  -- and behind them is what is behind the first n
  pub drop-there : (n : ℕ) (xs : List A) → drop (length (take n xs)) xs ≡ drop n xs
  drop-there zero xs = refl
  drop-there (suc n) [] = refl
  drop-there (suc n) (x ∷ xs) = drop-there n xs

  pub nothing_in : (xs : List A) → length xs ≡ 0 → xs ≡ []
  nothing_in [] e = refl
  nothing_in (x ∷ xs) e = absurd (omega arith)

-- two lists that are equal, split after as many elements
module _ {A : Type 0} (n : ℕ) (a x b y : List A) (la : length a ≡ n) (lb : length b ≡ n) (e : a ++ x ≡ b ++ y) where
  pub same_front : a ≡ b
  same_front = sym (take_at a x n la) ∙ ap (take n) e ∙ take_at b y n lb

  pub same_back : x ≡ y
  same_back = sym (drop_at a x n la) ∙ ap (drop n) e ∙ drop_at b y n lb
