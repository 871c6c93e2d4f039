-- What `factor` writes for the worked numbers: by the closed forms, which are the search's on every number that a word says.
use mathlib.Core.Path.{◌≡◌, refl, sym, ap, ap₂}
use mathlib.Core.Bool.{Bool, true, false}
use mathlib.Core.List.{List, [], ◌∷◌, map}
use Prim.Native.Nat.{ℕ}
use lib.Dec.{eqb}
use lib.IntN.{ℤ}
use Rattle.cells.proofs.Facts.{by_test}
use Rattle.factor.specs.Closed.{closed_fx, closed_i32, factor_modulo, inverse_of}
use Rattle.factor.proofs.Halvings.{closed_i32_lem}
use Rattle.factor.proofs.Thousandths.{closed_fx_lem}
use Rattle.leaves.specs.Signed.{in_i32}
use Rattle.leaves.proofs.Ranges.{sfits_in}
use Rattle.listing.specs.Decimal.{decimal, value}
use Rattle.listing.specs.Text.{refused_text}
use Rattle.matchdesk.specs.Cases.{FactorCase, asks, answered_cases}
use Rattle.numbers.specs.Numbers.{plus, minus, is_numeral, with_sign, ranged, number_of, number_in, signed}
use Rattle.matchdesk.specs.Program.{on_output, found_text, factor_by, numbers_texts, factor_texts}
use Rattle.matchdesk.specs.declared.product.Product.{Product}
use Rattle.matchdesk.specs.declared.product.Product.TheVariants.{Fx, I32}
use Rattle.std.specs.Prelude.{Option, Some, None}

-- ---- a word says only numbers in the range of an i32

abbrev InRange : Option ℤ → Type 0
InRange (Some z) = in_i32 z ≡ true
InRange None = Unit {0}

ranged_in : (z : ℤ) → InRange (ranged z)
ranged_in z = by_test (in_i32 z) (λ t. rw t t) (λ t. rw t tt)

number_of_in : (negative : Bool) (s : List ℕ) → InRange (number_of negative s)
number_of_in negative s = by_test (is_numeral s) (λ t. rw t (ranged_in (with_sign negative (value s)))) (λ t. rw t tt)

number_in_lem : (s : List ℕ) → InRange (number_in s)
unfolding number_in
number_in_lem [] = tt
number_in_lem (b ∷ s) = by_test (eqb b minus)
    (λ t. rw t (number_of_in true s))
    (λ t. rw t (by_test (eqb b plus) (λ u. rw u (number_of_in false s)) (λ u. rw u (number_of_in false (b ∷ s)))))

-- ---- and on those the closed forms are the search's

abbrev closed_by : Product → ℤ → ℤ → Option ℤ
closed_by Fx = closed_fx
closed_by I32 = closed_i32

closed_by_lem : (p : Product) (w f : ℤ) → in_i32 w ≡ true → in_i32 f ≡ true → factor_by p w f ≡ closed_by p w f
closed_by_lem Fx w f h k = sym (closed_fx_lem w f (sfits_in w h))
closed_by_lem I32 w f h k = sym (closed_i32_lem w f (sfits_in w h) (sfits_in f k))

texts_closed : (p : Product) (a b : Option ℤ) → InRange a → InRange b → numbers_texts (factor_by p) a b ≡ numbers_texts (closed_by p) a b
texts_closed p None b h k = refl
texts_closed p (Some w) None h k = refl
texts_closed p (Some w) (Some f) h k = ap (λ (r : Option ℤ). on_output (found_text r)) (closed_by_lem p w f h k)

abbrev asked : FactorCase → FactorCase
asked c = asks c.product c.wanted c.factor (factor_texts c.product c.wanted c.factor)

abbrev closed : FactorCase → FactorCase
closed c = asks c.product c.wanted c.factor (numbers_texts (closed_by c.product) (number_in c.wanted) (number_in c.factor))

all_closed : (cs : List FactorCase) → map asked cs ≡ map closed cs
unfolding factor_texts
all_closed [] = refl
all_closed (c ∷ cs) = ap₂ (λ (x : FactorCase) (xs : List FactorCase). x ∷ xs)
    (ap (asks c.product c.wanted c.factor) (texts_closed c.product (number_in c.wanted) (number_in c.factor) (number_in_lem c.wanted) (number_in_lem c.factor)))
    (all_closed cs)

pub answered : map asked answered_cases ≡ answered_cases
unfolding answered_cases number_in signed decimal refused_text closed_fx closed_i32 factor_modulo inverse_of
answered = all_closed answered_cases
