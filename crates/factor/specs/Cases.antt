-- Worked: wanted values and factors with the other factor, written out by hand from document 02 (W14). The search cannot be computed here over all
-- sizes of the i32: of fewer sizes it is, and the theorems that hold the two long tables against the definitions go by the closed forms, which are
-- proved equal to them (factor/proofs/Worked.antt).
use Rattle.std.specs.Prelude.{ℕ, ◌≡◌, refl, Bool, List, [], ◌∷◌, map, ℤ, pos, negsuc, Option, Some, None}
use Rattle.leaves.specs.Constants.{const_eq}
use Rattle.leaves.specs.Fixed.{mul_fx}
use Rattle.leaves.specs.Signed.{residue, wrap, mul_i32}
use Rattle.leaves.specs.declared.constant.ConstVal.TheVariants.{I32, Fx}
use Rattle.factor.specs.Factor.{gives, first}

-- negsuc n is -(n + 1); the greatest and the least i32
abbrev most : ℤ
most = pos 2147483647

abbrev least : ℤ
least = negsuc 2147483647

-- ---- the search itself, of few sizes

pub record SearchCase : Type 0 where
  pub test : ℤ → Bool
  pub size : ℕ
  pub more : ℕ
  pub answer : Option ℤ

abbrev pub search : (ℤ → Bool) → ℕ → ℕ → Option ℤ → SearchCase
search test size more answer = record { test = test; size = size; more = more; answer = answer }

abbrev pub searches : List SearchCase
searches =
    -- "nearest zero": 0 first, then by size, and no farther than asked
    search (gives mul_fx (Fx (pos 0)) (pos 5)) 0 9 (Some (pos 0))
    -- 400 * 3 / 1000 and 400 * 4 / 1000 are 1, 400 * 2 / 1000 is 0 and 400 * 5 / 1000 is 2
    ∷ search (gives mul_fx (Fx (pos 1)) (pos 400)) 0 9 (Some (pos 3))
    ∷ search (gives mul_fx (Fx (pos 1)) (pos 400)) 0 3 None
    ∷ search (gives mul_fx (Fx (pos 1)) (pos 400)) 4 1 (Some (pos 4))
    ∷ search (gives mul_fx (Fx (pos 1)) (pos 400)) 5 5 None
    ∷ search (gives mul_i32 (I32 (negsuc 5)) (pos 3)) 0 9 (Some (negsuc 1))
    -- "the positive one on a tie": of 2^30, 2 and -2 both give the least number
    ∷ search (gives mul_i32 (I32 least) (pos 1073741824)) 0 9 (Some (pos 2))
    ∷ search (gives mul_i32 (I32 least) (pos 1073741824)) 3 9 (Some (pos 6))
    ∷ search (gives mul_i32 (I32 least) (pos 1073741824)) 3 3 None
    -- a product that the leaf declines gives nothing
    ∷ search (gives mul_fx (Fx (pos 0)) least) 1001 3 None
    ∷ []

pub searches_hold : map (λ (c : SearchCase). first c.test c.size c.more) searches ≡ map (λ (c : SearchCase). c.answer) searches
unfolding first const_eq mul_fx mul_i32 residue wrap
searches_hold = refl

-- ---- every i32

pub record FactorCase : Type 0 where
  pub wanted : ℤ
  pub factor : ℤ
  pub answer : Option ℤ

abbrev pub case : ℤ → ℤ → Option ℤ → FactorCase
case wanted factor answer = record { wanted = wanted; factor = factor; answer = answer }

abbrev pub found : ℤ → ℤ → ℤ → FactorCase
found wanted factor x = case wanted factor (Some x)

abbrev pub none : ℤ → ℤ → FactorCase
none wanted factor = case wanted factor None

unfoldable pub fx_cases : List FactorCase
fx_cases =
    -- 0 is given by every factor, and 0 gives nothing else
    found (pos 0) (pos 0) (pos 0)
    ∷ found (pos 0) (pos 5) (pos 0)
    ∷ found (pos 0) least (pos 0)
    ∷ none (pos 5) (pos 0)
    ∷ none (negsuc 0) (pos 0)
    ∷ none least (pos 0)
    -- 2000 * 1 / 1000 is 2 already; 1999 * 1 / 1000 is truncated to 1, and 999 * 1 / 1000 to 0, 999 * 2 / 1000 to 1
    ∷ none (pos 1) (pos 2000)
    ∷ found (pos 1) (pos 1999) (pos 1)
    ∷ found (pos 1) (pos 1000) (pos 1)
    ∷ found (pos 1) (pos 999) (pos 2)
    ∷ found (pos 1) (pos 500) (pos 2)
    ∷ found (pos 2) (pos 2000) (pos 1)
    ∷ none (pos 3) (pos 2000)
    ∷ found (pos 2250) (pos 1500) (pos 1500)
    ∷ none (pos 2249) (pos 1500)
    -- the signs
    ∷ found (pos 1) (pos 1) (pos 1000)
    ∷ found (pos 1) (negsuc 0) (negsuc 999)
    ∷ found (negsuc 0) (pos 1) (negsuc 999)
    ∷ found (negsuc 0) (negsuc 0) (pos 1000)
    ∷ found (negsuc 0) (pos 1999) (negsuc 0)
    ∷ found (negsuc 0) (negsuc 1998) (pos 1)
    ∷ none (negsuc 0) (negsuc 1999)
    -- at the ends: 2,145,338,309 * 1001 is 2,147,483,647,309; by 999 it would be 2,149,633,281, which is no i32
    ∷ found most (pos 1000) most
    ∷ found most (negsuc 999) (negsuc 2147483646)
    ∷ found most (pos 1001) (pos 2145338309)
    ∷ none most (pos 999)
    ∷ none most (pos 1)
    ∷ none most least
    ∷ found (negsuc 2147483646) most (negsuc 999)
    ∷ none (pos 2147483646) most
    ∷ found (pos 2147483) most (pos 1)
    ∷ none (pos 2147482) most
    -- the least number: by 1000 it is itself, by -1000 it would be 2,147,483,648
    ∷ found least (pos 1000) least
    ∷ none least (negsuc 999)
    ∷ found least (negsuc 1000) (pos 2145338310)
    ∷ found least least (pos 1000)
    ∷ found least (pos 1001) (negsuc 2145338309)
    ∷ none least most
    ∷ []

unfoldable pub i32_cases : List FactorCase
i32_cases =
    found (pos 0) (pos 0) (pos 0)
    ∷ found (pos 0) least (pos 0)
    ∷ found (pos 0) (pos 7) (pos 0)
    ∷ none (pos 5) (pos 0)
    ∷ none least (pos 0)
    -- an odd factor has one
    ∷ found (pos 6) (pos 3) (pos 2)
    ∷ found (pos 6) (negsuc 2) (negsuc 1)
    ∷ found (negsuc 5) (pos 3) (negsuc 1)
    ∷ found (pos 1) (negsuc 0) (negsuc 0)
    ∷ found (pos 1) (pos 3) (negsuc 1431655764)
    ∷ found (negsuc 0) (pos 3) (pos 1431655765)
    ∷ found (pos 1) most most
    ∷ found (negsuc 1) most (pos 2)
    -- an even one none, if the wanted value is odd
    ∷ none (pos 7) (pos 2)
    ∷ none most (pos 2)
    ∷ none (pos 1) least
    ∷ none (pos 2) (pos 12)
    -- or many: 3 and 3 - 2^31; 1,073,741,823 and 2^31 less; -715,827,882 and 2^31 more, which is farther from zero
    ∷ found (pos 6) (pos 2) (pos 3)
    ∷ found (pos 2147483646) (pos 2) (pos 1073741823)
    ∷ found (negsuc 2147483645) (pos 2) (negsuc 1073741822)
    ∷ found (pos 4) (pos 6) (negsuc 715827881)
    -- ties: 1 and -1, 2 and -2, 4 and -4, 2^30 and -2^30
    ∷ found least least (pos 1)
    ∷ found least (pos 1073741824) (pos 2)
    ∷ found least (pos 1610612736) (pos 4)
    ∷ found least (pos 2) (pos 1073741824)
    ∷ found least (negsuc 1) (pos 1073741824)
    -- the least number by an odd factor is the least number, whose twin is no i32
    ∷ found least (pos 1) least
    ∷ found least (negsuc 0) least
    ∷ found least (pos 3) least
    ∷ found least most least
    ∷ []
