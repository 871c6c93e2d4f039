-- Promise: the other factor of a product (document 02, W14): "Given a wanted value and one factor, find the other for MulFx and for MulI32, as the
-- number leaves define them. Of several, the one nearest zero is given, the positive one on a tie. Every i32 counts as a possible factor." It is
-- said by a search, in the order of that sentence.
use Rattle.std.specs.Prelude.{ℕ, zero, suc, ◌+◌, ◌^◌, Bool, cond, ◌&&◌, ℤ, pos, neg_ℤ, Option, Some, None}
use Rattle.leaves.specs.Signed.{in_i32, mul_i32}
use Rattle.leaves.specs.Fixed.{mul_fx}
use Rattle.leaves.specs.Constants.{const_eq}
use Rattle.leaves.specs.Verdicts.{value_in}
use Rattle.leaves.specs.declared.constant.ConstVal.{ConstVal}
use Rattle.leaves.specs.declared.constant.ConstVal.TheVariants.{I32, Fx}
use Rattle.leaves.specs.Verdict.{Verdict}

-- the leaf's product of the factor and x is there, and is the wanted value
abbrev pub gives : (ℤ → ℤ → Verdict) → ConstVal → ℤ → ℤ → Bool
gives product wanted factor x = const_eq (value_in (product factor x)) wanted

-- the first number that passes a test, by sizes from `size` on, so many in all; of each size the positive number before the negative one
unfoldable pub first : (ℤ → Bool) → ℕ → ℕ → Option ℤ
first test size zero = None
first test size (suc more) =
    cond (test (pos size)) (Some (pos size))
    (cond (test (neg_ℤ (pos size))) (Some (neg_ℤ (pos size))) (first test (suc size) more))

-- "nearest zero", "the positive one on a tie", "every i32": the sizes of the i32 go from 0 to 2^31
unfoldable pub nearest_zero : (ℤ → Bool) → Option ℤ
nearest_zero test = first (λ (x : ℤ). in_i32 x && test x) 0 (2 ^ 31 + 1)

-- "for MulFx and for MulI32, as the number leaves define them"
unfoldable pub factor_fx : ℤ → ℤ → Option ℤ
factor_fx wanted factor = nearest_zero (gives mul_fx (Fx wanted) factor)

unfoldable pub factor_i32 : ℤ → ℤ → Option ℤ
factor_i32 wanted factor = nearest_zero (gives mul_i32 (I32 wanted) factor)
