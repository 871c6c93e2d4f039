-- Promise: what the search means, without the search (document 02, W14). The theorems: factor/proofs/Claim.antt.
use Rattle.std.specs.Prelude.{◌≤◌, ◌≡◌, true, ◌↔◌, ℤ, pos, nat_abs, Option, Some, None, Ok}
use Rattle.leaves.specs.Signed.{in_i32, mul_i32}
use Rattle.leaves.specs.Fixed.{mul_fx}
use Rattle.leaves.specs.declared.constant.ConstVal.{ConstVal}
use Rattle.leaves.specs.declared.constant.ConstVal.TheVariants.{I32, Fx}
use Rattle.factor.specs.Factor.{gives, nearest_zero, factor_fx, factor_i32}
use Rattle.leaves.specs.Verdict.{Verdict}

-- x is an i32 whose product with the factor is the wanted value
abbrev pub IsFactor : (ℤ → ℤ → Verdict) → ConstVal → ℤ → ℤ → Type 0
IsFactor product wanted factor x = (in_i32 x ≡ true) × (product factor x ≡ Ok wanted)

-- x is one of those, none is nearer zero, and if the positive number of its size is one too, x is that
pub record Nearest (Is : ℤ → Type 0) (x : ℤ) : Type 0 where
  pub is : Is x
  pub nearest : (y : ℤ) → Is y → nat_abs x ≤ nat_abs y
  pub positive : Is (pos (nat_abs x)) → x ≡ pos (nat_abs x)

-- an answer is right: it is the nearest; or there is none
abbrev pub Answers : (ℤ → Type 0) → Option ℤ → Type 0
Answers Is (Some x) = Nearest Is x
Answers Is None = (x : ℤ) → Is x → ⊥

-- of a product, the wanted value as the leaf has it, a factor, and the answer
pub record FactorFound (product : ℤ → ℤ → Verdict) (wanted : ConstVal) (factor : ℤ) (r : Option ℤ) : Type 0 where
  pub right : Answers (IsFactor product wanted factor) r
  -- "It refuses 36 when no factor gives the wanted value, and only then"
  pub refused : (r ≡ None) ↔ ((x : ℤ) → IsFactor product wanted factor x → ⊥)
  -- no other answer is right
  pub only : (s : Option ℤ) → Answers (IsFactor product wanted factor) s → s ≡ r
  -- the factor that is given may be the left or the right one
  pub either : (x : ℤ) → product factor x ≡ product x factor
  pub other_side : r ≡ nearest_zero (gives (λ (a x : ℤ). product x a) wanted factor)

abbrev pub FactorsFoundFx : Type 0
FactorsFoundFx = (wanted factor : ℤ) → FactorFound mul_fx (Fx wanted) factor (factor_fx wanted factor)

abbrev pub FactorsFoundI32 : Type 0
FactorsFoundI32 = (wanted factor : ℤ) → FactorFound mul_i32 (I32 wanted) factor (factor_i32 wanted factor)
