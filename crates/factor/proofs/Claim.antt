-- What the search means, of both products.
use mathlib.Core.Path.{◌≡◌, sym, ◌∙◌, ap}
use lib.IntN.{ℤ, *ℤ_comm}
use lib.Signed.{quot_z}
use Rattle.leaves.specs.Signed.{wrap, mul_i32, checked_as}
use Rattle.leaves.specs.Fixed.{fx_scale, mul_fx}
use Rattle.leaves.specs.declared.constant.ConstVal.{ConstVal}
use Rattle.leaves.specs.declared.constant.ConstVal.TheVariants.{I32, Fx}
use Rattle.factor.specs.Factor.{gives, nearest_zero, factor_fx, factor_i32}
use Rattle.factor.specs.Claim.{IsFactor, FactorFound, FactorsFoundFx, FactorsFoundI32}
use Rattle.factor.proofs.Search.{answers_map, answers_none, Told, told-fx, told-i32, found, found-only}
use Rattle.std.specs.Prelude.{Ok}
use Rattle.leaves.specs.Verdict.{Verdict}

either_fx : (a x : ℤ) → mul_fx a x ≡ mul_fx x a
unfolding mul_fx
either_fx a x = ap (λ (z : ℤ). checked_as Fx (quot_z z fx_scale)) (*ℤ_comm a x)

either_i32 : (a x : ℤ) → mul_i32 a x ≡ mul_i32 x a
unfolding mul_i32
either_i32 a x = ap (λ (z : ℤ). Ok (I32 (wrap z))) (*ℤ_comm a x)

factor_found : (product : ℤ → ℤ → Verdict) (wanted : ConstVal) (factor : ℤ) → Told wanted → ((a x : ℤ) → product a x ≡ product x a)
    → FactorFound product wanted factor (nearest_zero (gives product wanted factor))
factor_found product wanted factor t e = record {
  right = found product factor t;
  refused = answers_none (IsFactor product wanted factor) (nearest_zero (gives product wanted factor)) (found product factor t);
  only = found-only product factor t;
  either = e factor;
  other_side = sym (found-only product factor t (nearest_zero (gives flipped wanted factor))
      (answers_map (IsFactor flipped wanted factor) (IsFactor product wanted factor)
      (λ x i. (i.0, e factor x ∙ i.1))
      (λ x i. (i.0, e x factor ∙ i.1))
      (nearest_zero (gives flipped wanted factor)) (found flipped factor t)));
}
  where
    flipped : ℤ → ℤ → Verdict
    flipped a x = product x a

pub factors_found-fx : FactorsFoundFx
unfolding factor_fx
factors_found-fx wanted factor = factor_found mul_fx (Fx wanted) factor (told-fx wanted) either_fx

pub factors_found-i32 : FactorsFoundI32
unfolding factor_i32
factors_found-i32 wanted factor = factor_found mul_i32 (I32 wanted) factor (told-i32 wanted) either_i32
