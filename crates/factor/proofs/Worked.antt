-- Every worked pair has the other factor that is written beside it.
use mathlib.Core.Path.{◌≡◌, refl, sym, ap₂}
use mathlib.Core.Bool.{Bool, true, ◌&&◌}
use mathlib.Core.List.{List, [], ◌∷◌, map}
use lib.IntN.{ℤ}
use Rattle.leaves.specs.Signed.{in_i32}
use Rattle.leaves.proofs.Ranges.{sfits_in}
use Rattle.factor.specs.Cases.{FactorCase, fx_cases, i32_cases}
use Rattle.factor.specs.Closed.{closed_fx, closed_i32, factor_modulo, inverse_of}
use Rattle.factor.specs.Factor.{factor_fx, factor_i32}
use Rattle.factor.proofs.Search.{and_true}
use Rattle.factor.proofs.Halvings.{closed_i32_lem}
use Rattle.factor.proofs.Thousandths.{closed_fx_lem}
use Rattle.std.specs.Prelude.{Option}

abbrev in_range : FactorCase → Bool
in_range c = in_i32 c.wanted && in_i32 c.factor

abbrev all_in_range : List FactorCase → Bool
all_in_range [] = true
all_in_range (c ∷ cs) = in_range c && all_in_range cs

module _ (f g : ℤ → ℤ → Option ℤ) (same : (w a : ℤ) → in_i32 w ≡ true → in_i32 a ≡ true → f w a ≡ g w a) where
  by_closed : (cs : List FactorCase) → all_in_range cs ≡ true → map (λ (c : FactorCase). g c.wanted c.factor) cs ≡ map (λ (c : FactorCase). f c.wanted c.factor) cs
  by_closed [] e = refl
  by_closed (c ∷ cs) e =
      let (p, q) = and_true (in_range c) (all_in_range cs) e in
      let (u, v) = and_true (in_i32 c.wanted) (in_i32 c.factor) p in
      ap₂ (λ (x : Option ℤ) (xs : List (Option ℤ)). x ∷ xs) (sym (same c.wanted c.factor u v)) (by_closed cs q)

pub fx-cases_hold : map (λ (c : FactorCase). factor_fx c.wanted c.factor) fx_cases ≡ map (λ (c : FactorCase). c.answer) fx_cases
unfolding fx_cases closed_fx
fx-cases_hold = by_closed closed_fx factor_fx (λ w a u v. closed_fx_lem w a (sfits_in w u)) fx_cases refl

pub i32-cases_hold : map (λ (c : FactorCase). factor_i32 c.wanted c.factor) i32_cases ≡ map (λ (c : FactorCase). c.answer) i32_cases
unfolding i32_cases closed_i32 factor_modulo inverse_of
i32-cases_hold = by_closed closed_i32 factor_i32 (λ w a u v. closed_i32_lem w a (sfits_in w u) (sfits_in a v)) i32_cases refl
