-- All functions of an image: cleanup over every function, then CrystalFold over every function, is the rewrite function by function.
use mathlib.Core.Path.{◌≡◌, refl, ap}
use mathlib.Core.List.{List, [], ◌∷◌, map}
use Prim.Native.Nat.{ℕ, ◌≤◌}
use native.Mathlib.Omega.{arith}
use lib.ListN.{length}
use Rattle.cells.specs.Functions.{Function}
use Rattle.cells.specs.Lists.{All}
use Rattle.cells.specs.WellFormed.{WellFormed}
use Rattle.sites.specs.AllSites.{sites_answer}
use Rattle.sites.proofs.EachPasses.{each_passes}
use Rattle.cleanup.specs.Cleanup.{clean_function}
use Rattle.cleanup.proofs.CleanupPasses.{clean_function_passes}
use Rattle.crystalfold.specs.Rules.{Rules}
use Rattle.crystalfold.specs.CrystalFold.{fold_function}
use Rattle.crystalfold.proofs.FoldPasses.{fold-function_passes}
use Rattle.rewrite.specs.Rewrite.{rewrite_function, rewrite_count}
use Rattle.rewrite.specs.AllFunctions.{clean_all, fold_all, rewrite_all, sum_of, rewrite_count_all}
use Rattle.rewrite.proofs.RewritePasses.{rewrite_well_formed}
use Rattle.rewrite.proofs.RewriteCounts.{rewrite_few}
use Rattle.std.specs.Prelude.{Ok}

pub clean_all_passes : (position : ℕ) (fs : List Function) → sites_answer position fs ≡ Ok tt → sites_answer position (clean_all fs) ≡ Ok tt
clean_all_passes = each_passes clean_function clean_function_passes

module _ (f : Rules) where
  -- cells, and count
  pub all_each : (fs : List Function) → rewrite_all f fs ≡ map (rewrite_function f) fs
  unfolding rewrite_function
  all_each [] = refl
  all_each (g ∷ fs) = ap (◌∷◌ (rewrite_function f g)) (all_each fs)

  pub count_each : (fs : List Function) → rewrite_count_all f fs ≡ sum_of (λ g. rewrite_count f g.code) fs
  unfolding rewrite_count clean_function
  count_each [] = refl
  count_each (g ∷ fs) = omega (arith, count_each fs)

  -- functions that all pass the site check all pass it again
  pub fold-all_passes : (position : ℕ) (fs : List Function) → sites_answer position fs ≡ Ok tt → sites_answer position (fold_all f fs) ≡ Ok tt
  fold-all_passes = each_passes (fold_function f) (fold-function_passes f)

  pub rewrite_all_passes : (position : ℕ) (fs : List Function) → sites_answer position fs ≡ Ok tt → sites_answer position (rewrite_all f fs) ≡ Ok tt
  rewrite_all_passes position fs e = fold-all_passes position (clean_all fs) (clean_all_passes position fs e)

  -- and are well-formed again
  pub all_well_formed : (fs : List Function) → All WellFormed fs → All WellFormed (rewrite_all f fs)
  all_well_formed fs a = rw (all_each fs) (go fs a)
    where
      go : (fs : List Function) → All WellFormed fs → All WellFormed (map (rewrite_function f) fs)
      go [] a = tt
      go (g ∷ fs) a = (rewrite_well_formed f g a.0, go fs a.1)

  -- the whole count is never more than the instruction cells
  pub count_few : (fs : List Function) → rewrite_count_all f fs ≤ sum_of (λ g. length g.code) fs
  count_few fs = rw (count_each fs) (go fs)
    where
      go : (fs : List Function) → sum_of (λ g. rewrite_count f g.code) fs ≤ sum_of (λ g. length g.code) fs
      go [] = omega arith
      go (g ∷ fs) = omega (arith, rewrite_few f g.code, go fs)
