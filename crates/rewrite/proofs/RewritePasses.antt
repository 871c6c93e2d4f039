-- What the rewrite of one function keeps: the site check, the form of the cells; and what it counts. All for any rules.
use mathlib.Core.Path.{◌≡◌, refl}
use mathlib.Core.List.{List}
use Prim.Native.Nat.{ℕ, ◌≤◌}
use native.Mathlib.Omega.{arith}
use Rattle.cells.specs.Cells.{Cell}
use Rattle.cells.specs.Functions.{Function}
use Rattle.cells.specs.Lists.{only}
use Rattle.cells.specs.WellFormed.{WellFormed}
use Rattle.sites.specs.Sites.{site_of, times}
use Rattle.sites.specs.Validators.{site_check}
use Rattle.sites.specs.declared.Which.{Which}
use Rattle.cleanup.specs.Cleanup.{clean_code, clean_events, clean_function}
use Rattle.cleanup.proofs.KeptEvents.{kept_event}
use Rattle.cleanup.proofs.CleanupPasses.{clean_function_passes}
use Rattle.cleanup.proofs.CleanWellFormed.{clean_well_formed}
use Rattle.cleanup.proofs.EventsKept.{keeps-alike, sites_fewer}
use Rattle.crystalfold.specs.Rules.{Rules}
use Rattle.crystalfold.specs.CrystalFold.{fold_function}
use Rattle.crystalfold.proofs.FoldPasses.{fold-function_passes, sites_folded}
use Rattle.crystalfold.proofs.FoldWellFormed.{fold_well_formed}
use Rattle.rewrite.specs.Rewrite.{rewrite_function, rewrite_code}
use Rattle.std.specs.Prelude.{Ok}

abbrev Passes : ℕ → Function → Type 0
Passes position g = site_check position g.code g.events ≡ Ok tt

module _ (f : Rules) where
  -- its cells
  pub rewrite_code_lem : (g : Function) → (rewrite_function f g).code ≡ rewrite_code f g.code
  unfolding rewrite_function rewrite_code clean_function fold_function
  rewrite_code_lem g = refl

  pub rewrite_events : (g : Function) → (rewrite_function f g).events ≡ clean_events g.code g.events
  unfolding rewrite_function clean_function fold_function
  rewrite_events g = refl

  -- a function that passes the site check passes it after the rewrite; so after any number of rewrites
  pub rewrite_passes : (position : ℕ) (g : Function) → Passes position g → Passes position (rewrite_function f g)
  unfolding rewrite_function
  rewrite_passes position g e = fold-function_passes f position (clean_function g) (clean_function_passes position g e)

  pub rewrite_again : (position : ℕ) (g : Function) → Passes position g → Passes position (rewrite_function f (rewrite_function f g))
  rewrite_again position g e = rewrite_passes position (rewrite_function f g) (rewrite_passes position g e)

  -- a well-formed function stays well-formed
  pub rewrite_well_formed : (g : Function) → WellFormed g → WellFormed (rewrite_function f g)
  unfolding rewrite_function
  rewrite_well_formed g w = fold_well_formed f (clean_function g) (clean_well_formed g w)

  -- of a function that passes, the events left are those each of whose sites stands on a rewritten cell
  pub keeps_rewritten : (position : ℕ) (cs es : List Cell) → site_check position cs es ≡ Ok tt → only (kept_event (rewrite_code f cs)) es ≡ clean_events cs es
  unfolding rewrite_code
  keeps_rewritten position cs es = keeps-alike cs (rewrite_code f cs) (λ w x. sites_folded f w x (clean_code cs)) position es

  -- no site stands where it did not
  pub rewrite_sites : (w : Which) (x : ℕ) (cs : List Cell) → times (site_of w) x (rewrite_code f cs) ≤ times (site_of w) x cs
  unfolding rewrite_code
  rewrite_sites w x cs = omega (arith, sites_folded f w x (clean_code cs), sites_fewer w x cs)
