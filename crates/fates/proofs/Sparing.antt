-- The loop over a function's events: each goes, or is kept, by the sites on the cells removed.
use mathlib.Core.Path.{◌≡◌, sym, ◌∙◌, ap, ap₂, fun_ext}
use mathlib.Core.Bool.{Bool, cond, ◌||◌, not}
use mathlib.Core.List.{List, [], map}
use Prim.Native.Nat.{ℕ, ◌+◌, ◌/◌, ◌≤◌, ◌<◌}
use native.Mathlib.Omega.{arith}
use lib.ListN.{length, set, length-map}
use Rattle.std.proofs.lemmas.List.{get_or-map}
use Rattle.cells.specs.Cells.{Cell, cells, cell_at, over}
use Rattle.cells.specs.View.{view}
use Rattle.cells.proofs.Cells.{length-cells, cell_at_lem}
use Rattle.sites.specs.Sites.{site_of, event_site, sites_on}
use Rattle.sites.specs.declared.Which.TheVariants.{Activation, Write}
use Rattle.cleanup.specs.Receipts.{among}
use Rattle.cleanup.specs.Sweeps.{removed}
use Rattle.cleanup.proofs.GoneSites.{among_sites}
use Rattle.fates.specs.Fates.{event_fates}
use Rattle.fates.specs.Steps.{spared_fate}
use Rattle.fates.specs.declared.Fate.{Fate}
use Rattle.fates.specs.declared.Fate.TheVariants.{RepeatedLabel, EventGone, Kept}
use Rattle.fates.specs.declared.Reason.TheVariants.{Nothing}
use Rattle.fates.proofs.Filling.{Filled, filled_next, filled_end}

-- i events have theirs
abbrev pub SparedTo : List ℕ → List ℕ → List ℕ → List Fate → List Fate → ℕ → Type 0
SparedTo activations writes s fates₀ fates i = Filled fates₀ (map (spared_fate activations writes) (cells s)) fates i

module _ (activations writes s : List ℕ) {fates₀ fates : List Fate} {i : ℕ} (p : SparedTo activations writes s fates₀ fates i) where
  count : length (map (spared_fate activations writes) (cells s)) ≡ length s / 16
  count = length-map (cells s) (spared_fate activations writes) ∙ length-cells s

  pub spared-next : i < length s / 16 → length s / 16 ≤ length fates₀ → {x : Fate} → x ≡ spared_fate activations writes (cell_at s i)
      → SparedTo activations writes s fates₀ (set fates i x) (i + 1)
  spared-next h r e =
      filled_next p RepeatedLabel (omega (arith, count)) (omega (arith, count))
      (e ∙ sym (get_or-map (spared_fate activations writes) (cells s) i [] RepeatedLabel (omega (arith, length-cells s)) ∙ ap (spared_fate activations writes) (cell_at_lem s i h)))

  pub spared_end : length s / 16 ≤ i → fates ≡ over (map (spared_fate activations writes) (cells s)) fates₀
  spared_end h = filled_end p (omega (arith, count))

-- by the sites gathered they are the fates as defined
pub by-gathered : (cs es : List Cell) {activations writes : List ℕ} → activations ≡ sites_on (site_of Activation) (removed view cs) → writes ≡ sites_on (site_of Write) (removed view cs)
    → map (spared_fate activations writes) es ≡ event_fates cs es
unfolding event_fates
by-gathered cs es e f = ap (λ (g : Cell → Fate). map g es) (fun_ext λ c.
    ap₂ (λ (a b : Bool). cond (not (a || b)) (Kept Nothing) EventGone)
    (ap (λ (xs : List ℕ). among xs (event_site Activation c)) e ∙ among_sites Activation (removed view cs) (event_site Activation c))
    (ap (λ (xs : List ℕ). among xs (event_site Write c)) f ∙ among_sites Write (removed view cs) (event_site Write c)))
