-- The Rust's other errors of cleanup cannot occur.
use mathlib.Core.Path.{◌≡◌, refl, ap, fun_ext}
use mathlib.Core.Bool.{Bool, true, not}
use mathlib.Core.List.{List}
use Prim.Native.Nat.{ℕ}
use native.Mathlib.Omega.{arith}
use Rattle.cells.specs.Cells.{Cell}
use Rattle.cells.specs.Lists.{tally}
use Rattle.cells.specs.View.{view}
use Rattle.cells.proofs.Lists.{all_each, only_neither, length-not, any_yes, yes_any, tally-only}
use Rattle.sites.specs.Sites.{site_of, event_site, is_site, stands, times}
use Rattle.sites.specs.Validators.{site_check}
use Rattle.sites.proofs.Fit.{Paired, Claimed}
use Rattle.sites.proofs.RustTests.{met}
use Rattle.sites.specs.declared.Which.{Which}
use Rattle.sites.specs.declared.Which.TheVariants.{Activation, Write}
use Rattle.sites.proofs.Judged.{site_is}
use Rattle.sites.proofs.SitesFit.{site_check_lem}
use Rattle.sites.proofs.SameSites.{site_capable}
use Rattle.sites.proofs.DoubleCounting.{double_counted}
use Rattle.cleanup.specs.Sweeps.{removed}
use Rattle.cleanup.specs.Cleanup.{on_gone, goes, clean_events}
use Rattle.cleanup.specs.Errors.{retain, sites_removed, events_removed}
use Rattle.cleanup.proofs.SitesSplit.{split}
use Rattle.cleanup.proofs.CleanupPasses.{Single, singles}
use Rattle.std.specs.Prelude.{Option, Some, None, Ok}

-- cleanup's two steps leave the events that stay
pub two_steps : (cs es : List Cell) → retain Write (removed view cs) (retain Activation (removed view cs) es) ≡ clean_events cs es
unfolding clean_events
two_steps cs es = only_neither (goes Activation (removed view cs)) (goes Write (removed view cs)) es

gone_met : (w : Which) (gone : List Cell) (s : Option ℕ) → on_gone w gone s ≡ met (site_of w) gone s
gone_met w gone None = refl
gone_met w gone (Some x) = refl

module _ (position : ℕ) (cs es : List Cell) (good : site_check position cs es ≡ Ok tt) where
  a : Paired cs es
  a = ((site_check_lem position cs es).0 good).0

  b : Claimed cs es
  b = ((site_check_lem position cs es).0 good).1

  -- "deleted {} annotated StoreVar site(s) but only found {} paired Borrow event(s) to remove"
  pub events_paired : events_removed cs es ≡ sites_removed cs
  events_paired =
      let p : (x : ℕ) → times (site_of Activation) x cs ≡ _ = λ x. split (λ c. is_site x (site_of Activation c)) (site_capable Activation x) cs in
      let n = double_counted (site_of Activation) (event_site Activation) es (removed view cs) (λ x. omega (arith, p x, a.once x)) (λ x l. omega (arith, p x, a.once x, a.same x)) in
      let m = ap (λ (f : Cell → Bool). tally f es) (fun_ext λ e. gone_met Activation (removed view cs) (event_site Activation e)) in
      omega (arith, length-not (goes Activation (removed view cs)) es)

  -- "deleted an annotated write-site instruction for WriteSiteId({}) but found zero paired Write event(s) to remove"
  pub write_found : (x : ℕ) → stands (site_of Write) x (removed view cs) ≡ true → stands (event_site Write) x (retain Activation (removed view cs) es) ≡ true
  write_found x y = yes_any (λ e. is_site x (event_site Write e)) (retain Activation (removed view cs) es)
      (let k = tally-only (λ e. is_site x (event_site Write e)) (λ e. not (goes Activation (removed view cs) e)) es (all_each (Single Write) (λ e. is_site x (event_site Write e) ≡ true → not (goes Activation (removed view cs) e) ≡ true)
      (λ e u z. rw (u x (site_is x (event_site Write e) z))) es (singles cs es a b Write)) in
      omega (arith, any_yes (λ c. is_site x (site_of Write c)) (removed view cs) y, split (λ c. is_site x (site_of Write c)) (site_capable Write x) cs, b.claimed x))
