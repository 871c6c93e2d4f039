-- Of a function that passes the site check, the events that cleanup leaves are those each of whose sites stands on a cell that it leaves.
use mathlib.Core.Path.{◌≡◌, refl}
use mathlib.Core.Bool.{Bool, true, false, ◌&&◌, ◌||◌, not}
use mathlib.Core.List.{List}
use Prim.Native.Nat.{ℕ, ◌≤◌}
use native.Mathlib.Omega.{arith}
use Rattle.cells.specs.Cells.{Cell}
use Rattle.cells.specs.View.{view}
use Rattle.cells.specs.Lists.{only}
use Rattle.cells.proofs.Facts.{by_test}
use Rattle.sites.specs.Sites.{site_of, event_site, is_site, stands, times}
use Rattle.sites.specs.Validators.{site_check}
use Rattle.sites.specs.declared.Which.{Which}
use Rattle.sites.specs.declared.Which.TheVariants.{Activation, Write}
use Rattle.cells.proofs.Lists.{all_two, only_same, any_yes, any_no}
use Rattle.sites.proofs.Tally.{to_all}
use Rattle.sites.proofs.SitesFit.{site_check_lem}
use Rattle.sites.proofs.SameSites.{site_capable}
use Rattle.cleanup.specs.Sweeps.{removed}
use Rattle.cleanup.specs.Cleanup.{on_gone, goes, stays, clean_code, clean_events}
use Rattle.cleanup.proofs.KeptEvents.{kept_site, kept_event}
use Rattle.cleanup.proofs.SitesSplit.{split}
use Rattle.std.specs.Prelude.{Option, Some, None, Ok}

-- a site that stands on one cell of the function is removed, or stands on a cell that is left
module _ (cs left : List Cell) (same : (w : Which) (x : ℕ) → times (site_of w) x left ≡ times (site_of w) x (clean_code cs)) where
  kept_site_lem : (w : Which) → ((x : ℕ) → times (site_of w) x cs ≤ 1) → (s : Option ℕ) → ((x : ℕ) → s ≡ Some x → 1 ≤ times (site_of w) x cs) → kept_site w left s ≡ not (on_gone w (removed view cs) s)
  kept_site_lem w once None u = refl
  kept_site_lem w once (Some x) u =
      let p = split (λ c. is_site x (site_of w c)) (site_capable w x) cs in
      let n = u x refl in let o = once x in
      by_test (stands (site_of w) x (removed view cs))
      (λ y. let k : times (site_of w) x left ≡ 0 = omega (arith, same w x, any_yes (λ c. is_site x (site_of w c)) (removed view cs) y) in rw (y, k))
      (λ y. let k : times (site_of w) x left ≡ 1 = omega (arith, same w x, any_no (λ c. is_site x (site_of w c)) (removed view cs) y) in rw (y, k))

  -- with any cells on which the same sites stand as on those that cleanup leaves
  pub keeps-alike : (position : ℕ) (es : List Cell) → site_check position cs es ≡ Ok tt → only (kept_event left) es ≡ clean_events cs es
  unfolding clean_events kept_event
  keeps-alike position es g =
      let (a, b) = (site_check_lem position cs es).0 g in
      only_same (kept_event left) (stays (removed view cs)) es
      (all_two (On Activation) (On Write) (λ e. kept_event left e ≡ stays (removed view cs) e)
      (λ e u v. rw (kept_site_lem Activation a.once (event_site Activation e) u, kept_site_lem Write b.once (event_site Write e) v) (neither (goes Activation (removed view cs) e) (goes Write (removed view cs) e))) es
      (to_all (event_site Activation) (λ x. 1 ≤ times (site_of Activation) x cs) es (λ x l. omega (arith, a.same x)))
      (to_all (event_site Write) (λ x. 1 ≤ times (site_of Write) x cs) es b.known))
    where
      On : Which → Cell → Type 0
      On w e = (x : ℕ) → event_site w e ≡ Some x → 1 ≤ times (site_of w) x cs

      neither : (a b : Bool) → (not a && not b) ≡ not (a || b)
      neither true b = refl
      neither false b = refl

pub keeps_clean : (position : ℕ) (cs es : List Cell) → site_check position cs es ≡ Ok tt → only (kept_event (clean_code cs)) es ≡ clean_events cs es
keeps_clean position cs = keeps-alike cs (clean_code cs) (λ w x. refl) position

-- no site stands where it did not
pub sites_fewer : (w : Which) (x : ℕ) (cs : List Cell) → times (site_of w) x (clean_code cs) ≤ times (site_of w) x cs
sites_fewer w x cs = omega (arith, split (λ c. is_site x (site_of w c)) (site_capable w x) cs)
