-- Only a StoreVar or a MakeRecord has sites; so two lists of cells with the same StoreVars and MakeRecords pass alike.
use mathlib.Core.Path.{◌≡◌, sym, ◌∙◌, ap}
use mathlib.Core.Bool.{Bool, true, true≢false}
use mathlib.Core.List.{List}
use Prim.Native.Nat.{ℕ}
use Rattle.cells.specs.Cells.{Cell}
use Rattle.cells.specs.Lists.{tally, only}
use Rattle.cells.proofs.Facts.{by_test}
use Rattle.cells.proofs.Lists.{all_of, tally-only}
use Rattle.sites.specs.Sites.{is_store_var, is_make_record, site_of, is_site, times, write_capable}
use Rattle.sites.specs.Validators.{validate_activation_sites, validate_write_sites, site_check}
use Rattle.sites.proofs.Fit.{store_site, Paired, Claimed}
use Rattle.sites.specs.declared.Which.{Which}
use Rattle.sites.specs.declared.Which.TheVariants.{Activation, Write}
use Rattle.sites.proofs.SitesFit.{activation_sites, write_sites, site_check_lem}
use Rattle.std.specs.Prelude.{Ok}

-- a test that only such cells pass
pub tally-same : (f : Cell → Bool) → ((c : Cell) → f c ≡ true → write_capable c ≡ true) → (p q : List Cell) → only write_capable p ≡ only write_capable q → tally f p ≡ tally f q
tally-same f u p q e =
    sym (tally-only f write_capable p (all_of (λ c. f c ≡ true → write_capable c ≡ true) u p)) ∙ ap (tally f) e ∙ tally-only f write_capable q (all_of (λ c. f c ≡ true → write_capable c ≡ true) u q)

-- a site stands on such cells only
pub site_capable : (w : Which) (x : ℕ) (c : Cell) → is_site x (site_of w c) ≡ true → write_capable c ≡ true
unfolding site_of
site_capable Activation x c e = by_test (is_store_var c)
    (λ y. rw y)
    (λ y. absurd (true≢false (sym (rw y at e))))
site_capable Write x c e = by_test (is_store_var c)
    (λ y. rw y)
    (λ y. by_test (is_make_record c) (λ z. rw (y, z)) (λ z. absurd (true≢false (sym (rw (y, z) at e)))))

pub store_write : (x : ℕ) (c : Cell) → is_site x (store_site c) ≡ true → is_site x (site_of Write c) ≡ true
store_write x c e = by_test (is_store_var c)
    (λ y. rw y at e)
    (λ y. absurd (true≢false (sym (rw y at e))))

pub store_capable : (x : ℕ) (c : Cell) → is_site x (store_site c) ≡ true → write_capable c ≡ true
store_capable x c e = site_capable Write x c (store_write x c e)

-- cells with the same StoreVars and MakeRecords: each validator by itself, and both
module _ (cs ds es : List Cell) (e : only write_capable ds ≡ only write_capable cs) where
  pub sites_same : (w : Which) (x : ℕ) → times (site_of w) x ds ≡ times (site_of w) x cs
  sites_same w x = tally-same (λ c. is_site x (site_of w c)) (site_capable w x) ds cs e

  pub same_paired : Paired cs es → Paired ds es
  same_paired h = record { once = λ x. rw (sites_same Activation x) (h.once x); borrows = h.borrows; same = λ x. h.same x ∙ sym (sites_same Activation x) }

  pub same_claimed : Claimed cs es → Claimed ds es
  same_claimed h =
      let s : (x : ℕ) → times store_site x ds ≡ times store_site x cs = λ x. tally-same (λ c. is_site x (store_site c)) (store_capable x) ds cs e in
      record {
        once = λ x. rw (sites_same Write x) (h.once x);
        borrows = h.borrows;
        writes = h.writes;
        claimed = λ x. rw (sites_same Write x) (h.claimed x);
        single = λ x l. h.single x (rw (s x) at l);
        known = λ x l. rw (sites_same Write x) (h.known x l);
      }

  pub same_passes : (position : ℕ) → site_check position cs es ≡ Ok tt → site_check position ds es ≡ Ok tt
  same_passes position g = let h = (site_check_lem position cs es).0 g in (site_check_lem position ds es).1 (same_paired h.0, same_claimed h.1)

  pub same_activation : (position : ℕ) → validate_activation_sites position cs es ≡ Ok tt → validate_activation_sites position ds es ≡ Ok tt
  same_activation position g = (activation_sites position ds es).1 (same_paired ((activation_sites position cs es).0 g))

  pub same_write : (position : ℕ) → validate_write_sites position cs es ≡ Ok tt → validate_write_sites position ds es ≡ Ok tt
  same_write position g = (write_sites position ds es).1 (same_claimed ((write_sites position cs es).0 g))
