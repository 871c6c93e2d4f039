-- A function that passes the site check passes it after cleanup.
use mathlib.Core.Path.{◌≡◌, ◌∙◌}
use mathlib.Core.Bool.{true, false, not}
use mathlib.Core.List.{List, [], ◌∷◌}
use Prim.Native.Nat.{ℕ, ◌+◌}
use native.Mathlib.Omega.{arith}
use Rattle.cells.specs.Cells.{Cell}
use Rattle.cells.specs.Functions.{Function}
use Rattle.cells.specs.View.{view}
use Rattle.cells.specs.Lists.{only, All}
use Rattle.cells.proofs.Lists.{all_each, any_yes, any_no, tally-only, tally-none, sub_all, sub_tally}
use Rattle.cells.proofs.Facts.{by_test}
use Rattle.sites.specs.Sites.{site_of, event_site, is_write, is_site, stands, times}
use Rattle.sites.specs.Validators.{site_check}
use Rattle.sites.proofs.Fit.{store_site, BorrowsAlone, WritesAlone, WriteSited, Paired, Claimed}
use Rattle.sites.specs.declared.Which.{Which}
use Rattle.sites.specs.declared.Which.TheVariants.{Activation, Write}
use Rattle.sites.proofs.Judged.{site_is, not_absent}
use Rattle.sites.proofs.SitesFit.{site_check_lem}
use Rattle.sites.proofs.SameSites.{site_capable, store_capable}
use Rattle.cleanup.specs.Sweeps.{removed}
use Rattle.cleanup.specs.Cleanup.{stays, clean_code, clean_events, clean_function}
use Rattle.cleanup.proofs.SitesSplit.{split}
use Rattle.cleanup.proofs.EachLeft.{sub_events}
use Rattle.std.specs.Prelude.{Some, None, Ok}

abbrev pub other : Which → Which
other Activation = Write
other Write = Activation

-- an event with one site has not the other
abbrev pub Single : Which → Cell → Type 0
Single w e = (x : ℕ) → event_site w e ≡ Some x → event_site (other w) e ≡ None

single : (w : Which) (es : List Cell) → All BorrowsAlone es → All WritesAlone es → All (Single w) es
single w [] a b = tt
single w (e ∷ es) a b = (one-site w, single w es a.1 b.1)
  where
    one-site : (w : Which) → Single w e
    one-site Activation x y = by_test (is_write e) (λ z. not_absent x (event_site Activation e) (a.0 z) y) (λ z. b.0 z)
    one-site Write x y = by_test (is_write e) (λ z. a.0 z) (λ z. not_absent x (event_site Write e) (b.0 z) y)

-- it stays exactly if its site is on none of the cells that are gone
stays_at : (w : Which) (gone : List Cell) (e : Cell) (x : ℕ) → event_site w e ≡ Some x → event_site (other w) e ≡ None → stays gone e ≡ not (stands (site_of w) x gone)
stays_at Activation gone e x y z = rw (y, z) (by_test (stands (site_of Activation) x gone) (λ v. rw v) (λ v. rw v))
stays_at Write gone e x y z = rw (y, z)

module _ (w : Which) (gone es : List Cell) (s : All (Single w) es) (x : ℕ) where
  pub went : stands (site_of w) x gone ≡ true → times (event_site w) x (only (stays gone) es) ≡ 0
  went v = tally-none (λ e. is_site x (event_site w e)) (stays gone) es (all_each (Single w) (λ e. is_site x (event_site w e) ≡ true → stays gone e ≡ false)
      (λ e f y. let z = site_is x (event_site w e) y in stays_at w gone e x z (f x z) ∙ rw v) es s)

  pub stayed : stands (site_of w) x gone ≡ false → times (event_site w) x (only (stays gone) es) ≡ times (event_site w) x es
  stayed v = tally-only (λ e. is_site x (event_site w e)) (stays gone) es (all_each (Single w) (λ e. is_site x (event_site w e) ≡ true → stays gone e ≡ true)
      (λ e f y. let z = site_is x (event_site w e) y in stays_at w gone e x z (f x z) ∙ rw v) es s)

module _ (cs es : List Cell) (a : Paired cs es) (b : Claimed cs es) where
  pub singles : (w : Which) → All (Single w) es
  singles w = single w es a.borrows b.borrows

  pub paired : Paired (clean_code cs) (clean_events cs es)
  unfolding clean_events
  paired = record {
    once = λ x. omega (arith, part x, a.once x);
    borrows = sub_all BorrowsAlone (sub_events cs es) a.borrows;
    same = λ x. let p = part x in let o = a.once x in let s = a.same x in by_test (stands (site_of Activation) x (removed view cs))
        (λ v. omega (arith, went Activation (removed view cs) es (singles Activation) x v, any_yes (λ c. is_site x (site_of Activation c)) (removed view cs) v))
        (λ v. omega (arith, stayed Activation (removed view cs) es (singles Activation) x v, any_no (λ c. is_site x (site_of Activation c)) (removed view cs) v));
  }
    where
      part : (x : ℕ) → times (site_of Activation) x cs ≡ times (site_of Activation) x (clean_code cs) + times (site_of Activation) x (removed view cs)
      part x = split (λ c. is_site x (site_of Activation c)) (site_capable Activation x) cs

  pub claimed : Claimed (clean_code cs) (clean_events cs es)
  unfolding clean_events
  claimed = record {
    once = λ x. omega (arith, part x, b.once x);
    borrows = sub_all WritesAlone (sub_events cs es) b.borrows;
    writes = sub_all WriteSited (sub_events cs es) b.writes;
    claimed = λ x. let p = part x in let o = b.once x in let s = b.claimed x in by_test (stands (site_of Write) x (removed view cs))
        (λ v. omega (arith, any_yes (λ c. is_site x (site_of Write c)) (removed view cs) v))
        (λ v. omega (arith, stayed Write (removed view cs) es (singles Write) x v));
    single = λ x l. omega (arith, sub_tally (λ e. is_site x (event_site Write e)) (sub_events cs es), b.single x (omega (arith, split (λ c. is_site x (store_site c)) (store_capable x) cs)));
    known = λ x l. let p = part x in by_test (stands (site_of Write) x (removed view cs))
        (λ v. absurd (omega (arith, went Write (removed view cs) es (singles Write) x v)))
        (λ v. let k = stayed Write (removed view cs) es (singles Write) x v in omega (arith, any_no (λ c. is_site x (site_of Write c)) (removed view cs) v, b.known x (omega arith)));
  }
    where
      part : (x : ℕ) → times (site_of Write) x cs ≡ times (site_of Write) x (clean_code cs) + times (site_of Write) x (removed view cs)
      part x = split (λ c. is_site x (site_of Write c)) (site_capable Write x) cs

-- of a function that passes, cleanup's result passes
pub cleanup_passes : (position : ℕ) (cs es : List Cell) → site_check position cs es ≡ Ok tt → site_check position (clean_code cs) (clean_events cs es) ≡ Ok tt
cleanup_passes position cs es e =
    let g = (site_check_lem position cs es).0 e in
    (site_check_lem position (clean_code cs) (clean_events cs es)).1 (paired cs es g.0 g.1, claimed cs es g.0 g.1)

pub clean_function_passes : (position : ℕ) (g : Function) → site_check position g.code g.events ≡ Ok tt
    → site_check position (clean_function g).code (clean_function g).events ≡ Ok tt
unfolding clean_function
clean_function_passes position g = cleanup_passes position g.code g.events
