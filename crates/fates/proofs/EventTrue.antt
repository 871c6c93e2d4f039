-- What the fate of an event means: it is gone exactly if it is not among the output's events, and then by a site of its own sort on a command that
-- sweep two removes.
use mathlib.Core.Path.{◌≡◌, refl, sym, subst}
use mathlib.Core.Bool.{Bool, true, false, ◌||◌, true≢false}
use mathlib.Core.List.{List, [], ◌∷◌}
use Prim.Native.Nat.{ℕ, zero, suc, ◌<◌}
use native.Mathlib.Nat.{not-suc-le-zero, le_of_suc-le-suc}
use native.Mathlib.Omega.{arith}
use lib.ListN.{length, get_or}
use Rattle.cells.specs.Cells.{Cell}
use Rattle.cells.specs.Lists.{only, All}
use Rattle.cells.specs.View.{view}
use Rattle.cells.proofs.Facts.{by_test, clash, not_false}
use Rattle.cells.proofs.Lists.{all_at}
use Rattle.sites.specs.Sites.{event_site}
use Rattle.sites.specs.declared.Which.{Which}
use Rattle.sites.specs.declared.Which.TheVariants.{Activation, Write}
use Rattle.cleanup.specs.Sweeps.{removed}
use Rattle.cleanup.specs.Cleanup.{on_gone, goes, stays, clean_events}
use Rattle.fates.specs.Claim.{OneOf, GoneTrue, EventFatesTrue}
use Rattle.fates.specs.declared.Fate.{Fate}
use Rattle.fates.specs.declared.Fate.TheVariants.{EventGone, Kept}
use Rattle.fates.specs.declared.Reason.TheVariants.{Nothing}
use Rattle.std.specs.Prelude.{Option, Some, None}

-- ---- the cells that pass a test

module _ (f : Cell → Bool) where
  all_pass : (es : List Cell) → All (λ (e : Cell). f e ≡ true) (only f es)
  all_pass [] = tt
  all_pass (e ∷ es) = by_test (f e) (λ y. rw y (y, all_pass es)) (λ y. rw y (all_pass es))

  -- one of them passes
  one_passes : (es : List Cell) (e : Cell) → OneOf e (only f es) → f e ≡ true
  one_passes es e (i, h, is) = subst (λ (x : Cell). f x ≡ true) is (all_at (λ (x : Cell). f x ≡ true) [] (only f es) i h (all_pass es))

  -- behind one more cell
  one-behind : (x e : Cell) (es : List Cell) → OneOf e (only f es) → OneOf e (only f (x ∷ es))
  one-behind x e es (i, h, is) = by_test (f x) (λ y. rw y (suc i, omega arith, is)) (λ y. rw y (i, h, is))

  -- one that passes is one of them
  passes_one : (es : List Cell) (i : ℕ) → i < length es → f (get_or es i []) ≡ true → OneOf (get_or es i []) (only f es)
  passes_one [] i h p = absurd (not-suc-le-zero h)
  passes_one (x ∷ es) zero h p = rw p (0, omega arith, refl)
  passes_one (x ∷ es) (suc i) h p = one-behind x (get_or es i []) es (passes_one es i (le_of_suc-le-suc h) p)

-- ---- events

-- by a site of the sort w
gone_by : (w : Which) (cs : List Cell) (e : Cell) (s : Option ℕ) → event_site w e ≡ s → on_gone w (removed view cs) s ≡ true → GoneTrue cs e
gone_by w cs e None is y = absurd (true≢false (sym y))
gone_by w cs e (Some x) is y = record { sort = w; site = x; of_event = is; of_command = y }

by-site : (cs : List Cell) (e : Cell) → stays (removed view cs) e ≡ false → GoneTrue cs e
by-site cs e n = by_test (goes Activation (removed view cs) e)
    (λ y. gone_by Activation cs e (event_site Activation e) refl y)
    (λ y. let g = not_false (goes Activation (removed view cs) e || goes Write (removed view cs) e) n in gone_by Write cs e (event_site Write e) refl (rw y at g))

not-both : {C : Type 0} {x : Fate} → x ≡ Kept Nothing → x ≡ EventGone → C
not-both p q = let z : ◌≡◌ {A = ℕ} 0 1 = cc in absurd (omega arith)

pub event_true : EventFatesTrue
unfolding clean_events
event_true cs es e (i, h, is) = by_test (stays (removed view cs) e)
    (λ y.
    let o : OneOf e (clean_events cs es) = subst (λ (x : Cell). OneOf x (clean_events cs es)) is (passes_one (stays (removed view cs)) es i h (rw is y)) in
    rw y (record {
      not_among = (λ p. not-both refl p, λ n. absurd (n o));
      kept = (λ p. o, λ p. refl);
      by-site = λ p. not-both refl p;
    }))
    (λ y.
    let n : OneOf e (clean_events cs es) → ⊥ = λ o. clash (stays (removed view cs) e) (one_passes (stays (removed view cs)) es e o) y in
    rw y (record {
      not_among = (λ p. n, λ m. refl);
      kept = (λ p. not-both p refl, λ o. absurd (n o));
      by-site = λ p. by-site cs e y;
    }))
