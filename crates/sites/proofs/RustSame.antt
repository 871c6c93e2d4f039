-- The Rust's own tests for 13, 14 and 24 to 26 answer the same.
use mathlib.Core.Path.{◌≡◌, refl, sym, ◌∙◌, ap}
use mathlib.Core.Bool.{Bool, true, false, cond, ◌||◌, not, or-true}
use mathlib.Core.List.{List, [], ◌∷◌, ◌++◌}
use Prim.Native.Nat.{ℕ, suc, ◌+◌, ◌≤◌}
use native.Mathlib.Omega.{arith}
use lib.Dec.{eqb}
use Rattle.cells.specs.Answers.{or_else, scan}
use Rattle.cells.specs.Cells.{Cell}
use Rattle.cells.specs.Lists.{any, one, tally, All}
use Rattle.cells.specs.declared.refusal.Refusal.{Refusal}
use Rattle.cells.specs.declared.refusal.Refusal.TheVariants.{ActivationSitesDiffer}
use Rattle.cells.proofs.Lists.{any_append, any_yes, any_no, tally-sum}
use Rattle.cells.proofs.Facts.{by_test, eqb_true, eqb_self}
use Rattle.sites.specs.Sites.{is_write, site_of, event_site, site_by, is_site, stands, times, has_site}
use Rattle.sites.specs.Validators.{repeat_answer, judge_activation, judge_event, activation_answer, judge_met, judge_by, rule_answer, standing}
use Rattle.sites.proofs.Fit.{WritesAlone}
use Rattle.sites.proofs.RustTests.{met, unmet, is_borrow_of, judge_borrow, rust_activation, store_unmet, event_unmet, sets_differ, rust_differ, write_events}
use Rattle.sites.specs.declared.Which.TheVariants.{Activation, Write}
use Rattle.cells.specs.declared.walk.Part.TheVariants.{Code, Events}
use Rattle.sites.specs.declared.Rule.TheVariants.{StoreVarClaimed, BorrowKnown, EventKind}
use Rattle.sites.proofs.SitesFit.{repeat_good, activation_good, store_claimed, kind_good}
use Rattle.sites.proofs.DoubleCounting.{double_counted}
use Rattle.std.specs.Prelude.{Option, Some, None, Ok, Err}
use Rattle.cells.specs.Checked.{Checked}

-- ---- 14

abbrev differs : ℕ → Bool → Checked
differs position t = cond t (Err (ActivationSitesDiffer position)) (Ok tt)

-- a count that is zero is a site that stands nowhere
met_by : (position : ℕ) (g : Cell → Option ℕ) (ds : List Cell) (x : ℕ) → differs position (eqb (times g x ds) 0) ≡ differs position (not (stands g x ds))
met_by position g ds x = by_test (stands g x ds)
    (λ y. let k : eqb (times g x ds) 0 ≡ false = by_test (eqb (times g x ds) 0) (λ z. absurd (omega (arith, eqb_true (times g x ds) 0 z, any_yes (λ c. is_site x (g c)) ds y))) (λ z. z) in rw (y, k))
    (λ y. rw (y, any_no (λ c. is_site x (g c)) ds y))

-- a scan that has one refusal only
scan_test : (judge : Cell → Checked) (t : Cell → Bool) (r : Refusal) → ((c : Cell) → judge c ≡ cond (t c) (Err r) (Ok tt)) → (before cs : List Cell) → scan (λ _ c. judge c) before cs ≡ cond (any t cs) (Err r) (Ok tt)
scan_test judge t r u before [] = refl
scan_test judge t r u before (c ∷ cs) = rw (u c) (by_test (t c) (λ y. rw y) (λ y. rw y (scan_test judge t r u (before ++ (c ∷ [])) cs)))

module _ (position : ℕ) (f g : Cell → Option ℕ) (cs ds : List Cell) where
  unmet_by : (s : Option ℕ) → judge_met Activation position (λ x. times g x ds) s ≡ differs position (unmet g ds s)
  unmet_by None = refl
  unmet_by (Some x) = met_by position g ds x

  unmet_test : scan (λ _ c. judge_met Activation position (λ x. times g x ds) (f c)) [] cs ≡ differs position (any (λ c. unmet g ds (f c)) cs)
  unmet_test = scan_test (λ c. judge_met Activation position (λ x. times g x ds) (f c)) (λ c. unmet g ds (f c)) (ActivationSitesDiffer position) (λ c. unmet_by (f c)) [] cs

module _ (position : ℕ) (cs es : List Cell) where
  store_test : rule_answer StoreVarClaimed position (standing Events Activation es) cs ≡ differs position (store_unmet cs es)
  unfolding judge_by site_by
  store_test = unmet_test position (site_of Activation) (event_site Activation) cs es

  event_test : rule_answer BorrowKnown position (standing Code Activation cs) es ≡ differs position (event_unmet cs es)
  unfolding judge_by site_by
  event_test = unmet_test position (event_site Activation) (site_of Activation) es cs

-- the two scans answer whether the sets differ
pub sets_answer : (position : ℕ) (cs es : List Cell) → or_else (rule_answer StoreVarClaimed position (standing Events Activation es) cs) (rule_answer BorrowKnown position (standing Code Activation cs) es) ≡ differs position (sets_differ cs es)
sets_answer position cs es = rw (store_test position cs es, event_test position cs es) (by_test (store_unmet cs es) (λ y. rw y) (λ y. rw y))

has_met : (f : Cell → Option ℕ) (cs : List Cell) (s : Option ℕ) → one (has_site s) ≡ one (met f cs s) + one (unmet f cs s)
has_met f cs None = refl
has_met f cs (Some x) = by_test (stands f x cs) (λ y. rw y) (λ y. rw y)

rust_differ_lem : (cs es : List Cell) → ((x : ℕ) → times (site_of Activation) x cs ≤ 1) → ((x : ℕ) → times (event_site Activation) x es ≤ 1) → rust_differ cs es ≡ sets_differ cs es
unfolding site_by
rust_differ_lem cs es o p = by_test (store_unmet cs es)
    (λ y. rw (y, or-true))
    (λ y. rw y (sizes y))
  where
    or-none : (b : Bool) → (b || false) ≡ b
    or-none true = refl
    or-none false = refl

    stores : ℕ
    stores = tally (λ c. has_site (site_of Activation c)) cs

    events : ℕ
    events = tally (λ e. has_site (event_site Activation e)) es

    claimed : store_unmet cs es ≡ false → (x : ℕ) → 1 ≤ times (site_of Activation) x cs → 1 ≤ times (event_site Activation) x es
    claimed y = (store_claimed 0 (standing Events Activation es) cs).0 (store_test 0 cs es ∙ rw y)

    sizes : store_unmet cs es ≡ false → (not (eqb stores events) || false) ≡ event_unmet cs es
    sizes y =
        let m = claimed y in
        let n = double_counted (site_of Activation) (event_site Activation) es cs o (λ x l. omega (arith, p x, m x l)) in
        let k = tally-sum (λ e. has_site (event_site Activation e)) (λ e. met (site_of Activation) cs (event_site Activation e)) (λ e. unmet (site_of Activation) cs (event_site Activation e)) (λ e. has_met (site_of Activation) cs (event_site Activation e)) es in
        rw or-none (by_test (event_unmet cs es)
        (λ v. rw v (differ stores events (omega (arith, any_yes (λ e. unmet (site_of Activation) cs (event_site Activation e)) es v))))
        (λ v. rw v (agree stores events (omega (arith, any_no (λ e. unmet (site_of Activation) cs (event_site Activation e)) es v)))))
      where
        differ : (a b : ℕ) → suc a ≤ b → not (eqb a b) ≡ true
        differ a b l = by_test (eqb a b) (λ v. absurd (omega (arith, eqb_true a b v))) (λ v. rw v)

        agree : (a b : ℕ) → a ≡ b → not (eqb a b) ≡ false
        agree a b e = rw (e, eqb_self b)

-- once 11 to 13 have passed
pub rust_14 : (position : ℕ) (cs es : List Cell) → repeat_answer Activation position cs ≡ Ok tt → activation_answer position es ≡ Ok tt
    → or_else (rule_answer StoreVarClaimed position (standing Events Activation es) cs) (rule_answer BorrowKnown position (standing Code Activation cs) es) ≡ differs position (rust_differ cs es)
rust_14 position cs es g h =
    sets_answer position cs es ∙ ap (differs position) (sym (rust_differ_lem cs es ((repeat_good Activation position cs).0 g) ((activation_good position es).0 h).1))

-- ---- 13

-- of the events before, Borrow events alone have activation sites
abbrev Alone : List Cell → Type 0
Alone before = (x : ℕ) → any (is_borrow_of x) before ≡ stands (event_site Activation) x before

alone-more : (before : List Cell) (e : Cell) → Alone before → ((x : ℕ) → is_borrow_of x e ≡ is_site x (event_site Activation e)) → Alone (before ++ (e ∷ []))
alone-more before e u v x = any_append (is_borrow_of x) before (e ∷ []) ∙ rw (u x, v x) (sym (any_append (λ d. is_site x (event_site Activation d)) before (e ∷ [])))

abbrev by_borrow : ℕ → List Cell → Cell → Checked
by_borrow position before e = judge_borrow position before (is_write e) (event_site Activation e)

same_13 : (position : ℕ) (before es : List Cell) → Alone before → scan (by_borrow position) before es ≡ scan (judge_event position) before es
same_13 position before [] u = refl
same_13 position before (e ∷ es) u = go (event_site Activation e) refl (λ v. same_13 position (before ++ (e ∷ [])) es (alone-more before e u v))
  where
    go : (s : Option ℕ) → event_site Activation e ≡ s
        → (((x : ℕ) → is_borrow_of x e ≡ is_site x (event_site Activation e)) → scan (by_borrow position) (before ++ (e ∷ [])) es ≡ scan (judge_event position) (before ++ (e ∷ [])) es)
        → or_else (judge_borrow position before (is_write e) s) (scan (by_borrow position) (before ++ (e ∷ [])) es) ≡ or_else (judge_activation position before (is_write e) s) (scan (judge_event position) (before ++ (e ∷ [])) es)
    go None y r = r (λ x. rw y (by_test (is_write e) (λ z. rw z) (λ z. rw z)))
    go (Some k) y r = by_test (is_write e)
        (λ z. rw z)
        (λ z. rw (z, u k) (by_test (stands (event_site Activation) k before) (λ v. rw v) (λ v. rw v (r (λ x. rw z)))))

-- whatever the events
pub rust_13 : (position : ℕ) (es : List Cell) → rust_activation position es ≡ activation_answer position es
unfolding activation_answer
rust_13 position es = same_13 position [] es (λ x. refl)

-- ---- 24 to 26

-- once 22 has passed, every event with a write site is a Write event
pub rust_counts : (position : ℕ) (count : ℕ → ℕ) (es : List Cell) → rule_answer EventKind position count es ≡ Ok tt → (x : ℕ) → write_events x es ≡ times (event_site Write) x es
rust_counts position count es g x = go es ((kind_good position count es).0 g).0
  where
    go : (es : List Cell) → All WritesAlone es → write_events x es ≡ times (event_site Write) x es
    go [] a = refl
    go (e ∷ es) a = by_test (is_write e)
        (λ y. rw y (omega (arith, go es a.1)))
        (λ y. rw (y, a.0 y) (omega (arith, go es a.1)))
