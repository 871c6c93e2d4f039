-- The site check passes a function exactly if its sites are paired and claimed.
use mathlib.Core.Path.{◌≡◌, refl}
use mathlib.Core.Logic.{◌↔◌}
use mathlib.Core.Bool.{Bool, true, false, cond, ◌&&◌, not}
use mathlib.Core.List.{List, [], ◌∷◌, ◌++◌, append-nil, append_assoc}
use Prim.Native.Nat.{ℕ, zero, suc, ◌≤◌}
use native.Mathlib.Omega.{arith}
use lib.Dec.{eqb}
use Rattle.cells.specs.Answers.{or_else, scan}
use Rattle.cells.specs.Cells.{Cell}
use Rattle.cells.specs.Lists.{one, All}
use Rattle.cells.specs.declared.refusal.Refusal.TheVariants.{ActivationSiteOnWrite, ActivationSiteClaimedTwice, WriteWithoutSite, WriteSiteUnclaimed, StoreVarSiteClaimedTwice}
use Rattle.cells.proofs.Lists.{all_of, all_both, any_no, no_any, tally-append}
use Rattle.cells.proofs.Answers.{refused-good, or-both}
use Rattle.cells.proofs.Facts.{by_test, clash, eqb_true, eqb_false, not_false}
use Rattle.sites.specs.Sites.{is_store_var, is_write, site_of, event_site, site_by, is_site, stands, times}
use Rattle.sites.specs.Validators.{repeated, judge_site, judge_command, repeat_answer, judge_activation, judge_event, activation_answer, unmatched, judge_met, judge_kind, judge_claim, judge_by, rule_answer, standing, validate_activation_sites, validate_write_sites, site_check}
use Rattle.sites.proofs.Fit.{store_site, There, BorrowsAlone, WritesAlone, WriteSited, Paired, Claimed}
use Rattle.sites.specs.declared.Which.{Which}
use Rattle.sites.specs.declared.Which.TheVariants.{Activation, Write}
use Rattle.cells.specs.declared.walk.Part.TheVariants.{Code, Events}
use Rattle.sites.specs.declared.Rule.TheVariants.{StoreVarClaimed, BorrowKnown, EventKind, WriteClaimed, WriteKnown}
use Rattle.sites.proofs.Judged.{both-good, cond-good, site_is, is_site_lem, not_absent}
use Rattle.sites.proofs.Tally.{from_all, to_all}
use Rattle.std.specs.Prelude.{Option, Some, None, Ok, Err}
use Rattle.cells.specs.Checked.{Checked}

-- a site that stands on no earlier cell
abbrev Fresh : (Cell → Option ℕ) → List Cell → Option ℕ → Type 0
Fresh f before s = (x : ℕ) → s ≡ Some x → stands f x before ≡ false

-- a scan whose cells are each judged by themselves and to have a site that stands on none before
module _ (f : Cell → Option ℕ) (Own : Cell → Type 0) (judge : List Cell → Cell → Checked) (passes : (before : List Cell) (c : Cell) → (judge before c ≡ Ok tt) ↔ (Own c × Fresh f before (f c))) where
  once_more : (before : List Cell) (c : Cell) → ((x : ℕ) → times f x before ≤ 1) → Fresh f before (f c) → (x : ℕ) → times f x (before ++ (c ∷ [])) ≤ 1
  once_more before c h u x =
      let n = tally-append (λ d. is_site x (f d)) before (c ∷ []) in
      by_test (is_site x (f c))
      (λ y. let z = any_no (λ d. is_site x (f d)) before (u x (site_is x (f c) y)) in rw n (rw y (omega arith)))
      (λ y. rw n (rw y (omega (arith, h x))))

  pub scan-once : (before cs : List Cell) → scan judge before cs ≡ Ok tt → ((x : ℕ) → times f x before ≤ 1) → All Own cs × ((x : ℕ) → times f x (before ++ cs) ≤ 1)
  scan-once before [] e h = (tt, λ x. rw append-nil (h x))
  scan-once before (c ∷ cs) e h =
      let g = both-good (judge before c) (scan judge (before ++ (c ∷ [])) cs) e in
      let o = (passes before c).0 g.0 in
      let r = scan-once (before ++ (c ∷ [])) cs g.1 (once_more before c h o.1) in
      ((o.0, r.0), λ x. rw append_assoc at (r.1 x))

  pub once-scan : (before cs : List Cell) → All Own cs → ((x : ℕ) → times f x (before ++ cs) ≤ 1) → scan judge before cs ≡ Ok tt
  once-scan before [] a h = refl
  once-scan before (c ∷ cs) a h = or-both (judge before c) (scan judge (before ++ (c ∷ [])) cs)
      ((passes before c).1 (a.0, fresh))
      (once-scan (before ++ (c ∷ [])) cs a.1 (λ x. rw append_assoc (h x)))
    where
      fresh : Fresh f before (f c)
      fresh x e = no_any (λ d. is_site x (f d)) before (let n = tally-append (λ d. is_site x (f d)) before (c ∷ cs) in let k = h x in let o : one (is_site x (f c)) ≡ 1 = rw (is_site_lem x (f c) e) in omega arith)

-- a scan whose cells are each judged by themselves
module _ (judge : Cell → Checked) (Own : Cell → Type 0) (passes : (c : Cell) → (judge c ≡ Ok tt) ↔ Own c) where
  scan-all : (before cs : List Cell) → scan (λ _ c. judge c) before cs ≡ Ok tt → All Own cs
  scan-all before [] e = tt
  scan-all before (c ∷ cs) e =
      let g = both-good (judge c) (scan (λ _ d. judge d) (before ++ (c ∷ [])) cs) e in
      ((passes c).0 g.0, scan-all (before ++ (c ∷ [])) cs g.1)

  all-scan : (before cs : List Cell) → All Own cs → scan (λ _ c. judge c) before cs ≡ Ok tt
  all-scan before [] a = refl
  all-scan before (c ∷ cs) a = or-both (judge c) (scan (λ _ d. judge d) (before ++ (c ∷ [])) cs) ((passes c).1 a.0) (all-scan (before ++ (c ∷ [])) cs a.1)

-- 11 and 21
repeat_passes : (w : Which) (position : ℕ) (before : List Cell) (s : Option ℕ) → (judge_site w position before s ≡ Ok tt) ↔ (Unit {0} × Fresh (site_of w) before s)
repeat_passes w position before None = (λ e. (tt, λ x y. not_absent x None refl y), λ u. refl)
repeat_passes w position before (Some x) = (
  λ e. (tt, λ z y. let k : x ≡ z = cc in rw (← k) (cond-good (stands (site_of w) x before) (repeated w position x) (Ok tt) e).0),
  λ u. rw (u.1 x refl),
)

pub repeat_good : (w : Which) (position : ℕ) (cs : List Cell) → (repeat_answer w position cs ≡ Ok tt) ↔ ((x : ℕ) → times (site_of w) x cs ≤ 1)
unfolding repeat_answer
repeat_good w position cs = (
  λ e. (scan-once (site_of w) (λ c. Unit {0}) (judge_command w position) (λ before c. repeat_passes w position before (site_of w c)) [] cs e (λ x. omega arith)).1,
  λ h. once-scan (site_of w) (λ c. Unit {0}) (judge_command w position) (λ before c. repeat_passes w position before (site_of w c)) [] cs (all_of (λ c. Unit {0}) (λ c. tt) cs) h,
)

-- 12 and 13
activation_passes : (position : ℕ) (before : List Cell) (write : Bool) (s : Option ℕ) → (judge_activation position before write s ≡ Ok tt) ↔ ((write ≡ true → s ≡ None) × Fresh (event_site Activation) before s)
activation_passes position before write None = (λ e. (λ y. refl, λ x y. not_absent x None refl y), λ u. refl)
activation_passes position before write (Some x) = (
  λ e. let g = cond-good write (ActivationSiteOnWrite position x) (cond (stands (event_site Activation) x before) (Err (ActivationSiteClaimedTwice position x)) (Ok tt)) e in
      (λ y. clash write y g.0, λ z y. let k : x ≡ z = cc in rw (← k) (cond-good (stands (event_site Activation) x before) (ActivationSiteClaimedTwice position x) (Ok tt) g.1).0),
  λ u. by_test write (λ y. not_absent x (Some x) (u.0 y) refl) (λ y. rw (y, u.1 x refl)),
)

pub activation_good : (position : ℕ) (es : List Cell) → (activation_answer position es ≡ Ok tt) ↔ (All BorrowsAlone es × ((x : ℕ) → times (event_site Activation) x es ≤ 1))
unfolding activation_answer
activation_good position es = (
  λ e. scan-once (event_site Activation) BorrowsAlone (judge_event position) (λ before c. activation_passes position before (is_write c) (event_site Activation c)) [] es e (λ x. omega arith),
  λ h. once-scan (event_site Activation) BorrowsAlone (judge_event position) (λ before c. activation_passes position before (is_write c) (event_site Activation c)) [] es h.0 h.1,
)

-- a count that is not zero
some_of : (k : ℕ) → eqb k 0 ≡ false → 1 ≤ k
some_of k e = omega (arith, eqb_false k 0 e)

of_some : (k : ℕ) → 1 ≤ k → eqb k 0 ≡ false
of_some k l = by_test (eqb k 0) (λ y. absurd (omega (arith, eqb_true k 0 y))) (λ y. y)

module _ (position : ℕ) (count : ℕ → ℕ) where
  -- 14 and 26
  met_passes : (w : Which) (s : Option ℕ) → (judge_met w position count s ≡ Ok tt) ↔ ((x : ℕ) → s ≡ Some x → 1 ≤ count x)
  met_passes w None = (λ e x y. not_absent x None refl y, λ u. refl)
  met_passes w (Some x) = (
    λ e z y. let k : x ≡ z = cc in rw (← k) (some_of (count x) (cond-good (eqb (count x) 0) (unmatched w position x) (Ok tt) e).0),
    λ u. rw (of_some (count x) (u x refl)),
  )

  met_scan : (w : Which) (f : Cell → Option ℕ) (cs : List Cell) → (scan (λ _ c. judge_met w position count (f c)) [] cs ≡ Ok tt) ↔ ((x : ℕ) → 1 ≤ times f x cs → 1 ≤ count x)
  met_scan w f cs =
      let own : Cell → Type 0 = λ c. (x : ℕ) → f c ≡ Some x → 1 ≤ count x in (
        λ e. from_all f (λ x. 1 ≤ count x) cs (scan-all (λ c. judge_met w position count (f c)) own (λ c. met_passes w (f c)) [] cs e),
        λ h. all-scan (λ c. judge_met w position count (f c)) own (λ c. met_passes w (f c)) [] cs (to_all f (λ x. 1 ≤ count x) cs h),
      )

  pub store_claimed : (cs : List Cell) → (rule_answer StoreVarClaimed position count cs ≡ Ok tt) ↔ ((x : ℕ) → 1 ≤ times (site_of Activation) x cs → 1 ≤ count x)
  unfolding judge_by site_by
  store_claimed cs = met_scan Activation (site_of Activation) cs

  borrow_known : (es : List Cell) → (rule_answer BorrowKnown position count es ≡ Ok tt) ↔ ((x : ℕ) → 1 ≤ times (event_site Activation) x es → 1 ≤ count x)
  unfolding judge_by site_by
  borrow_known es = met_scan Activation (event_site Activation) es

  write_known : (es : List Cell) → (rule_answer WriteKnown position count es ≡ Ok tt) ↔ ((x : ℕ) → 1 ≤ times (event_site Write) x es → 1 ≤ count x)
  unfolding judge_by site_by
  write_known es = met_scan Write (event_site Write) es

  -- 22 and 23
  kind_passes : (write : Bool) (s : Option ℕ) → (judge_kind position write s ≡ Ok tt) ↔ ((write ≡ false → s ≡ None) × (write ≡ true → There s))
  kind_passes write None = (
    λ e. (λ y. refl, λ y. clash write y (cond-good write (WriteWithoutSite position) (Ok tt) e).0),
    λ u. by_test write (λ y. let t = u.1 y in not_absent t.0 None refl t.1) (λ y. rw y),
  )
  kind_passes write (Some x) = (
    λ e. (λ y. absurd (refused-good (rw y at e)), λ y. (x, refl)),
    λ u. by_test write (λ y. rw y) (λ y. not_absent x (Some x) (u.0 y) refl),
  )

  pub kind_good : (es : List Cell) → (rule_answer EventKind position count es ≡ Ok tt) ↔ (All WritesAlone es × All WriteSited es)
  unfolding judge_by site_by
  kind_good es =
      let judged : Cell → Checked = λ c. judge_kind position (is_write c) (event_site Write c) in
      let own : Cell → Type 0 = λ c. WritesAlone c × WriteSited c in (
        λ e. (all_both WritesAlone WriteSited es).0 (scan-all judged own (λ c. kind_passes (is_write c) (event_site Write c)) [] es e),
        λ h. all-scan judged own (λ c. kind_passes (is_write c) (event_site Write c)) [] es ((all_both WritesAlone WriteSited es).1 h),
      )

  -- 24 and 25
  claim_passes : (store : Bool) (s : Option ℕ) → (judge_claim position count store s ≡ Ok tt) ↔ (((x : ℕ) → s ≡ Some x → 1 ≤ count x) × ((x : ℕ) → cond store s None ≡ Some x → count x ≤ 1))
  claim_passes store None = (λ e. (λ x y. not_absent x None refl y, λ x y. by_test store (λ z. not_absent x None refl (rw z at y)) (λ z. not_absent x None refl (rw z at y))), λ u. refl)
  claim_passes store (Some x) = (
    λ e. let g = cond-good (eqb (count x) 0) (WriteSiteUnclaimed position x) (cond (store && not (eqb (count x) 1)) (Err (StoreVarSiteClaimedTwice position x)) (Ok tt)) e in
        let h = (cond-good (store && not (eqb (count x) 1)) (StoreVarSiteClaimedTwice position x) (Ok tt) g.1).0 in (
          λ z y. let k : x ≡ z = cc in rw (← k) (some_of (count x) g.0),
          λ z y. by_test store
              (λ v. let k : x ≡ z = at_is x z (rw v at y) in rw (← k) (omega (arith, eqb_true (count x) 1 (not_false (eqb (count x) 1) (rw v at h)))))
              (λ v. not_absent z None refl (rw v at y)),
        ),
    λ u. by_test store
        (λ v. let k : eqb (count x) 1 ≡ true = is_one (count x) (u.0 x refl) (u.1 x (rw v)) in rw (of_some (count x) (u.0 x refl), v, k))
        (λ v. rw (of_some (count x) (u.0 x refl), v)),
  )
    where
      is_one : (k : ℕ) → 1 ≤ k → k ≤ 1 → eqb k 1 ≡ true
      is_one k a b = let e : k ≡ 1 = omega arith in rw e

      at_is : (x z : ℕ) → Some x ≡ Some z → x ≡ z
      at_is x z e = cc

  claim_good : (cs : List Cell) → (rule_answer WriteClaimed position count cs ≡ Ok tt)
      ↔ (((x : ℕ) → 1 ≤ times (site_of Write) x cs → 1 ≤ count x) × ((x : ℕ) → 1 ≤ times store_site x cs → count x ≤ 1))
  unfolding judge_by site_by
  claim_good cs =
      let judged : Cell → Checked = λ c. judge_claim position count (is_store_var c) (site_of Write c) in
      let met : Cell → Type 0 = λ c. (x : ℕ) → site_of Write c ≡ Some x → 1 ≤ count x in
      let alone : Cell → Type 0 = λ c. (x : ℕ) → store_site c ≡ Some x → count x ≤ 1 in (
        λ e. let (a, b) = (all_both met alone cs).0 (scan-all judged (λ c. met c × alone c) (λ c. claim_passes (is_store_var c) (site_of Write c)) [] cs e) in
            (from_all (site_of Write) (λ x. 1 ≤ count x) cs a, from_all store_site (λ x. count x ≤ 1) cs b),
        λ h. all-scan judged (λ c. met c × alone c) (λ c. claim_passes (is_store_var c) (site_of Write c)) [] cs
            ((all_both met alone cs).1 (to_all (site_of Write) (λ x. 1 ≤ count x) cs h.0, to_all store_site (λ x. count x ≤ 1) cs h.1)),
      )

-- ---- the two validators, and both

four-good : (a b c d : Checked) → (or_else a (or_else b (or_else c d)) ≡ Ok tt) ↔ ((a ≡ Ok tt) × (b ≡ Ok tt) × (c ≡ Ok tt) × (d ≡ Ok tt))
four-good a b c d = (
  λ e. let (e₁, r) = both-good a (or_else b (or_else c d)) e in
      let (e₂, r₂) = both-good b (or_else c d) r in
      let (e₃, e₄) = both-good c d r₂ in
      (e₁, e₂, e₃, e₄),
  λ g. simp (g.0, g.1, g.2) g.3,
)

pub activation_sites : (position : ℕ) (cs es : List Cell) → (validate_activation_sites position cs es ≡ Ok tt) ↔ Paired cs es
unfolding site_by
activation_sites position cs es =
    let on_events = standing Events Activation es in
    let on_commands = standing Code Activation cs in
    let four = four-good (repeat_answer Activation position cs) (activation_answer position es) (rule_answer StoreVarClaimed position on_events cs) (rule_answer BorrowKnown position on_commands es) in (
      λ e. let g = four.0 e in
          let once = (repeat_good Activation position cs).0 g.0 in
          let (borrows, single) = (activation_good position es).0 g.1 in
          let s = (store_claimed position on_events cs).0 g.2 in
          let t = (borrow_known position on_commands es).0 g.3 in
          record { once = once; borrows = borrows; same = λ x. level (times (event_site Activation) x es) (times (site_of Activation) x cs) (single x) (once x) (t x) (s x) },
      λ h. four.1 (
        (repeat_good Activation position cs).1 h.once,
        (activation_good position es).1 (h.borrows, λ x. omega (arith, h.same x, h.once x)),
        (store_claimed position on_events cs).1 (λ x l. omega (arith, h.same x)),
        (borrow_known position on_commands es).1 (λ x l. omega (arith, h.same x)),
      ),
    )
  where
    level : (a b : ℕ) → a ≤ 1 → b ≤ 1 → (1 ≤ a → 1 ≤ b) → (1 ≤ b → 1 ≤ a) → a ≡ b
    level zero zero u v f g = refl
    level zero (suc b) u v f g = absurd (omega (arith, g (omega arith)))
    level (suc a) zero u v f g = absurd (omega (arith, f (omega arith)))
    level (suc a) (suc b) u v f g = omega arith

pub write_sites : (position : ℕ) (cs es : List Cell) → (validate_write_sites position cs es ≡ Ok tt) ↔ Claimed cs es
unfolding site_by
write_sites position cs es =
    let on_events = standing Events Write es in
    let on_commands = standing Code Write cs in
    let four = four-good (repeat_answer Write position cs) (rule_answer EventKind position on_events es) (rule_answer WriteClaimed position on_events cs) (rule_answer WriteKnown position on_commands es) in (
      λ e. let g = four.0 e in
          let once = (repeat_good Write position cs).0 g.0 in
          let (borrows, writes) = (kind_good position on_events es).0 g.1 in
          let (claimed, single) = (claim_good position on_events cs).0 g.2 in
          record {
            once = once;
            borrows = borrows;
            writes = writes;
            claimed = λ x. below (times (site_of Write) x cs) (times (event_site Write) x es) (once x) (claimed x);
            single = single;
            known = (write_known position on_commands es).0 g.3;
          },
      λ h. four.1 (
        (repeat_good Write position cs).1 h.once,
        (kind_good position on_events es).1 (h.borrows, h.writes),
        (claim_good position on_events cs).1 (λ x l. omega (arith, h.claimed x), h.single),
        (write_known position on_commands es).1 h.known,
      ),
    )
  where
    below : (a b : ℕ) → a ≤ 1 → (1 ≤ a → 1 ≤ b) → a ≤ b
    below zero b u f = omega arith
    below (suc a) b u f = omega (arith, f (omega arith))

pub site_check_lem : (position : ℕ) (cs es : List Cell) → (site_check position cs es ≡ Ok tt) ↔ (Paired cs es × Claimed cs es)
site_check_lem position cs es = (
  λ e. let g = both-good (validate_activation_sites position cs es) (validate_write_sites position cs es) e in
      ((activation_sites position cs es).0 g.0, (write_sites position cs es).0 g.1),
  λ h. or-both (validate_activation_sites position cs es) (validate_write_sites position cs es) ((activation_sites position cs es).1 h.0) ((write_sites position cs es).1 h.1),
)

-- whether a function passes has nothing to do with its position
module _ (position other : ℕ) (cs es : List Cell) where
  pub activation_anywhere : validate_activation_sites position cs es ≡ Ok tt → validate_activation_sites other cs es ≡ Ok tt
  activation_anywhere g = (activation_sites other cs es).1 ((activation_sites position cs es).0 g)

  pub write_anywhere : validate_write_sites position cs es ≡ Ok tt → validate_write_sites other cs es ≡ Ok tt
  write_anywhere g = (write_sites other cs es).1 ((write_sites position cs es).0 g)

  pub anywhere : site_check position cs es ≡ Ok tt → site_check other cs es ≡ Ok tt
  anywhere g = (site_check_lem other cs es).1 ((site_check_lem position cs es).0 g)
