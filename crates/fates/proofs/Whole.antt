-- What the sweeps and the fold leave in the list at each instruction cell is its fate.
use mathlib.Core.Path.{◌≡◌, refl, sym, ◌∙◌, ap, ap₂, fun_ext, subst}
use mathlib.Core.Bool.{Bool, true, false, cond, ◌&&◌, true≢false}
use mathlib.Core.List.{List, [], ◌∷◌, ◌++◌, map}
use Prim.Native.Nat.{ℕ, zero, suc, ◌+◌, ◌-◌, ◌*◌, ◌/◌, ◌%◌, ◌≤◌, ◌<◌}
use native.Mathlib.Nat.{le_of_suc-le-suc, not-suc-le-zero}
use native.Mathlib.Omega.{arith}
use lib.Dec.{eqb, ltb}
use lib.ListN.{length, get_or, set, take, drop, length-map, length-set, length-append, drop_of_length-le}
use lib.Seq.{ext_get_or, get_or-set_same}
use native.Mathlib.Nat.{zero-add}
use borrow.Author.Tests.{ltb-true, ltb-false}
use Rattle.cells.specs.Cells.{Cell, cells, cell_at, over}
use Rattle.cells.specs.Ins.{Ins}
use Rattle.cells.specs.View.{view}
use Rattle.cells.proofs.Cells.{cell_at_lem, length-cells}
use Rattle.cells.proofs.Facts.{by_test, eqb_true}
use Rattle.cells.proofs.Lists.{sub_all, sub_sub, all_each}
use Rattle.cells.proofs.Over.{length_over, over-take, over_read, over-part}
use Rattle.cleanup.specs.Marks.{terminal}
use Rattle.cleanup.specs.Positions.{up_from, every, see_at, AllBelow, Survive, left₁, left₂, left₃, left₄}
use Rattle.cleanup.proofs.Positions.{length_up_from, below_all}
use Rattle.cleanup.proofs.Whole.{after_sweeps}
use Rattle.crystalfold.specs.Rules.{default_rules}
use Rattle.crystalfold.specs.Fold.{Table, unknown, known_after}
use Rattle.fates.specs.Fates.{among, nearest_below, verdict_of, judged, fold_fate, code_fate, see_in, code_fates, event_fate, event_fates, function_fates}
use Rattle.fates.specs.Fates as fates
use Rattle.fates.specs.Steps.{marked, swept_fates, end_fate, end_fates, fold_fates, placed, CodePart, Judgeable}
use Rattle.fates.specs.Steps as steps
use Rattle.fates.specs.declared.Fate.{Fate}
use Rattle.fates.specs.declared.Fate.TheVariants.{RepeatedLabel, Unreachable, JumpToNext, LoadOverwritten, Kept}
use Rattle.fates.specs.declared.Reason.TheVariants.{Nothing}
use Rattle.fates.proofs.Lists.{Above, Increasing, increasing_up, sub_increasing, among-above, among_below, among_up, length_marked, get_or-marked, get_or-marked-behind, length-placed, get_or-placed_other, get_or_up}
use Rattle.fates.proofs.Levels.{sub₁, sub₂, sub₃, sub₄, level_at, by_level, swept_fate, fate-by, reached_by}

-- ---- along the cells left, each place has the fate there
pub placed_at : (see : ℕ → Ins) (t : Table) (p : List ℕ) (l : List Fate) (k : ℕ) → Increasing p → k < length l → among k p ≡ true
    → get_or (placed p (fold_fates see t p) l) k RepeatedLabel ≡ fold_fate see k t p
placed_at see t [] l k i h e = absurd (true≢false (sym e))
placed_at see t (j ∷ p) l k i h e = by_test (eqb j k)
    (λ y.
    let z : j ≡ k = eqb_true j k y in
    let a : among k p ≡ false = among-above k p (subst (λ (m : ℕ). Above m p) z i.0) in
    rw y (get_or-placed_other p _ (set l j (judged (verdict_of t (see j)))) k a ∙ ap (λ (m : ℕ). get_or (set l j (judged (verdict_of t (see j)))) m RepeatedLabel) (sym z) ∙ get_or-set_same l j _ RepeatedLabel (rw z h)))
    (λ y. rw y (placed_at see (known_after default_rules t (see j)) p (set l j (judged (verdict_of t (see j)))) k i.1 (omega (arith, length-set l j (judged (verdict_of t (see j))))) (rw y at e)))

-- ---- lists by their elements

pub length_mapped : {A : Type 0} (f : ℕ → A) (n : ℕ) → length (map f (up_from 0 n)) ≡ n
length_mapped f n = length-map (up_from 0 n) f ∙ length_up_from 0 n

-- what stands over the start of a list
pub over_first : {A : Type 0} (xs ys : List A) (k : ℕ) (d : A) → k < length xs → get_or (over xs ys) k d ≡ get_or xs k d
unfolding over
over_first {A} xs ys k d h = go xs (drop (length xs) ys) k h
  where
    go : (us vs : List A) (j : ℕ) → j < length us → get_or (us ++ vs) j d ≡ get_or us j d
    go [] vs j h = absurd (not-suc-le-zero h)
    go (u ∷ us) vs zero h = refl
    go (u ∷ us) vs (suc j) h = go us vs j (le_of_suc-le-suc h)

-- a list whose first n elements are f's, and whose others are as they were
pub over_by : {A : Type 0} (d : A) (f : ℕ → A) (n : ℕ) (before after : List A) → n ≤ length before → length after ≡ length before
    → ((k : ℕ) → k < n → get_or after k d ≡ f k) → ((k : ℕ) → n ≤ k → get_or after k d ≡ get_or before k d) → after ≡ over (map f (up_from 0 n)) before
over_by d f n before after r l first rest =
    let m : length (map f (up_from 0 n)) ≡ n = length_mapped f n in
    ext_get_or d after (over (map f (up_from 0 n)) before) (l ∙ sym (length_over (map f (up_from 0 n)) before (omega arith)))
    (λ k h. by_test (ltb k n)
    (λ y.
    let b : k < n = ltb-true k n y in
    first k b ∙ sym (over_first (map f (up_from 0 n)) before k d (omega arith) ∙ get_or_up f 0 n k d b ∙ ap f (zero-add k)))
    (λ y.
    let b : n ≤ k = ltb-false k n y in
    rest k b ∙ sym (over_read (map f (up_from 0 n)) before k d (omega arith))))

pub nearest_same : (f g : ℕ → Bool) (k : ℕ) → ((j : ℕ) → j < k → f j ≡ g j) → nearest_below f k ≡ nearest_below g k
nearest_same f g zero h = refl
nearest_same f g (suc k) h = rw (h k (omega arith), nearest_same f g k (λ j b. h j (omega arith)))

-- ---- the instruction cells of s

module _ (s : List ℕ) where
  abbrev n : ℕ
  n = length s / 16

  increasing₄ : Increasing (left₄ s)
  increasing₄ = sub_increasing (sub_sub (sub₄ s) (sub_sub (sub₃ s) (sub_sub (sub₂ s) (sub₁ s)))) (increasing_up 0 n)

  below₀ : AllBelow n (every s)
  below₀ = below_all n

  below₁ : AllBelow n (left₁ s)
  below₁ = sub_all (λ (k : ℕ). k < n) (sub₁ s) below₀

  below₂ : AllBelow n (left₂ s)
  below₂ = sub_all (λ (k : ℕ). k < n) (sub₂ s) below₁

  below₃ : AllBelow n (left₃ s)
  below₃ = sub_all (λ (k : ℕ). k < n) (sub₃ s) below₂

  below₄ : AllBelow n (left₄ s)
  below₄ = sub_all (λ (k : ℕ). k < n) (sub₄ s) below₃

  abbrev swept_by : ℕ → Fate
  swept_by k = swept_fate (among k (left₁ s)) (among k (left₂ s)) (among k (left₃ s)) (among k (left₄ s))

  module _ (l : List Fate) where
    abbrev l₀ : List Fate
    l₀ = marked RepeatedLabel (every s) l

    abbrev l₁ : List Fate
    l₁ = marked (Unreachable 0) (left₁ s) l₀

    abbrev l₂ : List Fate
    l₂ = marked JumpToNext (left₂ s) l₁

    abbrev l₃ : List Fate
    l₃ = marked LoadOverwritten (left₃ s) l₂

    pub length-swept : length (swept_fates s l) ≡ length l
    unfolding swept_fates
    length-swept = length_marked (Kept Nothing) (left₄ s) l₃ ∙ length_marked LoadOverwritten (left₃ s) l₂ ∙ length_marked JumpToNext (left₂ s) l₁ ∙ length_marked (Unreachable 0) (left₁ s) l₀ ∙ length_marked RepeatedLabel (every s) l

    pub swept_at : n ≤ length l → (k : ℕ) → k < n → get_or (swept_fates s l) k RepeatedLabel ≡ swept_by k
    unfolding swept_fates
    swept_at r k h =
        let h₀ : k < length l₀ = omega (arith, length_marked RepeatedLabel (every s) l) in
        let h₁ : k < length l₁ = omega (arith, length_marked (Unreachable 0) (left₁ s) l₀) in
        let h₂ : k < length l₂ = omega (arith, length_marked JumpToNext (left₂ s) l₁) in
        let h₃ : k < length l₃ = omega (arith, length_marked LoadOverwritten (left₃ s) l₂) in
        get_or-marked (Kept Nothing) (left₄ s) l₃ k h₃ ∙ ap (cond (among k (left₄ s)) (Kept Nothing))
        (get_or-marked LoadOverwritten (left₃ s) l₂ k h₂ ∙ ap (cond (among k (left₃ s)) LoadOverwritten)
        (get_or-marked JumpToNext (left₂ s) l₁ k h₁ ∙ ap (cond (among k (left₂ s)) JumpToNext)
        (get_or-marked (Unreachable 0) (left₁ s) l₀ k h₀ ∙ ap (cond (among k (left₁ s)) (Unreachable 0))
        (get_or-marked RepeatedLabel (every s) l k (omega arith) ∙ ap (λ (b : Bool). cond b RepeatedLabel (get_or l k RepeatedLabel)) (among_up k 0 n (omega arith) (omega arith))))))

    pub swept-behind : (k : ℕ) → n ≤ k → get_or (swept_fates s l) k RepeatedLabel ≡ get_or l k RepeatedLabel
    unfolding swept_fates
    swept-behind k h =
        get_or-marked-behind (Kept Nothing) (left₄ s) l₃ k (wider (left₄ s) below₄) ∙ get_or-marked-behind LoadOverwritten (left₃ s) l₂ k (wider (left₃ s) below₃) ∙ get_or-marked-behind JumpToNext (left₂ s) l₁ k (wider (left₂ s) below₂)
        ∙ get_or-marked-behind (Unreachable 0) (left₁ s) l₀ k (wider (left₁ s) below₁) ∙ get_or-marked-behind RepeatedLabel (every s) l k (wider (every s) below₀)
      where
        wider : (p : List ℕ) → AllBelow n p → AllBelow k p
        wider p a = all_each (λ (j : ℕ). j < n) (λ (j : ℕ). j < k) (λ j b. omega arith) p a

  -- the fate by what the sweeps leave
  abbrev fold_at : ℕ → Fate
  fold_at k = fold_fate (see_at s) k unknown (left₄ s)

  abbrev end_at : ℕ → ℕ → ℕ
  end_at first k = first + nearest_below (λ (j : ℕ). among j (left₂ s) && terminal (see_at s j)) k

  fate_is : (first k : ℕ) → by_level (among k (left₁ s)) (among k (left₂ s)) (among k (left₃ s)) (among k (left₄ s)) (end_at first k) (fold_at k) ≡ code_fate (see_at s) n first k
  unfolding code_fate fates.left₁ fates.left₂ fates.left₃ fates.left₄
  fate_is first k = refl

  -- where the fold has written, its fate stands; elsewhere what stood there
  placed_by : (l : List Fate) (k : ℕ) → k < length l
      → get_or (placed (left₄ s) (fold_fates (see_at s) unknown (left₄ s)) l) k RepeatedLabel ≡ cond (among k (left₄ s)) (fold_at k) (get_or l k RepeatedLabel)
  placed_by l k h = by_test (among k (left₄ s))
      (λ y. rw y (placed_at (see_at s) unknown (left₄ s) l k increasing₄ h y))
      (λ y. rw y (get_or-placed_other (left₄ s) (fold_fates (see_at s) unknown (left₄ s)) l k y))

  placed-behind : (l : List Fate) (k : ℕ) → n ≤ k → get_or (placed (left₄ s) (fold_fates (see_at s) unknown (left₄ s)) l) k RepeatedLabel ≡ get_or l k RepeatedLabel
  placed-behind l k h =
      get_or-placed_other (left₄ s) (fold_fates (see_at s) unknown (left₄ s)) l k
      (among_below k (left₄ s) (all_each (λ (j : ℕ). j < n) (λ (j : ℕ). j < k) (λ j b. omega arith) (left₄ s) below₄))

  -- ---- the list

  pub length-ends : (first : ℕ) (fates : List Fate) → length (end_fates first s fates) ≡ n
  length-ends first fates = length-map (up_from 0 n) (end_fate first (see_at s) fates) ∙ length_up_from 0 n

  pub fates_are : (first : ℕ) (before after : List Fate) → n ≤ length before
      → after ≡ placed (left₄ s) (fold_fates (see_at s) unknown (left₄ s)) (over (end_fates first s (swept_fates s before)) (swept_fates s before))
      → after ≡ over (map (code_fate (see_at s) n first) (up_from 0 n)) before
  fates_are first before after r e = over_by RepeatedLabel (code_fate (see_at s) n first) n before after r
      (ap length e ∙ length-placed (left₄ s) _ named ∙ long)
      (λ k h. rw e (placed_by named k (omega (arith, long)) ∙ ap (cond (among k (left₄ s)) (fold_at k)) (named_at k h) ∙ fate-by (end_at first k) (fold_at k) (level_at s k) ∙ fate_is first k))
      (λ k h. rw e (placed-behind named k h ∙ over_read (end_fates first s swept) swept k RepeatedLabel (omega (arith, count)) ∙ swept-behind before k h))
    where
      swept : List Fate
      swept = swept_fates s before

      named : List Fate
      named = over (end_fates first s swept) swept

      count : length (end_fates first s swept) ≡ n
      count = length-ends first swept

      long : length named ≡ length before
      long = length_over (end_fates first s swept) swept (omega (arith, count, length-swept before)) ∙ length-swept before

      named_at : (k : ℕ) → k < n → get_or named k RepeatedLabel ≡ steps.named_of (swept_by k) (end_at first k)
      named_at k h =
          over_first (end_fates first s swept) swept k RepeatedLabel (omega (arith, count))
          ∙ get_or_up (end_fate first (see_at s) swept) 0 n k RepeatedLabel h ∙ ap (end_fate first (see_at s) swept) (zero-add k)
          ∙ ap₂ (λ (x : Fate) (y : ℕ). steps.named_of x (first + y)) (swept_at before r k h)
          (nearest_same (λ (j : ℕ). steps.is_end (see_at s) j (get_or swept j RepeatedLabel)) (λ (j : ℕ). among j (left₂ s) && terminal (see_at s j)) k
          (λ j b. ap (λ (x : Bool). x && terminal (see_at s j)) (ap steps.reached (swept_at before r j (omega arith)) ∙ reached_by (level_at s j))))

-- what the bytes show at a position is what the cell there is, also behind the end
pub see_same : (s : List ℕ) → length s % 16 ≡ 0 → see_at s ≡ see_in (cells s)
see_same s e = fun_ext λ k. ap view (same k)
  where
    same : (k : ℕ) → cell_at s k ≡ get_or (cells s) k []
    same k = by_test (ltb k (length s / 16))
        (λ y. sym (cell_at_lem s k (ltb-true k (length s / 16) y)))
        (λ y.
        let h : length s / 16 ≤ k = ltb-false k (length s / 16) y in
        ap (take 16) (drop_of_length-le s {i = 16 * k} (omega arith)) ∙ sym (past (cells s) k (omega (arith, length-cells s))))
      where
        past : (cs : List Cell) (j : ℕ) → length cs ≤ j → get_or cs j [] ≡ []
        past [] j l = refl
        past (c ∷ cs) zero l = absurd (not-suc-le-zero l)
        past (c ∷ cs) (suc j) l = past cs j (le_of_suc-le-suc l)

pub fates_same : (s : List ℕ) (first : ℕ) → length s % 16 ≡ 0 → map (code_fate (see_at s) (length s / 16) first) (up_from 0 (length s / 16)) ≡ code_fates first (cells s)
unfolding code_fates
fates_same s first e = ap₂ (λ (see : ℕ → Ins) (m : ℕ). map (code_fate see m first) (up_from 0 m)) (see_same s e) (sym (length-cells s))

-- ---- what the three steps leave

survived : {s l₀ l : List ℕ} {m : ℕ} → Survive s l₀ l m → take m l ≡ left₄ s
survived {s} {l₀} {l} {m} v = rw (v.count, v.list) (over-take (left₄ s) _)

pub judgeable : {s l₀ l : List ℕ} {m first : ℕ} (fates₀ : List Fate) {fates₁ fates : List Fate} → CodePart s first → length s / 16 ≤ length fates₀
    → Survive s l₀ l m → fates₁ ≡ swept_fates s fates₀ → fates ≡ over (end_fates first s fates₁) fates₁ → Judgeable s (take m l) fates
judgeable {s} {l₀} {l} {m} {first} fates₀ {fates₁} {fates} p r v e f =
    let z = after_sweeps s l₀ l m v in
    let n : length fates₁ ≡ length fates₀ = ap length e ∙ length-swept s fates₀ in
    record {
      part = record { even = p.even; few = p.few; in_range = p.in_range; near = omega arith };
      below = z.below;
      room = omega (arith, ap length f, length_over (end_fates first s fates₁) fates₁ (omega (arith, length-ends s first fates₁)));
    }

pub code_listed : {s l₀ l : List ℕ} {m first : ℕ} (fates₀ : List Fate) {fates₁ fates₂ fates : List Fate} → CodePart s first → length s / 16 ≤ length fates₀
    → Survive s l₀ l m → fates₁ ≡ swept_fates s fates₀ → fates₂ ≡ over (end_fates first s fates₁) fates₁ → fates ≡ placed (take m l) (fold_fates (see_at s) unknown (take m l)) fates₂
    → fates ≡ over (code_fates first (cells s)) fates₀
code_listed {s} {l₀} {l} {m} {first} fates₀ {fates₁} {fates₂} {fates} p r v e f j =
    fates_are s first fates₀ fates r
    (j ∙ ap₂ (λ (a : List ℕ) (b : List Fate). placed a (fold_fates (see_at s) unknown a) b) (survived v) (f ∙ ap (λ (k : List Fate). over (end_fates first s k) k) e))
    ∙ ap (λ (xs : List Fate). over xs fates₀) (fates_same s first p.even)

-- ---- all cells of a function

pub length_code_fates : (first : ℕ) (cs : List Cell) → length (code_fates first cs) ≡ length cs
unfolding code_fates
length_code_fates first cs = length-map (up_from 0 (length cs)) (code_fate (see_in cs) (length cs) first) ∙ length_up_from 0 (length cs)

pub length_fates : (first : ℕ) (cs es : List Cell) → length (function_fates first cs es) ≡ length cs + length es
unfolding function_fates event_fates
length_fates first cs es = length-append (code_fates first cs) (event_fates cs es) ∙ ap₂ ◌+◌ (length_code_fates first cs) (length-map es (event_fate cs))

-- the events' fates stand behind the instructions'
pub both-listed : (first : ℕ) (cs es : List Cell) {a : ℕ} (before : List Fate) {out part : List Fate} → length cs ≡ a → a ≤ length before
    → out ≡ over (code_fates first cs) before → part ≡ over (event_fates cs es) (take (length out - a) (drop a out))
    → take a out ++ (part ++ drop (length out - a) (drop a out)) ≡ over (function_fates first cs es) before
unfolding function_fates
both-listed first cs es {a} before {out} {part} l h e f =
    let c : length (code_fates first cs) ≡ a = length_code_fates first cs ∙ l in
    over-part (code_fates first cs) (event_fates cs es) before out part a c (omega (arith, ap length e, length_over (code_fates first cs) before (omega arith))) e f
