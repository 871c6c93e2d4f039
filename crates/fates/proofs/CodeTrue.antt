-- What the fate of an instruction cell means.
use Rattle.std.specs.Prelude.{Option, None, Some}
use mathlib.Core.Path.{◌≡◌, refl, sym, ◌∙◌, ap}
use mathlib.Core.Bool.{Bool, true, false, not, true≢false}
use mathlib.Core.List.{List, [], ◌∷◌, ◌++◌, map}
use Prim.Native.Nat.{ℕ, zero, suc, ◌+◌, ◌<◌}
use native.Mathlib.Omega.{arith}
use lib.Dec.{eqb}
use lib.ListN.{length, length-append}
use Rattle.leaves.specs.Verdicts.{value_in}
use Rattle.cells.specs.Cells.{Cell}
use Rattle.cells.specs.Ins.{Const, quad, bool, f64, i32, u32, fx, Ins, label_of, alike}
use Rattle.cells.proofs.Facts.{by_test, clash, and_true, alike_true, alike-none, eqb_true, eqb_false}
use Rattle.cells.proofs.Lists.{all_each}
use Rattle.machine.specs.Values.{written_of}
use Rattle.cleanup.specs.Marks.{terminal, is_there, jump_of, removable_load}
use Rattle.cleanup.specs.Sweeps.{same_label, cut_off, same_next, sweep}
use Rattle.cleanup.specs.Cleanup.{clean_code}
use Rattle.cleanup.specs.Positions.{up_from}
use Rattle.crystalfold.specs.Rules.{default_rules}
use Rattle.crystalfold.specs.Fold.{unknown, dst_of}
use Rattle.crystalfold.specs.CrystalFold.{fold_code}
use Rattle.crystalfold.proofs.FoldCounts.{length-folded}
use Rattle.rewrite.specs.Rewrite.{rewrite_code}
use Rattle.fates.specs.Fates.{among, nearest_below, is_end, nearest_end, left₁, left₂, left₃, left₄, verdict_of, load_of, judged, fold_fate, see_in, code_fate}
use Rattle.fates.specs.Claim.{RepeatedLabelTrue, UnreachableTrue, ByNextTrue, LeftTrue, known_behind, CodeTrue, CodeFatesTrue}
use Rattle.fates.specs.declared.Fate.{Fate}
use Rattle.fates.proofs.Lists.{Above, Increasing, increasing_up, among_up}
use Rattle.fates.proofs.Standing.{among_there, none_between, standing}
use Rattle.fates.proofs.LeftCells.{increasing₁, increasing₂, increasing₃, increasing₄, cell_in, code_left, length-left, folded_to_lem, by_verdict, loaded, fate_behind, cell-behind}
use Rattle.fates.proofs.SweptAway.{Taken, taken, TakenBehind, taken_behind}
use Rattle.leaves.specs.Verdict.{Verdict}

-- the nearest number below k that passes a test
nearest : (test : ℕ → Bool) (k j : ℕ) → j < k → test j ≡ true → ((i : ℕ) → j < i → i < k → test i ≡ false) → nearest_below test k ≡ j
nearest test zero j h y n = absurd (omega arith)
nearest test (suc m) j h y n = by_test (eqb m j)
    (λ e. let s : m ≡ j = eqb_true m j e in rw (s, y))
    (λ e. let l : j < m = omega (arith, eqb_false m j e) in rw (n m l (omega arith)) (nearest test m j l y (λ i u v. n i u (omega arith))))

no_name : (o : Option ℕ) → not (is_there o) ≡ true → o ≡ None
no_name None e = refl
no_name (Some l) e = absurd (true≢false (sym e))

module _ (see : ℕ → Ins) (n : ℕ) where
  -- ---- sweep one

  repeated_label : (k : ℕ) → k < n → among k (left₁ see n) ≡ false → RepeatedLabelTrue see n k
  unfolding left₁
  repeated_label k h g =
      let t = taken_behind (same_label see) (λ (j : ℕ). label_of (see j)) None (λ j q. refl) (up_from 0 n) k (increasing_up 0 n) (among_up k 0 n (omega arith) (omega arith)) g in
      let (l, u, v) = alike_true (label_of (see t.last)) (label_of (see k)) t.by in
      record { gone = g; before = t.before; kept = t.last; behind = t.later; parts = t.parts; earlier = t.earlier; last = t.above; name = l; of_kept = u; of_this = v }

  -- ---- sweep two

  module _ (k : ℕ) (m : among k (left₁ see n) ≡ true) (g : among k (left₂ see n) ≡ false) where
    unreached : TakenBehind (λ (t : Bool) (j : ℕ) (_ : List ℕ). cut_off see t j) (λ (j : ℕ). terminal (see j)) false (left₁ see n) k
    unfolding left₂
    unreached = taken_behind _ _ false (λ j q. refl) (left₁ see n) k (increasing₁ see n) m g

    -- the last that it leaves before ends a run, and what it takes is no label
    cut : (terminal (see unreached.last) ≡ true) × (not (is_there (label_of (see k))) ≡ true)
    cut = and_true (terminal (see unreached.last)) (not (is_there (label_of (see k)))) unreached.by

    no_label : label_of (see k) ≡ None
    no_label = no_name (label_of (see k)) cut.1

    -- it leaves none between the two
    none_left : (j : ℕ) → unreached.last < j → j < k → among j (left₂ see n) ≡ false
    unfolding left₂
    none_left j u v =
        let t = unreached in
        let b : Above j t.later = all_each (λ (x : ℕ). k < x) (λ (x : ℕ). j < x) (λ x h. omega arith) t.later t.above in
        rw t.parts (none_between t.before t.last t.later j (rw t.parts at (increasing₂ see n)) u b)

    last-left : among unreached.last (left₂ see n) ≡ true
    unfolding left₂
    last-left = let t = unreached in rw t.parts (among_there t.last t.before t.later)

    nearest_end_lem : nearest_end see n k ≡ unreached.last
    nearest_end_lem = nearest (is_end see n) k unreached.last unreached.earlier (rw (last-left, cut.0)) (λ j u v. rw (none_left j u v))

  unreachable : (k : ℕ) (m : among k (left₁ see n) ≡ true) (g : among k (left₂ see n) ≡ false) → UnreachableTrue see n k (unreached k m g).last
  unfolding left₂
  unreachable k m g =
      let t = unreached k m g in
      record {
        left = m;
        gone = g;
        before = t.before;
        behind = t.later;
        parts = t.parts;
        earlier = t.earlier;
        last = t.above;
        ends = (cut k m g).0;
        no_label = λ j a u v. no_label j a (none_left k m g j u v);
        of_this = no_label k m g;
      }

  -- ---- sweeps three and four: by the next cell

  by_next : (k : ℕ) (f g : Ins → Option ℕ) (p : List ℕ) → Increasing p → among k p ≡ true → among k (sweep see f g p) ≡ false → ByNextTrue see n k f g p (sweep see f g p)
  by_next k f g p i m e = go t.place.behind t.place.parts t.by
    where
      t : Taken (same_next see f g) (λ (_ : ℕ). tt) tt p k
      t = taken _ _ tt p k i m e

      go : (b : List ℕ) → p ≡ t.place.ahead ++ k ∷ b → same_next see f g tt k b ≡ true → ByNextTrue see n k f g p (sweep see f g p)
      go [] parts y = clash (alike (f (see k)) None) y (alike-none (f (see k)))
      go (j ∷ b) parts y =
          let (l, u, v) = alike_true (f (see k)) (g (see j)) y in
          record { left = m; gone = e; before = t.place.ahead; next = j; behind = b; parts = parts; number = l; of_this = u; of_next = v }

-- ---- the cells that all four leave

module _ (first : ℕ) (cs : List Cell) (k : ℕ) where
  -- what the fate x says of the cell at k, folded to o or kept
  abbrev Says : Fate → Option Const → Type 0
  Says x o = LeftTrue cs k x (loaded (cell_in cs k) (dst_of (see_in cs k)) o) → CodeTrue first cs k x

  of_load : (v : Const) → Says (load_of v) (Some v)
  of_load (quad q) l = record { constant = quad q; is = refl; left = l }
  of_load (bool b) l = record { constant = bool b; is = refl; left = l }
  of_load (f64 m) l = record { constant = f64 m; is = refl; left = l }
  of_load (i32 m) l = record { constant = i32 m; is = refl; left = l }
  of_load (u32 m) l = record { constant = u32 m; is = refl; left = l }
  of_load (fx m) l = record { constant = fx m; is = refl; left = l }

  -- the fold's verdict on it, behind the cells at a
  abbrev verdict_behind : List ℕ → Verdict
  verdict_behind a = verdict_of (known_behind (see_in cs) unknown a) (see_in cs k)

  left_behind : (a b : List ℕ) → left₄ (see_in cs) (length cs) ≡ a ++ k ∷ b → among k (left₄ (see_in cs) (length cs)) ≡ true
      → LeftTrue cs k (judged (verdict_behind a)) (loaded (cell_in cs k) (dst_of (see_in cs k)) (written_of (value_in (verdict_behind a))))
  unfolding rewrite_code fold_code
  left_behind a b parts m =
      let c : clean_code cs ≡ map (cell_in cs) (a ++ k ∷ b) = sym (code_left cs) ∙ ap (map (cell_in cs)) parts in
      record {
        left = m;
        before = a;
        behind = b;
        parts = parts;
        verdict = refl;
        place = omega (arith, length-folded default_rules (clean_code cs), length-left cs, ap length parts, length-append a (k ∷ b));
        stands = rw (c, ← folded_to_lem) (cell-behind (cell_in cs) unknown a k b);
      }

  left-cell : among k (left₄ (see_in cs) (length cs)) ≡ true → CodeTrue first cs k (fold_fate (see_in cs) k unknown (left₄ (see_in cs) (length cs)))
  left-cell m =
      let w = standing k (left₄ (see_in cs) (length cs)) (increasing₄ (see_in cs) (length cs)) m in
      let e = ap (fold_fate (see_in cs) k unknown) w.parts ∙ fate_behind (see_in cs) unknown w.ahead k w.behind w.below in
      rw e (by_verdict Says (λ r l. l) of_load (verdict_behind w.ahead) (left_behind w.ahead w.behind w.parts m))

pub code_true : CodeFatesTrue
unfolding code_fate left₃ left₄
code_true first cs k h = by_test (among k (left₁ see n))
    (λ a. by_test (among k (left₂ see n))
    (λ b. by_test (among k (left₃ see n))
    (λ c. by_test (among k (left₄ see n))
    (λ d. rw (a, b, c, d) (left-cell first cs k d))
    (λ d. rw (a, b, c, d) (by_next see n k removable_load removable_load (left₃ see n) (increasing₃ see n) c d)))
    (λ c. rw (a, b, c) (by_next see n k jump_of label_of (left₂ see n) (increasing₂ see n) b c)))
    (λ b. rw (a, b) ((unreached see n k a b).last, ap (◌+◌ first) (nearest_end_lem see n k a b), unreachable see n k a b)))
    (λ a. rw a (repeated_label see n k h a))
  where
    see : ℕ → Ins
    see = see_in cs

    n : ℕ
    n = length cs
