-- The loops that give cells their fates by the sweeps.
use mathlib.Core.Path.{◌≡◌, sym, ◌∙◌, ap, ap₂}
use mathlib.Core.Bool.{Bool, cond}
use mathlib.Core.List.{List, ◌++◌, map}
use Rattle.std.proofs.lemmas.List.{take-append-le}
use Prim.Native.Nat.{ℕ, ◌+◌, ◌≤◌, ◌<◌}
use native.Mathlib.Omega.{arith}
use native.Mathlib.Numerals.{add-one}
use native.Mathlib.Nat.{zero-add}
use lib.ListN.{length, get_or, set, take, drop, length-set, length-map, drop_of_length-le}
use Rattle.cells.specs.Cells.{over, Put}
use Rattle.cells.proofs.Facts.{by_test}
use Rattle.cells.specs.Ins.{Ins}
use Rattle.cells.proofs.Lists.{sub_all, all_each}
use Rattle.cells.proofs.Going.{put_first, put_room}
use Rattle.cleanup.specs.ByState.{goes_by, after_by, stays_by}
use Rattle.cleanup.specs.Positions.{up_from, AllBelow}
use Rattle.cleanup.specs.declared.marks.Seen.{Seen}
use Rattle.cleanup.proofs.Sweeping.{sub_remaining}
use Rattle.cleanup.proofs.Turns.{drop_first}
use Rattle.cleanup.proofs.Positions.{length_up_from}
use Rattle.cleanup.proofs.Stages.{Stage, stage_first}
use Rattle.fates.specs.Fates.{nearest_below}
use Rattle.fates.specs.Steps.{marked, is_end, named_of, end_fate}
use Rattle.fates.specs.declared.Fate.{Fate}
use Rattle.fates.specs.declared.Fate.TheVariants.{RepeatedLabel}
use Rattle.fates.proofs.Lists.{get_or_up}
use Rattle.fates.proofs.Filling.{Filled, filled_start, filled_read, filled_next, filled_end}

-- i positions of a list are marked
pub record MarkedTo (x : Fate) (list : List ℕ) (l₀ l : List Fate) (i : ℕ) : Type 0 where
  pub long : length l ≡ length l₀
  pub rest : marked x (drop i list) l ≡ marked x list l₀

module _ {x : Fate} {list : List ℕ} {l₀ l : List Fate} {i : ℕ} (m : MarkedTo x list l₀ l i) where
  pub marked_next : i < length list → MarkedTo x list l₀ (set l (get_or list i 0) x) (i + 1)
  marked_next h = record {
    long = length-set l (get_or list i 0) x ∙ m.long;
    rest = sym (ap (λ (p : List ℕ). marked x p l) (drop_first list i h)) ∙ m.rest;
  }

  pub marked_end : length list ≤ i → l ≡ marked x list l₀
  marked_end h = sym (ap (λ (p : List ℕ). marked x p l) (drop_of_length-le list h)) ∙ m.rest

-- ---- the ends: i of n cells are named by theirs, and `end` is what is told of an unreachable one at i
pub record NamedTo (first : ℕ) (see : ℕ → Ins) (n : ℕ) (fates₀ fates : List Fate) (end i : ℕ) : Type 0 where
  pub filled : Filled fates₀ (map (end_fate first see fates₀) (up_from 0 n)) fates i
  pub ends : end ≡ first + nearest_below (λ (j : ℕ). is_end see j (get_or fates₀ j RepeatedLabel)) i
  pub near : end ≤ first + i

pub named_start : (first : ℕ) (see : ℕ → Ins) (n : ℕ) (fates : List Fate) → NamedTo first see n fates fates first 0
named_start first see n fates = record {
  filled = filled_start fates (map (end_fate first see fates) (up_from 0 n));
  ends = omega arith;
  near = omega arith;
}

module _ {first : ℕ} {see : ℕ → Ins} {n : ℕ} {fates₀ fates : List Fate} {end i : ℕ} (m : NamedTo first see n fates₀ fates end i) where
  abbrev ends_all : List Fate
  ends_all = map (end_fate first see fates₀) (up_from 0 n)

  count : length ends_all ≡ n
  count = length-map (up_from 0 n) (end_fate first see fates₀) ∙ length_up_from 0 n

  pub named-next : i < n → n ≤ length fates₀ → {y x : Fate} {end' : ℕ} → y ≡ get_or fates i RepeatedLabel → x ≡ named_of y end → end' ≡ cond (is_end see i y) (first + i) end
      → NamedTo first see n fates₀ (set fates i x) end' (i + 1)
  named-next h r {y} {x} {end'} b e f =
      let z : y ≡ get_or fates₀ i RepeatedLabel = b ∙ filled_read m.filled RepeatedLabel in
      let g : end' ≡ cond (is_end see i (get_or fates₀ i RepeatedLabel)) (first + i) end = f ∙ ap (λ (u : Fate). cond (is_end see i u) (first + i) end) z in
      record {
        filled = filled_next m.filled RepeatedLabel (omega (arith, count)) (omega (arith, count))
            (e ∙ ap₂ named_of z m.ends ∙ sym (get_or_up (end_fate first see fates₀) 0 n i RepeatedLabel h ∙ ap (end_fate first see fates₀) (zero-add i)));
        ends = by_test (is_end see i (get_or fates₀ i RepeatedLabel))
            (λ t. g ∙ rw (add-one, t))
            (λ t. g ∙ rw (add-one, t) m.ends);
        near = by_test (is_end see i (get_or fates₀ i RepeatedLabel))
            (λ t. let w : end' ≡ first + i = g ∙ rw t in omega arith)
            (λ t. let w : end' ≡ end = g ∙ rw t in omega (arith, m.near));
      }

  pub named_end : n ≤ i → fates ≡ over ends_all fates₀
  named_end h = filled_end m.filled (omega (arith, count))

-- ---- one sweep, whichever

-- what it leaves can be marked
pub sweep_below : {S : Type 0} (seen : ℕ → Seen) (goes : S → Seen → Seen → Bool) (after : Seen → S) (rule : S) {list l : List ℕ} {r : ℕ} {m : ℕ} (k : ℕ) → AllBelow m list → m ≤ k
    → Put (stays_by seen goes after rule list) list l r → AllBelow k (take r l)
sweep_below seen goes after rule {list} {l} {r} {m} k b h p =
    rw (put_first p) (all_each (λ (j : ℕ). j < m) (λ (j : ℕ). j < k) (λ j c. omega arith) (stays_by seen goes after rule list)
    (sub_all (λ (j : ℕ). j < m) (sub_remaining (goes_by seen goes after) (after_by seen goes after) rule list) b))

-- from sweep to sweep, as cleanup's positions go (cleanup/proofs/Stages)
pub stage_marks : {m : ℕ} {under p l : List ℕ} {n k : ℕ} → Stage m under p l n → m ≤ k → AllBelow k (take n l)
stage_marks {m} {under} {p} {l} {n} {k} s h =
    rw (stage_first s) (all_each (λ (j : ℕ). j < m) (λ (j : ℕ). j < k) (λ j b. omega arith) p s.below)

pub sweep_marks : {m : ℕ} {under p q xs : List ℕ} {r : ℕ} (x : Fate) (l : List ℕ) (n : ℕ) (k₀ : List Fate) → Stage m under p (q ++ drop n l) r → Put xs (take n l) q r → {k : List Fate} → k ≡ marked x xs k₀ → k ≡ marked x p k₀
sweep_marks {m} {under} {p} {q} {xs} {r} x l n k₀ s u {k} e =
    e ∙ ap (λ (y : List ℕ). marked x y k₀) (sym (put_first u) ∙ sym (take-append-le r q (drop n l) (put_room u)) ∙ stage_first s)
