-- A list of positions from sweep to sweep. Each sweep leaves elements out, so what holds of all elements holds of those that it leaves.
use Rattle.std.specs.Prelude.{None}
use mathlib.Core.Path.{◌≡◌, sym, ◌∙◌, ap, ap₂}
use mathlib.Core.Bool.{Bool, false}
use mathlib.Core.List.{List, ◌++◌, append_assoc, append-nil}
use Prim.Native.Nat.{ℕ, ◌/◌, ◌≤◌, ◌<◌}
use native.Mathlib.Omega.{arith}
use lib.ListN.{length, take, drop, length-take, drop_of_length-le}
use Rattle.std.proofs.lemmas.List.{drop-append-le, take-append-drop}
use Rattle.cells.specs.Cells.{over, Put}
use Rattle.cells.proofs.Lists.{Sub, sub_all, sub_length}
use Rattle.cells.proofs.Over.{over-take, length_over}
use Rattle.cleanup.specs.ByState.{label_goes, after_label, unreachable_goes, after_end, jump_goes, load_goes, goes_by, after_by, stays_by}
use Rattle.cleanup.specs.Positions.{see_at, up_from, AllBelow}
use Rattle.cleanup.specs.Reading.{seen_at}
use Rattle.cleanup.specs.Sweeps.{remove_duplicate_consecutive_labels, remove_unreachable_until_label, remove_noop_jumps, remove_redundant_consecutive_loads}
use Rattle.cleanup.specs.declared.marks.Seen.{Seen}
use Rattle.cleanup.specs.declared.sweeps.Jumps.{Jumps}
use Rattle.cleanup.specs.declared.sweeps.Loads.{Loads}
use Rattle.cleanup.proofs.Marking.{read_at, by_labels, by_unreachable, by_jumps, by_loads}
use Rattle.cleanup.proofs.Sweeping.{sub_remaining}
use Rattle.cleanup.proofs.Positions.{length_up_from, below_all}

-- over a whole list, and over its first n
pub over_whole : (xs l : List ℕ) → length xs ≡ length l → over xs l ≡ xs
unfolding over
over_whole xs l e =
    let h : length l ≤ length xs = omega arith in
    ap (λ (t : List ℕ). xs ++ t) (drop_of_length-le l h) ∙ append-nil xs

pub over_front : (xs l : List ℕ) (n : ℕ) → length xs ≤ n → n ≤ length l → over xs (take n l) ++ drop n l ≡ over xs l
unfolding over
over_front xs l n h r =
    let k : length xs ≤ length (take n l) = omega (arith, length-take n l) in
    append_assoc xs (drop (length xs) (take n l)) (drop n l)
    ∙ ap (λ (t : List ℕ). xs ++ t) (sym (drop-append-le (length xs) (take n l) (drop n l) k) ∙ ap (drop (length xs)) (take-append-drop n l))

-- n positions p stand over the start of an earlier list
pub record Stage (m : ℕ) (under p l : List ℕ) (n : ℕ) : Type 0 where
  pub is : l ≡ over p under
  pub count : n ≡ length p
  pub below : AllBelow m p
  pub room : length p ≤ length under

-- the positions from 0 on over the first m
pub stage_start : (m : ℕ) (under : List ℕ) {q : List ℕ} → m ≤ length under → q ≡ up_from 0 (length (take m under)) → Stage m under (up_from 0 m) (q ++ drop m under) m
unfolding over
stage_start m under {q} h e =
    let k : length (take m under) ≡ m = omega (arith, length-take m under) in
    record {
      is = ap₂ (λ (u : List ℕ) (j : ℕ). u ++ drop j under) (e ∙ ap (up_from 0) k) (sym (length_up_from 0 m));
      count = sym (length_up_from 0 m);
      below = below_all m;
      room = omega (arith, length_up_from 0 m);
    }

module _ {m : ℕ} {under p l : List ℕ} {n : ℕ} (s : Stage m under p l n) where
  pub stage_first : take n l ≡ p
  stage_first = rw (s.count, s.is) (over-take p under)

  pub stage_long : length l ≡ length under
  stage_long = rw s.is (length_over p under s.room)

  pub stage_room : n ≤ length l
  stage_room = omega (arith, stage_long, s.count, s.room)

  pub stage_taken : n ≡ length (take n l)
  stage_taken = omega (arith, length-take n l, stage_room)

  pub stage_below : AllBelow m (take n l)
  stage_below = rw stage_first s.below

  -- a sweep over these
  module _ (seen : ℕ → Seen) {S : Type 0} (goes : S → Seen → Seen → Bool) (after : Seen → S) (start : S) where
    abbrev stays : List ℕ → List ℕ
    stays q = stays_by seen goes after start q

    sub_stays : (q : List ℕ) → Sub (stays q) q
    sub_stays q = sub_remaining (goes_by seen goes after) (after_by seen goes after) start q

    pub stage_next : (pass : List ℕ → List ℕ) → ((q : List ℕ) → stays q ≡ pass q) → {q : List ℕ} {r : ℕ} → Put (stays (take n l)) (take n l) q r → Stage m (over p under) (pass p) (q ++ drop n l) r
    stage_next pass same {q} {r} x =
        let e : stays (take n l) ≡ pass p = ap stays stage_first ∙ same p in
        let sub : Sub (pass p) p = rw (same p) at (sub_stays p) in
        let few : length (stays (take n l)) ≤ n = omega (arith, ap length e, sub_length sub, s.count) in
        record {
          is = ap (λ (t : List ℕ). t ++ drop n l) x.list ∙ over_front (stays (take n l)) l n few stage_room ∙ ap₂ over e s.is;
          count = x.count ∙ ap length e;
          below = sub_all (λ (k : ℕ). k < m) sub s.below;
          room = omega (arith, sub_length sub, length_over p under s.room, s.room);
        }

-- the four
module _ (code : List ℕ) {under p l q : List ℕ} {n r : ℕ} (s : Stage (length code / 16) under p l n) where
  pub after_labels : Put (stays_by (seen_at code) label_goes after_label (record { kept = None }) (take n l)) (take n l) q r
      → Stage (length code / 16) (over p under) (remove_duplicate_consecutive_labels (see_at code) p) (q ++ drop n l) r
  after_labels x = stage_next s (seen_at code) label_goes after_label (record { kept = None }) (remove_duplicate_consecutive_labels (see_at code)) (by_labels (see_at code) (seen_at code) (read_at code)) x

  pub after_unreachable : Put (stays_by (seen_at code) unreachable_goes after_end (record { ended = false }) (take n l)) (take n l) q r
      → Stage (length code / 16) (over p under) (remove_unreachable_until_label (see_at code) p) (q ++ drop n l) r
  after_unreachable x = stage_next s (seen_at code) unreachable_goes after_end (record { ended = false }) (remove_unreachable_until_label (see_at code)) (by_unreachable (see_at code) (seen_at code) (read_at code)) x

  pub after_jumps : {k : Jumps} → Put (stays_by (seen_at code) jump_goes (λ _. record {}) k (take n l)) (take n l) q r
      → Stage (length code / 16) (over p under) (remove_noop_jumps (see_at code) p) (q ++ drop n l) r
  after_jumps {k} x = stage_next s (seen_at code) jump_goes (λ _. record {}) k (remove_noop_jumps (see_at code)) (by_jumps (see_at code) (seen_at code) (read_at code) k) x

  pub after_loads : {k : Loads} → Put (stays_by (seen_at code) load_goes (λ _. record {}) k (take n l)) (take n l) q r
      → Stage (length code / 16) (over p under) (remove_redundant_consecutive_loads (see_at code) p) (q ++ drop n l) r
  after_loads {k} x = stage_next s (seen_at code) load_goes (λ _. record {}) k (remove_redundant_consecutive_loads (see_at code)) (by_loads (see_at code) (seen_at code) (read_at code) k) x
