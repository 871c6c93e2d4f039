-- `packed::restore::check_cells` meets its contract.
use Rattle.std.proofs.lemmas.Result.{err_from_is_err_and}
use mathlib.Core.Path.{◌≡◌, refl, ap, ap₂, sym, subst, ◌∙◌}
use mathlib.Core.List.{List}
use Prim.Native.Nat.{ℕ, ◌+◌, ◌-◌, ◌≤◌, ◌<◌}
use native.Mathlib.Omega.{arith}
use lib.ListN.{length, take, drop}
use Rattle.cells.specs.Bytes.{half as half_of}
use Rattle.packed.specs.Form.{Head, Code, Event}
use Rattle.packed.specs.Steps.{taken_as, taken_run}
use Rattle.packed.proofs.Widths.{head-size}
use Rattle.packed.proofs.Puts.{rest_is}
use Rattle.packed.proofs.Turns.{not-bytes, Went, went}
use Rattle.packed.proofs.Checks.{Ran, ran, Going, going_none, going_end, going_full, head_fault, behind-head, code_fault, behind_code_lem, event_fault, going_function}
use Rattle.packed.proofs.restore.check_cells.Goals as goal
use Rattle.packed.proofs.restore.check_cells.Goals.{In_ok-h, In_ok-k, In_ok-e}
use Rattle.std.specs.Prelude.{Ok}
use Rattle.packed.specs.Answer.{Packing}

pub loop-at-init : goal.loop-at-init
loop-at-init c = let k = going_none c.args.packed.now in (k.within, k.few, k.place, k)

-- what is said of the bytes from a place on, as the code cuts them off
uncut : {A : Type 0} (f : List ℕ → A) (s : List ℕ) (at : ℕ) {x : A} → x ≡ f (take (length s - at) (drop at s)) → x ≡ f (drop at s)
uncut f s at e = e ∙ ap f (rest_is s at)

few : (d : ℕ) → d ≤ 4096 → (d ≡ 4096 → ⊥) → d < 4096
few d l n = omega arith

-- a turn, by the values at its start: the bytes given, the position, the bytes read, and the cells counted
module _ (s : List ℕ) (p at d : ℕ) where
  -- those that are left
  abbrev left_at : List ℕ
  left_at = drop at s

  -- what `check_head` says; and the head was taken
  said-head : {x : Packing} → x ≡ taken_as Head p d (take (length s - at) (drop at s)) → x ≡ taken_as Head p d left_at
  said-head e = uncut (taken_as Head p d) s at e

  head-went : (h : ℕ) {x : Packing} → x ≡ taken_as Head p d (take (length s - at) (drop at s)) → x ≡ Ok h → Went Head p d left_at h
  head-went h e i = went Head p d left_at h (sym i ∙ said-head e)

  -- its counts
  count_is : (j : ℕ) {n : ℕ} → n ≡ half_of (take (length s - at) (drop at s)) j → n ≡ half_of left_at j
  count_is j e = uncut (λ (t : List ℕ). half_of t j) s at e

  -- what `check_code` says; and the instructions were taken
  said-code : (h n : ℕ) {x : Packing} → n ≡ half_of left_at 3 → x ≡ taken_run Code n p (d + 1) (take (length s - (at + h)) (drop (at + h) s))
      → x ≡ taken_run Code (half_of left_at 3) p (d + 1) (drop (at + h) s)
  said-code h n i e = e ∙ ap₂ (λ (j : ℕ) (t : List ℕ). taken_run Code j p (d + 1) t) i (rest_is s (at + h))

  code-ran : (h n k : ℕ) {x : Packing} → n ≡ half_of left_at 3 → x ≡ taken_run Code n p (d + 1) (take (length s - (at + h)) (drop (at + h) s)) → x ≡ Ok k
      → Ran Code (half_of left_at 3) p (d + 1) (drop (at + h) s) k
  code-ran h n k i e z = ran Code (half_of left_at 3) p (d + 1) (drop (at + h) s) k (sym z ∙ said-code h n i e)

  -- what `check_events` says; and they were taken
  said-events : (h n m k : ℕ) {x : Packing} → n ≡ half_of left_at 3 → m ≡ half_of left_at 5
      → x ≡ taken_run Event m p (d + 1 + n) (take (length s - (at + h + k)) (drop (at + h + k) s)) → x ≡ taken_run Event (half_of left_at 5) p (d + 1 + half_of left_at 3) (drop (at + h + k) s)
  said-events h n m k i j e =
      let to : ℕ = at + h + k in
      e ∙ ap₂ (λ (n m : ℕ). taken_run Event m p (d + 1 + n) (take (length s - to) (drop to s))) i j
      ∙ ap (taken_run Event (half_of left_at 5) p (d + 1 + half_of left_at 3)) (rest_is s to)

pub returns-then-cell-eq-MAX_CELLS : goal.returns-then-cell-eq-MAX_CELLS
returns-then-cell-eq-MAX_CELLS c =
    let l = c.loop-at in
    going_full c.args.packed.now l.position l.at l.cell l.invariant.3 c.loop-at-test.true c.if-cell-eq-MAX_CELLS.true

pub returns-in_err-h : goal.returns-in_err-h
returns-in_err-h c =
    let s = c.args.packed.now in
    let l = c.loop-at in
    let p = err_from_is_err_and c.from_residual.result c.from_residual.ensures.1 in
    rw (p.1, p.2)
    (head_fault s l.position l.at l.cell l.invariant.3 c.loop-at-test.true (few l.cell l.invariant.1 c.if-cell-eq-MAX_CELLS.false) _
    (said-head s l.position l.at l.cell (sym c.in_err-h.was ∙ c.check_head.ensures)) (not-bytes refl))

-- past the head
went_head : (c : In_ok-h) → Went Head c.loop-at.position c.loop-at.cell (drop c.loop-at.at c.args.packed.now) c.in_ok-h.h
went_head c = head-went c.args.packed.now c.loop-at.position c.loop-at.at c.loop-at.cell c.in_ok-h.h c.check_head.ensures c.in_ok-h.was

there : (c : In_ok-h) → 7 ≤ length (drop c.loop-at.at c.args.packed.now)
there c = omega (arith, (went_head c).is, (went_head c).fits, head-size (drop c.loop-at.at c.args.packed.now))

past_head : (c : In_ok-h) → c.loop-at.at + c.in_ok-h.h ≤ length c.args.packed.now
past_head c =
    let l = c.loop-at in
    behind-head c.args.packed.now l.position l.at l.cell l.invariant.3 c.loop-at-test.true (few l.cell l.invariant.1 c.if-cell-eq-MAX_CELLS.false) _ (went_head c)

pub returns-in_err-k : goal.returns-in_err-k
returns-in_err-k c =
    let s = c.args.packed.now in
    let l = c.loop-at in
    let n = count_is s l.position l.at l.cell 3 c.half-n.ensures.0 in
    let p = err_from_is_err_and c.from_residual-in_err-k.result c.from_residual-in_err-k.ensures.1 in
    rw (p.1, p.2)
    (code_fault s l.position l.at l.cell l.invariant.3 c.loop-at-test.true (few l.cell l.invariant.1 c.if-cell-eq-MAX_CELLS.false) c.in_ok-h.h
    (went_head (goal.at.returns-in_err-k c).In_ok-h) _ (said-code s l.position l.at l.cell c.in_ok-h.h c.half-n.result n (sym c.in_err-k.was ∙ c.check_run.ensures))
    (not-bytes refl))

-- past the instructions
ran_code : (c : In_ok-k)
    → Ran Code (half_of (drop c.loop-at.at c.args.packed.now) 3) c.loop-at.position (c.loop-at.cell + 1) (drop (c.loop-at.at + c.in_ok-h.h) c.args.packed.now) c.in_ok-k.k
ran_code c =
    let s = c.args.packed.now in
    let l = c.loop-at in
    code-ran s l.position l.at l.cell c.in_ok-h.h c.half-n.result c.in_ok-k.k (count_is s l.position l.at l.cell 3 c.half-n.ensures.0) c.check_run.ensures c.in_ok-k.was

past-code : (c : In_ok-k) → (c.loop-at.at + c.in_ok-h.h + c.in_ok-k.k ≤ length c.args.packed.now)
    × (c.loop-at.cell + 1 + half_of (drop c.loop-at.at c.args.packed.now) 3 ≤ 4096)
past-code c =
    let s = c.args.packed.now in
    let l = c.loop-at in
    behind_code_lem s l.position l.at l.cell l.invariant.3 c.loop-at-test.true (few l.cell l.invariant.1 c.if-cell-eq-MAX_CELLS.false) c.in_ok-h.h
    (head-went s l.position l.at l.cell c.in_ok-h.h c.check_head.ensures c.in_ok-h.was) _ (ran_code c)

pub returns-in_err-e : goal.returns-in_err-e
returns-in_err-e c =
    let s = c.args.packed.now in
    let l = c.loop-at in
    let n = count_is s l.position l.at l.cell 3 c.half-n.ensures.0 in
    let m = count_is s l.position l.at l.cell 5 c.half-m.ensures.0 in
    let p = err_from_is_err_and c.from_residual-in_err-e.result c.from_residual-in_err-e.ensures.1 in
    rw (p.1, p.2)
    (event_fault s l.position l.at l.cell l.invariant.3 c.loop-at-test.true (few l.cell l.invariant.1 c.if-cell-eq-MAX_CELLS.false) c.in_ok-h.h
    (went_head (goal.at.returns-in_err-e c).In_ok-h) _ (ran_code (goal.at.returns-in_err-e c).In_ok-k) _
    (said-events s l.position l.at l.cell c.in_ok-h.h c.half-n.result c.half-m.result c.in_ok-k.k n m (sym c.in_err-e.was ∙ c.check_run-in-loop-at.ensures))
    (not-bytes refl))

-- and past the function
past : (c : In_ok-e)
    → Going c.args.packed.now (c.loop-at.position + 1) (c.loop-at.at + c.in_ok-h.h + c.in_ok-k.k + c.in_ok-e.e) (c.loop-at.cell + 1 + c.half-n.result + c.half-m.result)
past c =
    let s = c.args.packed.now in
    let l = c.loop-at in
    let n = count_is s l.position l.at l.cell 3 c.half-n.ensures.0 in
    let m = count_is s l.position l.at l.cell 5 c.half-m.ensures.0 in
    let v = ran Event (half_of (drop l.at s) 5) l.position (l.cell + 1 + half_of (drop l.at s) 3) (drop (l.at + c.in_ok-h.h + c.in_ok-k.k) s) c.in_ok-e.e
    (sym c.in_ok-e.was ∙ said-events s l.position l.at l.cell c.in_ok-h.h c.half-n.result c.half-m.result c.in_ok-k.k n m c.check_run-in-loop-at.ensures) in
    let to : ℕ = l.at + c.in_ok-h.h + c.in_ok-k.k + c.in_ok-e.e in
    subst (λ (j : ℕ). Going s (l.position + 1) to j) (sym (ap₂ (λ (n m : ℕ). l.cell + 1 + n + m) n m))
    (going_function s l.position l.at l.cell l.invariant.3 c.loop-at-test.true (few l.cell l.invariant.1 c.if-cell-eq-MAX_CELLS.false) c.in_ok-h.h
    (head-went s l.position l.at l.cell c.in_ok-h.h c.check_head.ensures c.in_ok-h.was) _
    (code-ran s l.position l.at l.cell c.in_ok-h.h c.half-n.result c.in_ok-k.k n c.check_run.ensures c.in_ok-k.was) _ v)

pub loop-at-preserved : goal.loop-at-preserved
loop-at-preserved c = let k = past c in (k.within, k.few, k.place, k)

pub returns : goal.returns
returns c =
    let l = c.loop-at in
    going_end c.args.packed.now l.position l.at l.cell l.invariant.3 c.loop-at-test.false

pub half-n-requires : goal.half-n-requires
half-n-requires c = rw (rest_is c.args.packed.now c.loop-at.at) (omega (arith, there (goal.at.half-n-requires c).In_ok-h))

pub half-m-requires : goal.half-m-requires
half-m-requires c = rw (rest_is c.args.packed.now c.loop-at.at) (there (goal.at.half-m-requires c).In_ok-h)

pub overflow_add-at : goal.overflow_add-at
overflow_add-at c = omega (arith, past_head (goal.at.overflow_add-at c).In_ok-h)

pub slice_bounds-check_run-count : goal.slice_bounds-check_run-count
slice_bounds-check_run-count c = omega (arith, past_head (goal.at.slice_bounds-check_run-count c).In_ok-h)

pub slice_bounds-check_run-start : goal.slice_bounds-check_run-start
slice_bounds-check_run-start c = omega (arith, past_head (goal.at.slice_bounds-check_run-start c).In_ok-h)

pub overflow_add-at-in-loop-at : goal.overflow_add-at-in-loop-at
overflow_add-at-in-loop-at c = omega (arith, (past-code c).0)

pub slice_bounds-check_run-count-in-loop-at : goal.slice_bounds-check_run-count-in-loop-at
slice_bounds-check_run-count-in-loop-at c = omega (arith, (past-code c).0)

pub slice_bounds-check_run-start-in-loop-at : goal.slice_bounds-check_run-start-in-loop-at
slice_bounds-check_run-start-in-loop-at c = omega (arith, (past-code c).0)

pub check_run-requires-in-loop-at : goal.check_run-requires-in-loop-at
check_run-requires-in-loop-at c =
    omega (arith, (past-code (goal.at.check_run-requires-in-loop-at c).In_ok-k).1, count_is c.args.packed.now c.loop-at.position c.loop-at.at c.loop-at.cell 3 c.half-n.ensures.0)

pub overflow_add-at-in-loop-at-2 : goal.overflow_add-at-in-loop-at-2
overflow_add-at-in-loop-at-2 c = omega (arith, (past c).within)

pub loop-at-smaller : goal.loop-at-smaller
loop-at-smaller c =
    let w = went_head (goal.at.loop-at-smaller c).In_ok-h in
    omega (arith, (past c).within, there (goal.at.loop-at-smaller c).In_ok-h, w.is, head-size (drop c.loop-at.at c.args.packed.now))
