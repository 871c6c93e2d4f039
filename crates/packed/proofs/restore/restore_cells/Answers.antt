-- `packed::restore::restore_cells` meets its contract.
use mathlib.Core.Path.{◌≡◌, refl, ap, ◌∙◌}
use mathlib.Core.List.{List}
use Prim.Native.Nat.{ℕ, ◌+◌, ◌-◌, ◌≤◌, ◌<◌}
use native.Mathlib.Omega.{arith}
use lib.ListN.{length, take, drop, length-drop}
use Rattle.cells.specs.Bytes.{half as half_of}
use Rattle.packed.specs.Form.{Code, Event}
use Rattle.packed.specs.Reading.{padded}
use Rattle.packed.specs.Steps.{cells_of, sizes_of, put_restored}
use Rattle.packed.proofs.Puts.{rest_is}
use Rattle.packed.proofs.Turns.{Put-part}
use Rattle.packed.proofs.Runs.{Restoring, restoring_none, Function-left, restoring_function, behind_head, behind_code, head-written, first_room, code_room, second_room, event_room, function-written}
use Rattle.packed.proofs.restore.restore_cells.Goals as goal
use Rattle.packed.proofs.restore.restore_cells.Goals.{After-half-events, After-slice_known-in-loop-to-2-1, After-slice_known-in-loop-to-3-1}

pub loop-to-init : goal.loop-to-init
loop-to-init c =
    (refl, omega arith, omega arith, restoring_none c.args.packed.now c.args.out.now c.requires)

-- a turn, by the values at its start: the bytes given, the output, the bytes read and the bytes written
module _ (s out : List ℕ) (at to : ℕ) (r : Restoring s out at to) (more : to < length out) where
  -- the function at the start of the bytes that are left, by its head
  left : Function-left s out at to (half_of (drop at s) 3) (half_of (drop at s) 5)
  left = restoring_function s out at to r more

  -- and by both counts, as they were read
  function : (n m : ℕ) → n ≡ half_of (take (length s - at) (drop at s)) 3 → m ≡ half_of (take (length s - at) (drop at s)) 5 → Function-left s out at to n m
  function n m i j =
      let e = ap (λ (t : List ℕ). half_of t 3) (rest_is s at) in
      let f = ap (λ (t : List ℕ). half_of t 5) (rest_is s at) in
      rw (i ∙ e, j ∙ f) left

  -- its head, as it was written
  head : {part : List ℕ} → part ≡ put_restored (take (length s - at) (drop at s)) 7 (take (length out - to) (drop to out)) → Put-part out part (padded (take 7 (drop at s))) to 16
  head e = head-written s out _ at to left.there (omega (arith, left.room)) e

-- with both counts: the function, its head, and the bytes behind it
function_of : (c : After-half-events) → Function-left c.args.packed.now c.loop-to.out c.loop-to.at c.loop-to.to c.half-code.result c.half-events.result
function_of c =
    let l = c.loop-to in
    function c.args.packed.now l.out l.at l.to l.invariant.3 c.loop-to-test.true _ _ c.half-code.ensures.0 c.half-events.ensures.0

head_of : (c : After-half-events) → Put-part c.loop-to.out c.put_restored.new.out (padded (take 7 (drop c.loop-to.at c.args.packed.now))) c.loop-to.to 16
head_of c = let l = c.loop-to in head c.args.packed.now l.out l.at l.to l.invariant.3 c.loop-to-test.true c.put_restored.ensures

past_head : (c : After-half-events) → c.loop-to.at + 7 ≤ length c.args.packed.now
past_head c = omega (arith, (function_of c).there, length-drop c.loop-to.at c.args.packed.now)

pub put_restored-requires : goal.put_restored-requires
put_restored-requires c =
    let s = c.args.packed.now in
    let l = c.loop-to in
    let f = left s l.out l.at l.to l.invariant.3 c.loop-to-test.true in
    (rw (rest_is s l.at) f.there, omega arith, rw (rest_is l.out l.to) (omega (arith, f.room, length-drop l.to l.out)))

pub half-code-requires : goal.half-code-requires
half-code-requires c =
    let s = c.args.packed.now in
    let l = c.loop-to in
    rw (rest_is s l.at) (omega (arith, (left s l.out l.at l.to l.invariant.3 c.loop-to-test.true).there))

pub half-events-requires : goal.half-events-requires
half-events-requires c =
    let s = c.args.packed.now in
    let l = c.loop-to in
    rw (rest_is s l.at) (left s l.out l.at l.to l.invariant.3 c.loop-to-test.true).there

pub restore_code-at-requires : goal.restore_code-at-requires
restore_code-at-requires c =
    let s = c.args.packed.now in
    let l = c.loop-to in
    let f = function_of (goal.at.restore_code-at-requires c).After-half-events in
    (rw (rest_is s (l.at + 7)) f.code_fits, code_room s l.out l.at l.to _ _ f _ (head_of (goal.at.restore_code-at-requires c).After-half-events))

-- behind the instructions: how many bytes they took, and their cells
module _ (s : List ℕ) (at n : ℕ) where
  took : {k : ℕ} → k ≡ sizes_of Code n (take (length s - (at + 7)) (drop (at + 7) s)) → k ≡ sizes_of Code n (behind_head s at)
  took e = e ∙ ap (sizes_of Code n) (rest_is s (at + 7))

  code-cells : {b : List ℕ} → b ≡ cells_of Code n (take (length s - (at + 7)) (drop (at + 7) s)) → b ≡ cells_of Code n (behind_head s at)
  code-cells e = e ∙ ap (cells_of Code n) (rest_is s (at + 7))

  -- behind the events
  events_at : (k : ℕ) → k ≡ sizes_of Code n (take (length s - (at + 7)) (drop (at + 7) s))
      → take (length s - (at + 7 + k)) (drop (at + 7 + k) s) ≡ behind_code s at n
  events_at k e = rest_is s (at + 7 + k) ∙ ap (λ (j : ℕ). drop (at + 7 + j) s) (took e)

past_code : (c : After-slice_known-in-loop-to-2-1) → c.loop-to.at + 7 + c.restore_code-at.result ≤ length c.args.packed.now
past_code c =
    let s = c.args.packed.now in
    let l = c.loop-to in
    let f = function s l.out l.at l.to l.invariant.3 c.loop-to-test.true _ _ c.half-code.ensures.0 c.half-events.ensures.0 in
    omega (arith, took s l.at c.half-code.result c.restore_code-at.ensures.1, f.there, f.code_fits, length-drop l.at s, length-drop (l.at + 7) s)

pub restore_events-at-requires : goal.restore_events-at-requires
restore_events-at-requires c =
    let s = c.args.packed.now in
    let l = c.loop-to in
    let n = c.half-code.result in
    let f = function_of (goal.at.restore_events-at-requires c).After-half-events in
    let h = head_of (goal.at.restore_events-at-requires c).After-half-events in (
      rw (rest_is s (l.at + 7 + c.restore_code-at.result), took s l.at n c.restore_code-at.ensures.1) f.event_fits,
      event_room s l.out l.at l.to _ _ f _ h _ (code-cells s l.at n c.restore_code-at.ensures.0),
    )

events-took : (c : After-slice_known-in-loop-to-3-1) → c.restore_events-at.result ≡ sizes_of Event c.half-events.result (behind_code c.args.packed.now c.loop-to.at c.half-code.result)
events-took c = c.restore_events-at.ensures.1 ∙ ap (sizes_of Event c.half-events.result) (events_at c.args.packed.now c.loop-to.at c.half-code.result _ c.restore_code-at.ensures.1)

past-all : (c : After-slice_known-in-loop-to-3-1) → c.loop-to.at + 7 + c.restore_code-at.result + c.restore_events-at.result ≤ length c.args.packed.now
past-all c =
    let s = c.args.packed.now in
    let l = c.loop-to in
    let n = c.half-code.result in
    let f = function s l.out l.at l.to l.invariant.3 c.loop-to-test.true _ _ c.half-code.ensures.0 c.half-events.ensures.0 in
    omega (arith, events-took c, took s l.at n c.restore_code-at.ensures.1, f.there, f.code_fits, f.event_fits, length-drop l.at s, length-drop (l.at + 7) s, length-drop (l.at + 7 + sizes_of Code n (behind_head s l.at)) s)

pub loop-to-preserved : goal.loop-to-preserved
loop-to-preserved c =
    let s = c.args.packed.now in
    let l = c.loop-to in
    let n = c.half-code.result in
    let f = function_of (goal.at.loop-to-preserved c).After-half-events in
    let h = head_of (goal.at.loop-to-preserved c).After-half-events in
    let (same, k) = function-written s l.out l.at l.to _ _ f _ h _ (code-cells s l.at n c.restore_code-at.ensures.0) _
    (c.restore_events-at.ensures.0 ∙ ap (cells_of Event c.half-events.result) (events_at s l.at n _ c.restore_code-at.ensures.1)) in
    (same ∙ l.invariant.0, omega (arith, k.long), past-all c, rw (events-took c, took s l.at n c.restore_code-at.ensures.1) k)

pub slice_bounds-restore_code-count : goal.slice_bounds-restore_code-count
slice_bounds-restore_code-count c = past_head c

pub slice_bounds-restore_code-start : goal.slice_bounds-restore_code-start
slice_bounds-restore_code-start c = past_head c

pub slice_bounds-restore_code-end-in-loop-to : goal.slice_bounds-restore_code-end-in-loop-to
slice_bounds-restore_code-end-in-loop-to c =
    let l = c.loop-to in
    first_room c.args.packed.now l.out l.at l.to _ _ (function_of (goal.at.slice_bounds-restore_code-end-in-loop-to c).After-half-events) _
    (head_of (goal.at.slice_bounds-restore_code-end-in-loop-to c).After-half-events)

pub overflow_add-at-in-loop-to : goal.overflow_add-at-in-loop-to
overflow_add-at-in-loop-to c = omega (arith, past_code c)

pub slice_bounds-restore_events-count : goal.slice_bounds-restore_events-count
slice_bounds-restore_events-count c = past_code c

pub slice_bounds-restore_events-start : goal.slice_bounds-restore_events-start
slice_bounds-restore_events-start c = past_code c

pub slice_bounds-restore_events-end-in-loop-to : goal.slice_bounds-restore_events-end-in-loop-to
slice_bounds-restore_events-end-in-loop-to c =
    let s = c.args.packed.now in
    let l = c.loop-to in
    second_room s l.out l.at l.to _ _ (function_of (goal.at.slice_bounds-restore_events-end-in-loop-to c).After-half-events) _
    (head_of (goal.at.slice_bounds-restore_events-end-in-loop-to c).After-half-events) _ (code-cells s l.at c.half-code.result c.restore_code-at.ensures.0)

pub overflow_add-at-in-loop-to-2 : goal.overflow_add-at-in-loop-to-2
overflow_add-at-in-loop-to-2 c = omega (arith, past-all c)
