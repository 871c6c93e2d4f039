-- `passes::clean_functions` meets its contract.
use mathlib.Core.Path.{ap, ◌∙◌}
use Prim.Native.Nat.{◌+◌, ◌/◌, ◌≤◌}
use native.Mathlib.Omega.{arith}
use lib.ListN.{length}
use Rattle.cells.specs.Check.{max_image}
use Rattle.cells.specs.declared.walk.Functions.{Functions}
use Rattle.passes.proofs.WholeImage.{short_image, walked_start, room, turn_few, walked_next, walked_end}
use Rattle.passes.proofs.clean_functions.Goals as goal
use Rattle.passes.proofs.clean_functions.Goals.{After-clean-report}

pub loop-function-init : goal.loop-function-init
loop-function-init c =
    walked_start c.args.image.now c.args.out.now c.requires.0
    (ap (λ (it : Functions). it.0.now) c.into_iter-function-iterator.ensures.into_iter_gives ∙ c.of-function-items.ensures)

pub clean-report-requires : goal.clean-report-requires
clean-report-requires c =
    let f = c.in-Some.function in
    room c.loop-function.invariant c.next.new.self.0.now f.head.now f.code.now f.events.now c.in-Some.ensures.steps f.code_even f.events_even c.requires.1

-- once a function is written: what it takes and counts
few-at : (c : After-clean-report)
    → (c.loop-function.written.cells + (1 + c.clean-report.result.instructions + c.clean-report.result.events) ≤ length c.args.image.now / 16)
    × (c.loop-function.written.rewrites + c.clean-report.result.rewrites ≤ length c.args.image.now / 16) × (length c.args.image.now ≤ max_image)
few-at c =
    let f = c.in-Some.function in
    let t = turn_few c.loop-function.invariant c.next.new.self.0.now f.head.now f.code.now f.events.now c.in-Some.ensures.steps f.code_even f.events_even c.requires.1 _ c.clean-report.result c.clean-report.ensures in
    (omega (arith, t.0), omega (arith, t.1), short_image c.args.image.now c.requires.0)

pub overflow_add-written : goal.overflow_add-written
overflow_add-written c = omega (arith, few-at (goal.at.overflow_add-written c).After-clean-report)

pub overflow_add-written-in-loop-function : goal.overflow_add-written-in-loop-function
overflow_add-written-in-loop-function c = omega (arith, few-at (goal.at.overflow_add-written-in-loop-function c).After-clean-report)

pub overflow_add-written-in-loop-function-2 : goal.overflow_add-written-in-loop-function-2
overflow_add-written-in-loop-function-2 c = omega (arith, few-at (goal.at.overflow_add-written-in-loop-function-2 c).After-clean-report)

pub overflow_add-written-in-loop-function-3 : goal.overflow_add-written-in-loop-function-3
overflow_add-written-in-loop-function-3 c = omega (arith, few-at (goal.at.overflow_add-written-in-loop-function-3 c).After-clean-report)

pub loop-function-preserved : goal.loop-function-preserved
loop-function-preserved c =
    let f = c.in-Some.function in
    walked_next c.loop-function.invariant c.next.new.self.0.now f.head.now f.code.now f.events.now c.in-Some.ensures.steps f.code_even f.events_even c.requires.1 _ c.clean-report.result c.clean-report.ensures

pub returns : goal.returns
returns c = walked_end c.args.image.now c.args.out.now c.loop-function.out c.loop-function.function-iterator.0.now c.loop-function.written c.loop-function.invariant c.in-None.ensures.steps.0
