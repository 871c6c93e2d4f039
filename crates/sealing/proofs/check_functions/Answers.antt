-- `sealing::check_functions` meets its contract.
use mathlib.Core.Path.{ap, ◌∙◌}
use native.Mathlib.Omega.{arith}
use Rattle.std.proofs.lemmas.Result.{err_from_is_err_and}
use Rattle.cells.specs.declared.walk.Functions.{Functions}
use Rattle.sealing.proofs.Gathering.{gathering_start, gathering_end, own_room, all_few, gathered_fit, gathering_next, gathering_refused}
use Rattle.sealing.proofs.check_functions.Goals as goal

pub loop-function-init : goal.loop-function-init
loop-function-init c =
    gathering_start c.args.w c.args.image.now c.args.numbers.now
    (ap (λ (it : Functions). it.0.now) c.into_iter-function-iterator.ensures.into_iter_gives ∙ c.of-function-items.ensures)

pub collect-found-requires : goal.collect-found-requires
collect-found-requires c =
    let f = c.in-Some.function in
    own_room c.loop-function.invariant c.next.new.self.0.now f.head.now f.code.now f.events.now c.in-Some.ensures.steps c.requires.1

pub overflow_add-all : goal.overflow_add-all
overflow_add-all c =
    let f = c.in-Some.function in
    omega (arith, all_few c.loop-function.invariant c.next.new.self.0.now f.head.now f.code.now f.events.now c.in-Some.ensures.steps c.requires.1 c.collect-found.ensures, c.requires.0)

pub slice_bounds-split_at-end : goal.slice_bounds-split_at-end
slice_bounds-split_at-end c =
    let f = c.in-Some.function in
    (gathered_fit c.loop-function.invariant c.next.new.self.0.now f.head.now f.code.now f.events.now c.in-Some.ensures.steps c.requires.1 c.collect-found.ensures).0

pub slice_bounds-split_at-end-in-loop-function : goal.slice_bounds-split_at-end-in-loop-function
slice_bounds-split_at-end-in-loop-function c =
    let f = c.in-Some.function in
    (gathered_fit c.loop-function.invariant c.next.new.self.0.now f.head.now f.code.now f.events.now c.in-Some.ensures.steps c.requires.1 c.collect-found.ensures).1

pub returns-in_err-check_function : goal.returns-in_err-check_function
returns-in_err-check_function c =
    let f = c.in-Some.function in
    let p = err_from_is_err_and c.from_residual.result c.from_residual.ensures.1 in
    let e =
    gathering_refused c.loop-function.invariant c.next.new.self.0.now f.head.now f.code.now f.events.now c.in-Some.ensures.steps c.requires.1
    c.collect-found.ensures c.check_function.ensures c.split_at.ensures.front c.split_at.ensures.back c.in_err-check_function.was in
    rw (p.1, p.2) (record { value = e.0; numbers_after = e.1 })

pub loop-function-preserved : goal.loop-function-preserved
loop-function-preserved c =
    let f = c.in-Some.function in
    gathering_next c.loop-function.invariant c.next.new.self.0.now f.head.now f.code.now f.events.now c.in-Some.ensures.steps c.requires.1
    c.collect-found.ensures c.check_function.ensures c.split_at.ensures.front c.split_at.ensures.back c.in_ok-check_function.was

pub returns : goal.returns
returns c = let e = gathering_end c.loop-function.invariant c.in-None.ensures.steps.0 in record { value = e.0; numbers_after = e.1 }
