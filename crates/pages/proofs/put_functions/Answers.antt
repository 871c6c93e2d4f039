-- `pages::put_functions` meets its contract.
use mathlib.Core.Path.{ap, ◌∙◌}
use native.Mathlib.Omega.{arith}
use Rattle.cells.specs.declared.walk.Functions.{Functions}
use Rattle.cells.proofs.Walking.{head_taken}
use Rattle.image.proofs.Good.{site-good}
use Rattle.pages.proofs.Laying.{laying_start, laying_room, laying_next, laying_end}
use Rattle.pages.proofs.put_functions.Goals as goal

pub loop-f-init : goal.loop-f-init
loop-f-init c =
    laying_start c.args.image.now c.args.text.now _ ((site-good c.args.image.now).0 c.requires.0) (ap (λ (it : Functions). it.0.now) c.into_iter-f-iterator.ensures.into_iter_gives ∙ c.of-f-items.ensures)

pub put_function-to-requires : goal.put_function-to-requires
put_function-to-requires c =
    let f = c.in-Some.f in
    let x = c.in-Some.ensures.steps in (
      head_taken c.loop-f.f-iterator.0.now c.next.new.self.0.now f.head.now f.code.now f.events.now x,
      laying_room c.loop-f.invariant c.next.new.self.0.now f.head.now f.code.now f.events.now x c.requires.1,
    )

pub loop-f-preserved : goal.loop-f-preserved
loop-f-preserved c =
    let f = c.in-Some.f in
    let v = c.put_function-to in
    laying_next c.loop-f.invariant c.next.new.self.0.now f.head.now f.code.now f.events.now c.in-Some.ensures.steps c.requires.1 v.ensures (omega (arith, v.auto))

pub returns : goal.returns
returns c = laying_end c.loop-f.invariant c.in-None.ensures.steps.0
