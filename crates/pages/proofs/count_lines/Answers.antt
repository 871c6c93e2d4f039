-- `pages::count_lines` meets its contract.
use mathlib.Core.Path.{ap, ◌∙◌}
use native.Mathlib.Omega.{arith}
use Rattle.cells.specs.declared.walk.Functions.{Functions}
use Rattle.image.proofs.Good.{site-good}
use Rattle.pages.proofs.Laying.{counted_start, few_cells, counted-most, counted_next, counted_end}
use Rattle.pages.proofs.Lines.{most_lines_lem}
use Rattle.pages.proofs.count_lines.Goals as goal

pub loop-f-init : goal.loop-f-init
loop-f-init c = counted_start c.args.image.now _ (ap (λ (it : Functions). it.0.now) c.into_iter-f-iterator.ensures.into_iter_gives ∙ c.of-f-items.ensures)

pub lines_of-lines-requires : goal.lines_of-lines-requires
lines_of-lines-requires c =
    let f = c.in-Some.f in
    few_cells c.loop-f.invariant c.next.new.self.0.now f.head.now f.code.now f.events.now c.in-Some.ensures.steps ((site-good c.args.image.now).0 c.requires).image.short

pub overflow_add-lines : goal.overflow_add-lines
overflow_add-lines c =
    let f = c.in-Some.f in
    let most = counted-most c.loop-f.invariant c.next.new.self.0.now f.head.now f.code.now f.events.now c.in-Some.ensures.steps ((site-good c.args.image.now).0 c.requires) in
    record { fits = omega (arith, most, c.lines_of-lines.ensures) }

pub loop-f-preserved : goal.loop-f-preserved
loop-f-preserved c =
    let f = c.in-Some.f in
    counted_next c.loop-f.invariant c.next.new.self.0.now f.head.now f.code.now f.events.now c.in-Some.ensures.steps _ c.lines_of-lines.ensures

pub returns : goal.returns
returns c =
    let e = counted_end c.loop-f.invariant c.in-None.ensures.steps.0 in
    (e, omega (arith, e, most_lines_lem c.args.image.now ((site-good c.args.image.now).0 c.requires)))
