-- `find` meets its contract.
use mathlib.Core.Path.{ap, ◌∙◌}
use native.Mathlib.Omega.{arith}
use Rattle.cells.specs.declared.walk.Functions.{Functions}
use Rattle.fates.proofs.Finding.{finding_start, finding_end, finding_cell, finding_next, parts_asked, cell_inside}
use Rattle.fates.proofs.find.Goals as goal

pub loop-f-init : goal.loop-f-init
loop-f-init c =
    finding_start c.args.image.now c.args.cell (ap (λ (it : Functions). it.0.now) c.into_iter-f-iterator.ensures.into_iter_gives ∙ c.of-f-items.ensures) c.requires

pub loop-f-preserved : goal.loop-f-preserved
loop-f-preserved c =
    let f = c.in-Some.f in
    finding_next c.loop-f.invariant c.next.new.self.0.now f.head.now f.code.now f.events.now c.in-Some.ensures.steps (omega (arith, c.if-cell-next.false))

pub returns : goal.returns
returns c = finding_end c.loop-f.invariant c.in-None.ensures.steps.0

-- in the function that has the cell
pub fate_in-requires : goal.fate_in-requires
fate_in-requires c =
    let f = c.in-Some.f in (
      parts_asked c.loop-f.invariant c.next.new.self.0.now f.head.now f.code.now f.events.now c.in-Some.ensures.steps f.code_even (omega arith),
      cell_inside c.loop-f.invariant c.next.new.self.0.now f.head.now f.code.now f.events.now c.in-Some.ensures.steps c.if-cell-next.true c.if-cell-at.false,
    )

pub returns-then-cell-next : goal.returns-then-cell-next
returns-then-cell-next c =
    let f = c.in-Some.f in
    finding_cell c.loop-f.invariant c.next.new.self.0.now f.head.now f.code.now f.events.now c.in-Some.ensures.steps c.if-cell-next.true c.if-cell-at.false c.fate_in.ensures
