-- `events::by_sites` meets its contract.
use mathlib.Core.Path.{◌∙◌}
use mathlib.Core.List.{map}
use native.Mathlib.Omega.{arith}
use Rattle.cells.specs.Cells.{cells}
use Rattle.fates.specs.Steps.{spared_fate}
use Rattle.fates.proofs.Filling.{filled_start}
use Rattle.fates.proofs.Sparing.{spared-next, spared_end}
use Rattle.fates.proofs.events.by_sites.Goals as goal
use Rattle.fates.proofs.events.by_sites.Goals.{then-is_spared, else-is_spared}

pub loop-i-init : goal.loop-i-init
loop-i-init c = filled_start c.args.fates.now (map (spared_fate c.args.activations.now c.args.writes.now) (cells c.args.events.now))

pub returns : goal.returns
returns c = spared_end c.args.activations.now c.args.writes.now c.args.events.now c.loop-i.invariant (omega arith)

pub loop-i-preserved : goal.loop-i-preserved
loop-i-preserved c =
    let a = c.args in
    spared-next a.activations.now a.writes.now a.events.now c.loop-i.invariant c.loop-i-test.true c.requires
    (elim c.if-is_spared.branch [
      | then-is_spared w ↦ w.fates-is ∙ rw (← c.is_spared.ensures, w.if-is_spared.true)
      | else-is_spared w ↦ w.fates-is ∙ rw (← c.is_spared.ensures, w.if-is_spared.false)
    ])
