-- `cleanup::events::copy_spared` meets its contract.
use mathlib.Core.Path.{sym, ◌∙◌}
use native.Mathlib.Omega.{arith}
use Rattle.cleanup.proofs.Writing.{sorting_start, sorting_keep, sorting_drop, sorting_end}
use Rattle.cleanup.specs.Receipts.{spared}
use Rattle.cleanup.proofs.events.copy_spared.Goals as goal
use Rattle.cleanup.proofs.events.copy_spared.Goals.{then-is_spared, else-is_spared}

pub loop-i-init : goal.loop-i-init
loop-i-init c = sorting_start (spared c.args.activations.now c.args.writes.now) c.args.events.now c.args.out.now

pub loop-i-preserved : goal.loop-i-preserved
loop-i-preserved c =
    let l = c.loop-i in
    let h = c.loop-i-test.true in
    let v = sym c.is_spared.ensures in
    elim c.if-is_spared.branch [
      | then-is_spared w ↦ rw (w.out-is, w.kept-is) (sorting_keep l.invariant _ h (omega arith) (v ∙ w.if-is_spared.true) w.put_cell.ensures)
      | else-is_spared w ↦ rw (w.out-is, w.kept-is) (sorting_drop l.invariant h (v ∙ w.if-is_spared.false))
    ]

pub returns : goal.returns
returns c = sorting_end c.loop-i.invariant (omega arith)
