-- `cleanup::sweeps::sweep` meets its contract.
use mathlib.Core.Path.{◌≡◌, refl, sym, ◌∙◌, ap}
use Prim.Native.Nat.{◌+◌}
use native.Mathlib.Omega.{arith}
use lib.ListN.{length, drop}
use Rattle.cells.proofs.Going.{going_start, going_drop}
use Rattle.cleanup.proofs.Turns.{going_behind, going_below, going_keep, turn_keep, turn_drop}
use Rattle.cleanup.specs.ByState.{seen_next}
use Rattle.cleanup.specs.Reading.{seen_at}
use Rattle.cleanup.proofs.sweeps.sweep.Goals as goal
use Rattle.cleanup.proofs.sweeps.sweep.Goals.{then-not-goes, else-not-goes}

pub loop-i-init : goal.loop-i-init
loop-i-init g c = (going_start c.args.list.now (length c.args.list.now) refl, c.seen_next-here.ensures)

pub seen_next-next-requires : goal.seen_next-next-requires
seen_next-next-requires g c = λ h. going_below c.loop-i.invariant.0 (c.loop-i.i + 1) c.requires (omega arith) h

pub loop-i-preserved : goal.loop-i-preserved
loop-i-preserved g c =
    let l = c.loop-i in
    let list = c.args.list.now in
    let seen = seen_at c.args.code.now in
    let rule = g.S.Rule in
    let next : c.seen_next-next.result ≡ seen_next seen (drop (l.i + 1) list) = c.seen_next-next.ensures ∙ ap (seen_next seen) (going_behind l.invariant.0 (l.i + 1) (omega arith)) in (
      elim c.if-not-goes.branch [
        | then-not-goes w ↦ rw (w.list-is, w.kept-is, w.rule-is)
            (going_keep l.invariant.0 (omega arith) c.loop-i-test.true
            (turn_keep seen rule.goes_of rule.after_of list l.rule c.loop-i-test.true l.invariant.1 next (sym c.goes.ensures ∙ w.if-not-goes.true) w.after-rule.ensures))
        | else-not-goes w ↦ rw (w.list-is, w.kept-is, w.rule-is)
            (going_drop l.invariant.0 c.loop-i-test.true
            (turn_drop seen rule.goes_of rule.after_of list l.rule c.loop-i-test.true l.invariant.1 next (sym c.goes.ensures ∙ w.if-not-goes.false)))
      ],
      next,
    )
