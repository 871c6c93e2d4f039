-- `cleanup::events::removed_sites` meets its contract.
use mathlib.Core.Path.{◌≡◌, sym, ◌∙◌, ap}
use mathlib.Core.Bool.{◌&&◌, not}
use Prim.Native.Nat.{◌/◌}
use native.Mathlib.Omega.{arith}
use lib.ListN.{length}
use Rattle.cells.specs.Cells.{cell_at}
use Rattle.cells.specs.View.{view}
use Rattle.cells.proofs.Going.{going_start, going_put, going_drop, going_end}
use Rattle.cleanup.proofs.GoneSites.{code_site, gone_all, gone_site, gone_bare, gone_kept, gone_end}
use Rattle.cleanup.proofs.Marking.{read_at}
use Rattle.cleanup.specs.ByState.{cuts_off, after_end}
use Rattle.cleanup.specs.Marks.{is_there}
use Rattle.cleanup.specs.Sweeps.{cut_off}
use Rattle.cleanup.specs.declared.sweeps.Unreachable.{Unreachable}
use Rattle.cleanup.proofs.events.removed_sites.Goals as goal
use Rattle.cleanup.proofs.events.removed_sites.Goals.{then-cuts_off+in-Some, then-cuts_off+in_default, else-cuts_off}

pub loop-k-init : goal.loop-k-init
loop-k-init c = going_start c.args.list.now (length c.args.code.now / 16) (gone_all c.args.which c.args.code.now)

pub loop-k-preserved : goal.loop-k-preserved
loop-k-preserved c =
    let l = c.loop-k in
    let s = c.args.code.now in
    let w = c.args.which in
    let h = c.loop-k-test.true in
    let cut : cut_off view l.rule.ended (cell_at s l.k) ≡ c.cuts_off.result =
    ap (λ (o : _). l.rule.ended && not (is_there o)) (sym (read_at s l.k).label) ∙ sym (c.cuts_off.ensures ∙ ap (cuts_off l.rule) c.at-cell.ensures) in
    elim c.if-cuts_off.branch [
      | then-cuts_off+in-Some v ↦ rw (v.list-is, v.found-is, v.rule-is) (going_put l.invariant v.in-Some.x (omega arith) h (gone_site w s l.rule.ended l.k h v.in-Some.x (cut ∙ v.if-cuts_off.true) (code_site s l.k w h v.site_by.ensures ∙ v.in-Some.is)))
      | then-cuts_off+in_default v ↦ rw (v.list-is, v.found-is, v.rule-is) (going_drop l.invariant h (gone_bare w s l.rule.ended l.k h (cut ∙ v.if-cuts_off.true) (code_site s l.k w h v.site_by.ensures ∙ v.in_default.is)))
      | else-cuts_off v ↦
          let ends = sym (read_at s l.k).ends ∙ sym (ap (λ (r : Unreachable). r.ended) (v.after-rule.ensures ∙ ap after_end c.at-cell.ensures)) in
          rw (v.list-is, v.found-is, v.rule-is) (going_drop l.invariant h (gone_kept w s l.rule.ended l.k h v.after-rule.result.ended (cut ∙ v.if-cuts_off.false) ends))
    ]

pub returns : goal.returns
returns c = going_end c.loop-k.invariant (gone_end c.args.which c.args.code.now c.loop-k.rule.ended c.loop-k.k (omega arith))
