-- `code_fates` meets its contract.
use native.Mathlib.Omega.{arith}
use lib.ListN.{length-take}
use Rattle.cleanup.proofs.Whole.{after_sweeps}
use Rattle.fates.proofs.Whole.{judgeable, code_listed}
use Rattle.fates.proofs.code_fates.Goals as goal

pub slice_bounds-list-end : goal.slice_bounds-list-end
slice_bounds-list-end c = (after_sweeps c.args.code.now _ _ _ c.mark_sweeps-n.ensures.survive).room

pub slice_bounds-judge-end : goal.slice_bounds-judge-end
slice_bounds-judge-end c =
    omega (arith, (after_sweeps c.args.code.now _ _ _ c.mark_sweeps-n.ensures.survive).room, length-take c.mark_sweeps-n.result c.mark_sweeps-n.new.list)

pub judge-requires : goal.judge-requires
judge-requires c =
    let p = c.requires in
    judgeable c.args.fates.now p.0 p.1 c.mark_sweeps-n.ensures.survive c.mark_sweeps-n.ensures.fates_after c.name_ends.ensures

pub returns : goal.returns
returns c =
    let p = c.requires in
    code_listed c.args.fates.now p.0 p.1 c.mark_sweeps-n.ensures.survive c.mark_sweeps-n.ensures.fates_after c.name_ends.ensures c.judge.ensures
