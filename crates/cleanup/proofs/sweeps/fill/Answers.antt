-- `cleanup::sweeps::fill` meets its contract: each turn writes its own number.
use mathlib.Core.Path.{◌≡◌, sym, ◌∙◌, ap}
use Prim.Native.Nat.{◌-◌}
use native.Mathlib.Omega.{arith}
use lib.ListN.{length}
use Rattle.cells.proofs.Going.{going_start, going_put, going_end}
use Rattle.cleanup.proofs.Positions.{length_up_from, up_from_cons, up_from_none}
use Rattle.cleanup.proofs.Stages.{over_whole}
use Rattle.cleanup.specs.Positions.{up_from}
use Rattle.cleanup.proofs.sweeps.fill.Goals as goal

pub loop-i-init : goal.loop-i-init
loop-i-init c =
    let n = length c.args.list.now in
    let e : n - 0 ≡ n = omega arith in
    going_start c.args.list.now n (ap (up_from 0) (sym e))

pub loop-i-preserved : goal.loop-i-preserved
loop-i-preserved c =
    let l = c.loop-i in
    going_put l.invariant l.i (omega arith) c.loop-i-test.true (up_from_cons (length c.args.list.now) l.i c.loop-i-test.true)

pub returns : goal.returns
returns c =
    let l = c.args.list.now in
    (going_end c.loop-i.invariant (up_from_none (length l) c.loop-i.i (omega arith))).list ∙ over_whole (up_from 0 (length l)) l (length_up_from 0 (length l))
