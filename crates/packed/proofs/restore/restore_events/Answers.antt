-- `packed::restore::restore_events` meets its contract.
use mathlib.Core.Path.{sym, ◌∙◌}
use Prim.Native.Nat.{◌+◌, ◌*◌, ◌≤◌}
use native.Mathlib.Omega.{arith}
use lib.ListN.{length, drop}
use Rattle.packed.specs.Form.{Event}
use Rattle.packed.proofs.Puts.{rest_is}
use Rattle.packed.proofs.Widths.{event_size}
use Rattle.packed.proofs.Runs.{running_there, running_some, running_room, running_next}
use Rattle.packed.proofs.restore.restore_events.Goals as goal
use Rattle.packed.proofs.restore.restore_events.Goals.{After-slice_known-in-loop-i-1}

pub put_restored-requires : goal.put_restored-requires
put_restored-requires c =
    let v = c.loop-i in
    let s = c.args.s.now in
    let h = c.loop-i-test.true in
    let k = running_some Event s v.out c.args.n v.at v.i v.invariant.2 h in (
      rw (rest_is s v.at) (omega (arith, k, event_size (drop v.at s))),
      omega arith,
      rw (rest_is v.out (16 * v.i)) (running_room Event s v.out c.args.n v.at v.i v.invariant.2 h),
    )

there : (c : After-slice_known-in-loop-i-1) → c.loop-i.at + 15 ≤ length c.args.s.now
there c =
    let v = c.loop-i in
    let s = c.args.s.now in
    omega (arith, running_there Event s v.out c.args.n v.at v.i v.invariant.2 c.loop-i-test.true, event_size (drop v.at s))

pub loop-i-preserved : goal.loop-i-preserved
loop-i-preserved c =
    let v = c.loop-i in
    let s = c.args.s.now in
    let h = c.loop-i-test.true in
    let k = running_next Event s v.out c.args.n v.at v.i v.invariant.2 h 15 _ (sym (event_size (drop v.at s))) (rw (rest_is s v.at) at c.put_restored.ensures) in
    (k.long ∙ sym v.invariant.2.long ∙ v.invariant.0, there c, k)
