-- `sweeps::name_ends` meets its contract.
use mathlib.Core.Path.{refl}
use Prim.Native.Nat.{◌/◌}
use native.Mathlib.Omega.{arith}
use lib.ListN.{length}
use Rattle.cleanup.specs.Positions.{see_at}
use Rattle.fates.proofs.Marking.{named_start, named-next, named_end}
use Rattle.fates.proofs.sweeps.name_ends.Goals as goal

pub loop-at-init : goal.loop-at-init
loop-at-init c =
    let a = c.args in
    named_start a.first (see_at a.code.now) (length a.code.now / 16) a.fates.now

pub loop-at-preserved : goal.loop-at-preserved
loop-at-preserved c =
    named-next c.loop-at.invariant (omega arith) (omega (arith, c.requires)) refl c.named.ensures c.end_behind-end.ensures

pub returns : goal.returns
returns c = named_end c.loop-at.invariant (omega arith)
