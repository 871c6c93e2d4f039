-- `sweeps::mark` meets its contract.
use mathlib.Core.Path.{refl}
use Prim.Native.Nat.{ℕ, ◌<◌}
use native.Mathlib.Omega.{arith}
use lib.ListN.{length}
use Rattle.cells.proofs.Lists.{all_at}
use Rattle.fates.proofs.Marking.{marked_next, marked_end}
use Rattle.fates.proofs.sweeps.mark.Goals as goal

pub loop-p-init : goal.loop-p-init
loop-p-init c = record { long = refl; rest = refl }

pub bounds-fates-from : goal.bounds-fates-from
bounds-fates-from c =
    let a = c.args in
    omega (arith, c.from.ensures, all_at (λ (k : ℕ). k < length a.fates.now) 0 a.list.now c.loop-p.p-index (omega arith) c.requires, c.loop-p.invariant.long)

pub loop-p-preserved : goal.loop-p-preserved
loop-p-preserved c = rw c.from.ensures (marked_next c.loop-p.invariant (omega arith))

pub returns : goal.returns
returns c = marked_end c.loop-p.invariant (omega arith)
