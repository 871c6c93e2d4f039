-- `cleanup::sweeps::copy_out` meets its contract.
use Prim.Native.Nat.{◌/◌, ◌<◌}
use native.Mathlib.Omega.{arith}
use lib.ListN.{length, get_or}
use Rattle.cells.proofs.Cells.{length-cell_at}
use Rattle.cells.specs.Cells.{cell_at}
use Rattle.cells.proofs.Lists.{all_at}
use Rattle.cleanup.proofs.Writing.{writing_start, writing_more, listed_more}
use Rattle.cleanup.proofs.sweeps.copy_out.Goals as goal

pub loop-i-init : goal.loop-i-init
loop-i-init c = writing_start c.args.out.now

pub loop-i-preserved : goal.loop-i-preserved
loop-i-preserved c =
    let l = c.loop-i in
    let a = c.args in
    let s = a.code.now in
    let x = get_or a.list.now l.i 0 in
    let k : x < length s / 16 = all_at (λ (j : _). j < length s / 16) 0 a.list.now l.i (omega arith) c.requires.below in
    rw (listed_more s a.list.now l.i (omega arith)) (writing_more l.invariant _ (cell_at s x) (length-cell_at s x (omega arith)) (omega arith) (rw c.from.ensures at c.put_cell.ensures))
