-- `packed::keep::length_kept` meets its contract.
use Prim.Native.Nat.{◌+◌, ◌/◌, ◌≤◌}
use native.Mathlib.Omega.{arith}
use lib.ListN.{length, drop, length-drop}
use Rattle.cells.specs.Cells.{cells}
use Rattle.cells.proofs.Cells.{length-cells}
use Rattle.image.proofs.Good.{image_good}
use Rattle.packed.proofs.Turns.{cell_in, in_cells, in_full}
use Rattle.packed.proofs.Counts.{Counting, counting_none, promised_there, counting_turn, counted-there, counting_end}
use Rattle.packed.proofs.keep.length_kept.Goals as goal
use Rattle.packed.proofs.keep.length_kept.Goals.{After-struct_known-1}

pub loop-i-init : goal.loop-i-init
loop-i-init c =
    let s = c.args.image.now in
    (omega arith, omega arith, counting_none s ((image_good s).0 c.requires))

pub count_next-next-requires : goal.count_next-next-requires
count_next-next-requires c =
    let l = c.loop-i in
    let s = c.args.image.now in (
      in_full s l.i c.loop-i-test.true,
      omega (arith, promised_there l.due.code l.due.events (drop l.i (cells s)) l.invariant.2.fine, length-drop l.i (cells s), length-cells s, ((image_good s).0 c.requires).short),
    )

-- past what was counted
next : (c : After-struct_known-1) → Counting c.args.image.now c.count_next-next.result.due.code c.count_next-next.result.due.events (c.loop-i.total + c.count_next-next.result.size) (c.loop-i.i + c.count_next-next.result.cells)
next c =
    let l = c.loop-i in
    let s = c.args.image.now in
    let h = c.loop-i-test.true in
    rw c.count_next-next.ensures (counting_turn s l.due.code l.due.events l.total l.i l.invariant.2 (cell_in s l.i) h (in_cells s l.i h))

there : (c : After-struct_known-1) → (c.loop-i.i + c.count_next-next.result.cells ≤ length c.args.image.now / 16) × (1 ≤ c.count_next-next.result.cells)
there c =
    let l = c.loop-i in
    let s = c.args.image.now in
    rw c.count_next-next.ensures (counted-there s l.due.code l.due.events l.total l.i l.invariant.2 (cell_in s l.i) c.loop-i-test.true)

pub returns : goal.returns
returns c = let l = c.loop-i in counting_end c.args.image.now l.due.code l.due.events l.total l.i l.invariant.2 c.loop-i-test.false

pub overflow_add-total : goal.overflow_add-total
overflow_add-total c = omega (arith, (next c).small, (there c).0)

pub loop-i-preserved : goal.loop-i-preserved
loop-i-preserved c = let k = next (goal.at.loop-i-preserved c).After-struct_known-1 in ((there (goal.at.loop-i-preserved c).After-struct_known-1).0, k.small, k)
