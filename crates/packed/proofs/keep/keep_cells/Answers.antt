-- `packed::keep::keep_cells` meets its contract.
use mathlib.Core.Path.{refl}
use Prim.Native.Nat.{◌+◌, ◌≤◌}
use native.Mathlib.Omega.{arith}
use lib.ListN.{length, length-drop}
use Rattle.packed.specs.Form.{promise, role_of}
use Rattle.packed.proofs.Widths.{size_fits}
use Rattle.packed.proofs.Puts.{rest_is}
use Rattle.packed.proofs.Turns.{cell_in, in_cells, in_full, in_kept, keeping_none, keeping_room, keeping_whole, keeping_next, keeping_end}
use Rattle.packed.proofs.keep.keep_cells.Goals as goal
use Rattle.packed.proofs.keep.keep_cells.Goals.{After-slice_known-in-loop-i-1}

pub loop-i-init : goal.loop-i-init
loop-i-init c = (refl, omega arith, keeping_none c.args.image.now c.args.out.now c.requires.1)

pub next_cell-next-requires : goal.next_cell-next-requires
next_cell-next-requires c =
    let l = c.loop-i in
    in_kept (role_of (promise l.due.code l.due.events)) c.args.image.now l.i c.loop-i-test.true

pub put_kept-requires : goal.put_kept-requires
put_kept-requires c =
    let l = c.loop-i in
    let a = c.args in
    let s = a.image.now in
    let o = a.out.now in
    let h = c.loop-i-test.true in
    let n = c.next_cell-next in
    let r = keeping_room s o l.out l.due.code l.due.events l.at l.i l.invariant.2 (cell_in s l.i) n.result h (in_cells s l.i h) (in_full s l.i h) n.ensures in
    let w = keeping_whole s o l.out l.due.code l.due.events l.at l.i l.invariant.2 (cell_in s l.i) n.result h (in_cells s l.i h) (in_full s l.i h) n.ensures in (
      in_full s l.i h,
      omega (arith, n.ensures.keeps, size_fits (role_of (promise l.due.code l.due.events)) (cell_in s l.i)),
      rw (rest_is l.out l.at) (omega (arith, r, length-drop l.at l.out)),
      rw (rest_is l.out l.at) w,
    )

-- past the cell at i
room : (c : After-slice_known-in-loop-i-1) → c.loop-i.at + c.next_cell-next.result.size ≤ length c.loop-i.out
room c =
    let l = c.loop-i in
    let a = c.args in
    let s = a.image.now in
    let h = c.loop-i-test.true in
    let n = c.next_cell-next in
    keeping_room s a.out.now l.out l.due.code l.due.events l.at l.i l.invariant.2 (cell_in s l.i) n.result h (in_cells s l.i h) (in_full s l.i h) n.ensures

pub overflow_add-at : goal.overflow_add-at
overflow_add-at c = omega (arith, room (goal.at.overflow_add-at c).After-slice_known-in-loop-i-1)

pub loop-i-preserved : goal.loop-i-preserved
loop-i-preserved c =
    let l = c.loop-i in
    let a = c.args in
    let s = a.image.now in
    let h = c.loop-i-test.true in
    let n = c.next_cell-next in
    let k = keeping_next s a.out.now l.out l.due.code l.due.events l.at l.i l.invariant.2 (cell_in s l.i) n.result h (in_cells s l.i h) (in_full s l.i h) n.ensures _ c.put_kept.ensures in
    (k.long, k.within, k)

pub returns : goal.returns
returns c = let l = c.loop-i in let a = c.args in keeping_end a.image.now a.out.now l.out l.due.code l.due.events l.at l.i l.invariant.2 c.loop-i-test.false
