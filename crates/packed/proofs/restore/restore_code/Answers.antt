-- `packed::restore::restore_code` meets its contract.
use mathlib.Core.Path.{◌≡◌, refl, ap, sym, ◌∙◌}
use mathlib.Core.List.{List, []}
use Prim.Native.Nat.{ℕ, ◌+◌, ◌*◌, ◌≤◌}
use native.Mathlib.Omega.{arith}
use lib.ListN.{length, drop, get_or}
use Rattle.packed.specs.Form.{Code, row_size, size as size_of}
use Rattle.packed.proofs.Puts.{rest_is}
use Rattle.packed.proofs.Widths.{head-size, size_some, size_fits, first-left}
use Rattle.packed.proofs.Runs.{running_none, running_there, running_some, running_room, running_next}
use Rattle.packed.proofs.restore.restore_code.Goals as goal
use Rattle.packed.proofs.restore.restore_code.Goals.{After-slice_known-in-loop-i-1}

pub loop-i-init : goal.loop-i-init
loop-i-init c =
    (refl, omega arith, sym (head-size []), running_none Code c.args.s.now c.args.out.now c.args.n c.requires.0 c.requires.1)

pub bounds-s-at : goal.bounds-s-at
bounds-s-at c =
    let v = c.loop-i in
    let s = c.args.s.now in
    omega (arith, running_there Code s v.out c.args.n v.at v.i v.invariant.3 c.loop-i-test.true, size_some Code (drop v.at s))

-- the size of the row of the byte that is next is the next cell's
size_is : (s : List ℕ) (at row : ℕ) {n : ℕ} → n ≡ row_size row → row ≡ get_or s at 0 → n ≡ size_of Code (drop at s)
size_is s at row e i = e ∙ ap row_size (i ∙ sym (first-left s at))

pub put_restored-requires : goal.put_restored-requires
put_restored-requires c =
    let v = c.loop-i in
    let s = c.args.s.now in
    let h = c.loop-i-test.true in
    let e = size_is s v.at c.from-row.result c.size_again-size.ensures c.from-row.ensures in
    let k = running_some Code s v.out c.args.n v.at v.i v.invariant.3 h in (
      rw (rest_is s v.at) (omega (arith, k, e)),
      omega (arith, e, size_fits Code (drop v.at s)),
      rw (rest_is v.out (16 * v.i)) (running_room Code s v.out c.args.n v.at v.i v.invariant.3 h),
    )

there : (c : After-slice_known-in-loop-i-1) → c.loop-i.at + c.size_again-size.result ≤ length c.args.s.now
there c =
    let v = c.loop-i in
    let s = c.args.s.now in
    omega (arith, running_there Code s v.out c.args.n v.at v.i v.invariant.3 c.loop-i-test.true, size_is s v.at c.from-row.result c.size_again-size.ensures c.from-row.ensures)

pub loop-i-preserved : goal.loop-i-preserved
loop-i-preserved c =
    let v = c.loop-i in
    let s = c.args.s.now in
    let h = c.loop-i-test.true in
    let e = size_is s v.at c.from-row.result c.size_again-size.ensures c.from-row.ensures in
    let k = running_next Code s v.out c.args.n v.at v.i v.invariant.3 h c.size_again-size.result _ e (rw (rest_is s v.at) at c.put_restored.ensures) in
    (k.long ∙ sym v.invariant.3.long ∙ v.invariant.0, there c, c.size_again-size.ensures, k)

pub overflow_add-at : goal.overflow_add-at
overflow_add-at c = omega (arith, there c)
