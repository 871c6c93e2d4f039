-- `packed::form::sizes_from` meets its contract: in each arm the digits are computed from the table.
use native.Mathlib.Omega.{arith}
use mathlib.Core.List.{[]}
use mathlib.Core.Path.{refl}
use Prim.Native.Nat.{◌≤◌}
use borrow.Author.Tests.{ltb-true, ltb-false}
use lib.Dec.{ltb}
use Rattle.cells.specs.Table.{rows}
use Rattle.cells.proofs.Facts.{by_test}
use Rattle.cells.proofs.Matches.{from, one_of}
use Rattle.packed.specs.Form.{row_size}
use Rattle.packed.proofs.Widths.{sixteen_past}
use Rattle.packed.proofs.form.sizes_from.Goals as goal

pub returns-in_default : goal.returns-in_default
returns-in_default c =
    let k = c.args.sixteen in
    let past : 6 ≤ k =
    by_test (ltb k 6) (λ y. absurd (one_of (from 0 6) [] 0 6 k c.in_default.in_default-own.rest (omega arith) (ltb-true _ _ y) refl))
    (λ n. ltb-false _ _ n) in
    sixteen_past k past

pub returns-in-0 : goal.returns-in-0
unfolding rows row_size
returns-in-0 c = rw c.in-0.is

pub returns-in-1 : goal.returns-in-1
unfolding rows row_size
returns-in-1 c = rw c.in-1.is

pub returns-in-2 : goal.returns-in-2
unfolding rows row_size
returns-in-2 c = rw c.in-2.is

pub returns-in-3 : goal.returns-in-3
unfolding rows row_size
returns-in-3 c = rw c.in-3.is

pub returns-in-4 : goal.returns-in-4
unfolding rows row_size
returns-in-4 c = rw c.in-4.is

pub returns-in-5 : goal.returns-in-5
unfolding rows row_size
returns-in-5 c = rw c.in-5.is
