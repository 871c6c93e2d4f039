-- `cells::check::operands_ok` meets its contract. The invariant of its loop: what is left of the number is the packed form of a row's end,
-- whose operands fit the rest of the cell, and what that end says of the rest is what the whole row says from byte 1 on.
use mathlib.Core.Path.{◌≡◌}
use mathlib.Core.List.{List}
use Prim.Native.Nat.{ℕ, ◌+◌, ◌≤◌}
use lib.ListN.{length}
use Rattle.cells.specs.Table.{row_of, total}
use Rattle.cells.specs.RowNumbers.{packed}
use Rattle.cells.specs.Check.{operands_ok}
use Rattle.cells.specs.declared.table.Kind.{Kind}
use Rattle.cells.proofs.check.operands_ok.Given as goal

-- the row's end that is left
pub record End (c : List ℕ) (row left at : ℕ) : Type 0 where
  pub ks : List Kind
  pub is : left ≡ packed ks
  pub fits : at + total ks ≤ length c
  pub says : operands_ok (row_of row) c 1 ≡ operands_ok ks c at

abbrev pub invariant-loop-left : goal.invariant-loop-left
invariant-loop-left l = End l.c l.row l.left l.at

abbrev pub decreases-loop-left : goal.decreases-loop-left
decreases-loop-left l = l.left
