-- `cells::table::class_of` meets its contract: the class is the lowest digit of the row's number.
use mathlib.Core.Path.{ap, sym, ◌∙◌}
use Prim.Native.Nat.{ℕ, ◌%◌}
use native.Mathlib.Omega.{arith}
use Rattle.cells.specs.Table.{row_at}
use Rattle.cells.specs.RowNumbers.{class_at, row_number}
use Rattle.cells.proofs.Rows.{class_is, no_class}
use Rattle.cells.proofs.table.class_of.Goals as goal

pub returns-then-n-lt-EVENT_ROW : goal.returns-then-n-lt-EVENT_ROW
returns-then-n-lt-EVENT_ROW c =
    c.from.ensures ∙ ap (λ (n : ℕ). class_at (n % 16)) c.row_at.ensures ∙ ap (λ (n : ℕ). class_at (row_number (row_at n) % 16)) c.from-n.ensures ∙ class_is c.args.command

pub returns-else-n-lt-EVENT_ROW : goal.returns-else-n-lt-EVENT_ROW
returns-else-n-lt-EVENT_ROW c = sym (no_class c.args.command (omega arith))
