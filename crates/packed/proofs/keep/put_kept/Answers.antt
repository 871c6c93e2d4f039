-- `packed::keep::put_kept` meets its contract.
use mathlib.Core.Path.{sym, ◌∙◌}
use native.Mathlib.Omega.{arith}
use Rattle.packed.proofs.Puts.{put_short, put_whole}
use Rattle.packed.proofs.keep.put_kept.Goals as goal

pub put_cell-requires : goal.put_cell-requires
put_cell-requires c = (omega (arith, c.requires.0), c.requires.3 c.if-left-lt-CELL.false)

pub returns-then-left-lt-CELL : goal.returns-then-left-lt-CELL
returns-then-left-lt-CELL c = c.put_first.ensures ∙ sym (put_short c.args.cell.now c.args.k c.args.left c.args.out.now c.if-left-lt-CELL.true)

pub returns-else-left-lt-CELL : goal.returns-else-left-lt-CELL
returns-else-left-lt-CELL c = c.put_cell.ensures ∙ sym (put_whole c.args.cell.now c.args.k c.args.left c.args.out.now c.requires.0 c.if-left-lt-CELL.false)
