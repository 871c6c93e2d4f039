-- `sites::check_sites` meets its contract.
use mathlib.Core.Path.{sym}
use Rattle.sites.proofs.Judged.{no_cells}
use Rattle.sites.proofs.check_sites.Goals as goal

pub returns-then-events-lt-CELL : goal.returns-then-events-lt-CELL
returns-then-events-lt-CELL c = sym (no_cells c.args.position c.args.code.now c.args.events.now c.if-code-lt-CELL.true c.if-events-lt-CELL.true)
