-- `cleanup::events::retain_events` meets its contract.
use native.Mathlib.Omega.{arith}
use Rattle.cells.specs.Cells.{cells}
use Rattle.cleanup.proofs.GoneSites.{no_events}
use Rattle.cleanup.proofs.events.retain_events.Goals as goal

pub returns-then-events-lt-CELL : goal.returns-then-events-lt-CELL
returns-then-events-lt-CELL c =
    let a = c.args in
    no_events (cells a.code.now) a.events.now a.out.now (omega arith)
