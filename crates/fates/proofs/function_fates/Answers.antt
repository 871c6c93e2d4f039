-- `function_fates` meets its contract.
use native.Mathlib.Omega.{arith}
use Rattle.cells.specs.Cells.{cells}
use Rattle.cells.proofs.Cells.{length-cells}
use Rattle.fates.proofs.Whole.{both-listed}
use Rattle.fates.proofs.function_fates.Goals as goal

pub returns : goal.returns
returns c =
    let a = c.args in
    both-listed a.first (cells a.code.now) (cells a.events.now) a.fates.now (length-cells a.code.now) (omega (arith, c.requires.events_in_bounds)) c.code_fates.ensures c.event_fates.ensures
