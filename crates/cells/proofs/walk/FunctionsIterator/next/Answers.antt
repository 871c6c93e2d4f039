-- `walk::Functions::next` meets its contract.
use mathlib.Core.Path.{ap}
use lib.ListN.{length}
use native.Mathlib.Omega.{arith}
use Rattle.cells.proofs.Walking.{none_left, first_then}
use Rattle.cells.proofs.walk.FunctionsIterator.next.Goals as goal

pub returns-then-image-lt-CELL-clause-steps : goal.returns-then-image-lt-CELL-clause-steps
returns-then-image-lt-CELL-clause-steps c =
    let none = none_left c.args.self.now.0.now c.if-image-lt-CELL.true in
    (none, none)

pub returns-clause-steps : goal.returns-clause-steps
returns-clause-steps c = first_then c.args.self.now.0.now c.function_at-span.result c.function_at-span.ensures

pub returns-clause-goes : goal.returns-clause-goes
returns-clause-goes c =
    let e = first_then c.args.self.now.0.now c.function_at-span.result c.function_at-span.ensures in
    record { on = λ f. (tt, f, omega (arith, ap length e)); keeps = tt; rests = λ f. tt }
