-- `pages::names::row_of` meets its contract.
use Prim.Native.Nat.{ℕ, ◌+◌}
use mathlib.Core.Path.{ap}
use Rattle.pages.proofs.names.row_of.Goals as goal

pub returns-in-Code : goal.returns-in-Code
returns-in-Code c = rw c.in-Code.is c.from-b.ensures

pub returns-in-Events : goal.returns-in-Events
returns-in-Events c = rw c.in-Events.is (ap (λ (n : ℕ). 82 + n) c.from-b.ensures)
