-- `cells::table::row_at` meets its contract: the last arm has what the others leave of the numbers below 84.
use mathlib.Core.Path.{refl}
use mathlib.Core.List.{[], ◌∷◌}
use native.Mathlib.Omega.{arith}
use Rattle.cells.specs.Table.{rows}
use Rattle.cells.proofs.Matches.{from, one_of}
use Rattle.cells.proofs.table.row_at.Goals as goal

pub returns-in_default : goal.returns-in_default
unfolding rows
returns-in_default c = rw (one_of (from 0 83) (83 ∷ []) 0 84 _ c.in_default.in_default-own.rest (omega arith) (omega arith) refl)
