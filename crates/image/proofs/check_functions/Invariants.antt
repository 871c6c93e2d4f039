-- `image::check_functions` meets its contract.
use mathlib.Core.Path.{◌≡◌}
use Prim.Native.Nat.{◌+◌, ◌/◌, ◌≤◌}
use lib.ListN.{length}
use Rattle.cells.specs.Cells.{cells}
use Rattle.cells.specs.Functions.{functions}
use Rattle.image.specs.SiteCheck.{sites_answer}
use Rattle.cells.specs.Lists.{All}
use Rattle.cells.specs.WellFormed.{WellFormed}
use Rattle.image.proofs.check_functions.Given as goal

-- the functions that are left are well-formed, and say what all say
abbrev pub invariant-loop-f : goal.invariant-loop-f
invariant-loop-f l =
    let left = l.f-iterator.0.now in
    (l.position + length left / 16 ≤ length l.image / 16) × All WellFormed (functions (cells left)) × (sites_answer 0 (functions (cells l.image)) ≡ sites_answer l.position (functions (cells left)))
