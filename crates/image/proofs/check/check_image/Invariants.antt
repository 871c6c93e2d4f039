-- `image::check::check_image` meets its contract.
use mathlib.Core.Path.{◌≡◌}
use Prim.Native.Nat.{◌+◌, ◌/◌, ◌≤◌}
use lib.ListN.{length}
use Rattle.cells.specs.Cells.{cells}
use Rattle.cells.specs.Functions.{functions}
use Rattle.image.specs.Image.{functions_answer}
use Rattle.image.proofs.check.check_image.Given as goal

-- the functions that are left say what all say
abbrev pub invariant-loop-f : goal.invariant-loop-f
invariant-loop-f l =
    let left = l.f-iterator.0.now in
    (l.position ≤ l.at) × (l.at + length left / 16 ≡ length l.image / 16) × (functions_answer 0 0 (functions (cells l.image)) ≡ functions_answer l.position l.at (functions (cells left)))
