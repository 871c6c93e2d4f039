-- The rewrite's count is the cells removed and the cells folded; nothing grows. All for any rules.
use mathlib.Core.Path.{◌≡◌, refl, ap}
use mathlib.Core.List.{List, [], ◌∷◌}
use Prim.Native.Nat.{◌+◌, ◌-◌, ◌≤◌}
use native.Mathlib.Omega.{arith}
use lib.ListN.{length}
use Rattle.cells.specs.Cells.{Cell}
use Rattle.cells.specs.Functions.{Function, cells_of}
use Rattle.cleanup.specs.Cleanup.{clean_code, clean_function}
use Rattle.cleanup.proofs.CleanWellFormed.{clean_cells-fewer}
use Rattle.cleanup.proofs.CleanupCounts.{clean_count_lem, shorter, events_fewer}
use Rattle.cleanup.proofs.EachLeft.{empty_clean}
use Rattle.crystalfold.specs.Rules.{Rules}
use Rattle.crystalfold.specs.CrystalFold.{folds_of}
use Rattle.crystalfold.proofs.FoldWellFormed.{fold-cells}
use Rattle.crystalfold.proofs.FoldCounts.{length-folded, folds_few}
use Rattle.rewrite.specs.Rewrite.{rewrite_function, rewrite_code, rewrite_count}
use Rattle.rewrite.proofs.RewritePasses.{rewrite_code_lem, rewrite_events}

module _ (f : Rules) where
  rewrite_length : (cs : List Cell) → length (rewrite_code f cs) ≡ length (clean_code cs)
  unfolding rewrite_code
  rewrite_length cs = length-folded f (clean_code cs)

  pub rewrite_count_lem : (cs : List Cell) → rewrite_count f cs ≡ (length cs - length (rewrite_code f cs)) + folds_of f (clean_code cs)
  unfolding rewrite_count
  rewrite_count_lem cs = omega (arith, clean_count_lem cs, rewrite_length cs)

  -- never more than there are cells, so that no sum of the Rust saturates
  pub rewrite_few : (cs : List Cell) → rewrite_count f cs ≤ length cs
  unfolding rewrite_count
  rewrite_few cs = omega (arith, clean_count_lem cs, folds_few f (clean_code cs))

  -- no more instructions, no more events
  pub rewrite_shorter : (g : Function) → length (rewrite_function f g).code ≤ length g.code
  rewrite_shorter g = rw (rewrite_code_lem f g) (omega (arith, rewrite_length g.code, shorter g.code))

  pub rewrite_events_fewer : (g : Function) → length (rewrite_function f g).events ≤ length g.events
  rewrite_events_fewer g = rw (rewrite_events f g) (events_fewer g.code g.events)

  pub rewrite_cells-fewer : (g : Function) → length (cells_of (rewrite_function f g)) ≤ length (cells_of g)
  unfolding rewrite_function
  rewrite_cells-fewer g = omega (arith, clean_cells-fewer g, fold-cells f (clean_function g))

  -- a function comes back without instructions only if it was sent so
  pub rewrite_empty : (cs : List Cell) → rewrite_code f cs ≡ [] → cs ≡ []
  rewrite_empty cs e = empty_clean cs (nothing (clean_code cs) (omega (arith, ap length e, rewrite_length cs)))
    where
      nothing : (p : List Cell) → length p ≡ 0 → p ≡ []
      nothing [] z = refl
      nothing (c ∷ p) z = absurd (omega arith)
