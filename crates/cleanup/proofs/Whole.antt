-- The positions that the four sweeps leave, and the cells at them.
use mathlib.Core.Path.{◌≡◌, sym, ◌∙◌, ap}
use mathlib.Core.List.{List, map}
use Prim.Native.Nat.{ℕ, ◌-◌, ◌*◌, ◌/◌, ◌≤◌, ◌<◌}
use native.Mathlib.Omega.{arith}
use lib.ListN.{length, take, length-take, length-map}
use Rattle.cells.specs.Cells.{Cell, cells, cell_at, flat}
use Rattle.cells.specs.View.{view}
use Rattle.cells.proofs.Cells.{length-cells, full_cells, length-flat}
use Rattle.cells.proofs.Lists.{sub_all}
use Rattle.cells.proofs.Over.{over-take}
use Rattle.cleanup.specs.Sweeps.{cleanup}
use Rattle.cleanup.specs.Cleanup.{clean_code, clean_count}
use Rattle.cleanup.specs.Positions.{see_at, AllBelow, Survive, every, left₄}
use Rattle.cleanup.proofs.CleanupCounts.{clean_count_lem, shorter}
use Rattle.cleanup.proofs.Natural.{map-cleanup}
use Rattle.cleanup.proofs.Positions.{below_all, cells_at_every}
use Rattle.cleanup.proofs.Sweeping.{sub_cleanup}
use Rattle.cleanup.proofs.EachLeft.{sub_code}

cells_left : (s : List ℕ) → map (cell_at s) (left₄ s) ≡ clean_code (cells s)
unfolding clean_code
cells_left s = map-cleanup view (cell_at s) (every s) ∙ ap (cleanup view) (cells_at_every s)

-- after the four sweeps
pub record AfterSweeps (s l : List ℕ) (n : ℕ) : Type 0 where
  pub room : n ≤ length l
  pub below : AllBelow (length s / 16) (take n l)
  pub few : n ≤ length s / 16
  pub first : map (cell_at s) (take n l) ≡ clean_code (cells s)
  pub size : length (flat (clean_code (cells s))) ≡ 16 * n
  pub count : n ≡ length (clean_code (cells s))

pub after_sweeps : (s l₀ l : List ℕ) (n : ℕ) → Survive s l₀ l n → AfterSweeps s l n
after_sweeps s l₀ l n v = record {
  room = omega (arith, length-take n l, ap length f, v.count);
  below = rw f below';
  few = omega (arith, c, shorter (cells s), length-cells s);
  first = rw f (cells_left s);
  size = length-flat (clean_code (cells s)) (sub_all (λ (c : Cell). length c ≡ 16) (sub_code (cells s)) (full_cells s)) ∙ ap (◌*◌ 16) (sym c);
  count = c;
}
  where
    f : take n l ≡ left₄ s
    f = rw (v.count, v.list) (over-take (left₄ s) _)

    c : n ≡ length (clean_code (cells s))
    c = v.count ∙ sym (length-map (left₄ s) (cell_at s)) ∙ ap length (cells_left s)

    below' : AllBelow (length s / 16) (left₄ s)
    below' = sub_all (λ (k : ℕ). k < length s / 16) (sub_cleanup (see_at s) (every s)) (below_all (length s / 16))

-- the count is of the cells that are not left
pub removed_count : (s : List ℕ) (n : ℕ) → n ≡ length (clean_code (cells s)) → length s / 16 - n ≡ clean_count (cells s)
removed_count s n e = omega (arith, clean_count_lem (cells s), length-cells s)
