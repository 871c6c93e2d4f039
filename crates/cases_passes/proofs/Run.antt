-- A run of cells, a cell a turn.
use Prim.Native.Nat.{ℕ, suc, ◌+◌, ◌-◌, ◌≤◌, ◌<◌}
use mathlib.Core.Path.{◌≡◌}
use mathlib.Core.List.{List}
use native.Mathlib.Omega.{arith}
use native.Mathlib.Numerals.{add-one}
use Rattle.cells.specs.Cells.{Cell}
use Rattle.cases_passes.specs.Runs.{put_numbered, put_run}

module _ (cell : Cell) (place at : ℕ) where
  pub run_start : (n : ℕ) (s : List ℕ) → put_run cell place at 0 (n - 0) s ≡ put_run cell place at 0 n s
  run_start n s =
      let e : n - 0 ≡ n = omega arith in
      rw e

  pub run_again : (i n : ℕ) (s s' t : List ℕ) → i < n → s' ≡ put_numbered cell place i (at + i) s → put_run cell place at i (n - i) s ≡ t
      → put_run cell place at (i + 1) (n - (i + 1)) s' ≡ t
  unfolding put_run
  run_again i n s s' t h e f =
      let d : n - i ≡ suc (n - suc i) = omega arith in
      rw (add-one, e) (rw d at f)

  pub run_done : (i n : ℕ) (s t : List ℕ) → n ≤ i → put_run cell place at i (n - i) s ≡ t → s ≡ t
  unfolding put_run
  run_done i n s t h f =
      let d : n - i ≡ 0 = omega arith in
      rw d at f
