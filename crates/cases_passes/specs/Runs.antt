-- Inner: cells written over a list of bytes, by a run in a file of cases: a cell so many times, with its number from 0 in the 2 bytes at a place, or as it
-- is where the place is 0.
use Rattle.std.specs.Prelude.{ℕ, zero, suc, ◌+◌, ◌*◌, ◌/◌, ◌%◌, cond, List, ◌++◌, eqb, take, drop, set}
use Rattle.cells.specs.Cells.{Cell, cell_at}

-- the cell over the one at the position k
abbrev pub put : Cell → ℕ → List ℕ → List ℕ
put cell k s = take (16 * k) s ++ (cell_at cell 0 ++ drop (16 * k + 16) s)

abbrev pub number_at : ℕ → ℕ → List ℕ → List ℕ
number_at at n s = set (set s at (n % 256)) (at + 1) (n / 256)

unfoldable pub put_numbered : Cell → ℕ → ℕ → ℕ → List ℕ → List ℕ
put_numbered cell place n k s = cond (eqb place 0) (put cell k s) (number_at (16 * k + place) n (put cell k s))

-- the cells of the numbers from i on, m of them, from the position `at` + i on
unfoldable pub put_run : Cell → ℕ → ℕ → ℕ → ℕ → List ℕ → List ℕ
put_run cell place at i zero s = s
put_run cell place at i (suc m) s = put_run cell place at (suc i) m (put_numbered cell place i (at + i) s)
