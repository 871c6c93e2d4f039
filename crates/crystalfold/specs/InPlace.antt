-- Inner: the fold of cells in place: the instruction cells of a function, or all cells of an image, of which heads and events stay as they are.
use Rattle.std.specs.Prelude.{◌≡◌, cond, List, ◌++◌, ℕ, ◌+◌, ◌*◌, ◌%◌, ltb, length, set, take, drop, replicate, Option, None, Some}
use Rattle.leaves.specs.declared.constant.ConstVal.{ConstVal}
use Rattle.leaves.specs.Verdicts.{value_in}
use Rattle.cells.specs.Lists.{All}
use Rattle.cells.specs.Cells.{Cell, cells, cell_at, flat}
use Rattle.cells.specs.Ins.{Const}
use Rattle.cells.specs.View.{view, load_cell, Registers}
use Rattle.machine.specs.Values.{written_of}
use Rattle.machine.specs.Evaluate.{Meaning, evaluate}
use Rattle.crystalfold.specs.CrystalFold.{fold_code, folds_of}
use Rattle.crystalfold.specs.Rules.{rules_of, known_of}
use Rattle.crystalfold.specs.declared.rules.RuleSet.{RuleSet}

-- whole cells, whose registers are below the limit, as in every cell that passes the check
pub record Foldable (bytes : List ℕ) : Type 0 where
  pub whole : length bytes % 16 ≡ 0
  pub in_range : All (λ (c : Cell). Registers (view c)) (cells bytes)

-- the bytes at exit and the number of folds, by those at entry
pub record Folded (s : RuleSet) (before after : List ℕ) (count : ℕ) : Type 0 where
  pub bytes : after ≡ flat (fold_code (rules_of s) (cells before))
  pub folds : count ≡ folds_of (rules_of s) (cells before)

-- ---- inner: one command

-- a cell c, or in its place the load of what it is folded to
abbrev pub cell_or : Cell → ℕ → Option Const → Cell
cell_or c d None = c
cell_or c d (Some k) = load_cell d k

-- the cell that loads what is known into d; zeros where nothing is
abbrev pub load_or_zeros : ℕ → Option Const → Cell
load_or_zeros d None = replicate 16 0
load_or_zeros d (Some k) = load_cell d k

-- the load of v, if it is known, stands at the position k. Its bits are those of v: read back, they give it
pub record PutLoad (k dst : ℕ) (before after : List ℕ) (v : ConstVal) : Type 0 where
  pub bytes : after ≡ take (16 * k) before ++ (cell_or (cell_at before k) dst (written_of v) ++ drop (16 * k + 16) before)
  pub read_back : known_of (written_of v) ≡ v

-- what the command at k comes to at two operands, v, has its load there
pub record Computed (m : Option Meaning) (left right : ConstVal) (k dst : ℕ) (before after : List ℕ) (v : ConstVal) : Type 0 where
  pub value : v ≡ value_in (evaluate m left right)
  pub put : PutLoad k dst before after v

-- ---- inner: the list of written registers

-- a register stands behind the first n, and is counted, where the list has a place for it; else the list stays as it is, as `set` has it
pub record Listed (n register : ℕ) (before after : List ℕ) (count : ℕ) : Type 0 where
  pub list : after ≡ set before n register
  pub counted : count ≡ cond (ltb n (length before)) (n + 1) n
