-- Inner: what the inner functions say: one function cleaned to the start of an output, all of them one after another, and all of them folded there.
use Rattle.std.specs.Prelude.{◌≡◌, List, ◌++◌, ℕ, ◌+◌, ◌*◌, ◌%◌, ◌≤◌, length, take, drop}
use Rattle.cells.specs.Cells.{cells, flat, over}
use Rattle.cells.specs.Check.{max_image}
use Rattle.cells.specs.Functions.{Function, function_of, cells_of_all}
use Rattle.cells.specs.WellFormed.{WellFormed}
use Rattle.crystalfold.specs.Rules.{rules_of}
use Rattle.crystalfold.specs.declared.rules.RuleSet.{RuleSet}
use Rattle.crystalfold.specs.CrystalFold.{fold_code, folds_of}
use Rattle.crystalfold.specs.InPlace.{Foldable}
use Rattle.passes.specs.declared.Total.{Total}

-- a function that is well-formed, by its head and its two parts, has room in the output
pub record Room (h code evs out : List ℕ) : Type 0 where
  pub formed : WellFormed (function_of h code evs)
  pub code_even : length code % 16 ≡ 0
  pub events_even : length evs % 16 ≡ 0
  pub room : 16 + length code + length evs ≤ length out

-- functions over the start of an output: their cells, and so many rewrites
pub record AllWritten (fs : List Function) (n : ℕ) (before after : List ℕ) (r : Total) : Type 0 where
  pub bytes : after ≡ over (flat (cells_of_all fs)) before
  pub count : r.cells ≡ length (cells_of_all fs)
  pub rewrites : r.rewrites ≡ n

-- so many cells at the start of an output can be folded in place
pub record Folding (t : Total) (out : List ℕ) : Type 0 where
  pub room : 16 * t.cells ≤ length out
  pub foldable : Foldable (take (16 * t.cells) out)
  pub few : t.rewrites ≤ max_image

-- and are, by the rule set k
pub record FoldedStart (k : RuleSet) (t : Total) (before after : List ℕ) (r : Total) : Type 0 where
  pub bytes : after ≡ flat (fold_code (rules_of k) (cells (take (16 * t.cells) before))) ++ drop (16 * t.cells) before
  pub count : r.cells ≡ t.cells
  pub rewrites : r.rewrites ≡ t.rewrites + folds_of (rules_of k) (cells (take (16 * t.cells) before))
