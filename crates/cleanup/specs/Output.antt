-- Inner: what the code writes: cells over the start of a lent output, whose other bytes stay.
use Rattle.std.specs.Prelude.{◌≡◌, List, ◌++◌, ℕ, ◌+◌, ◌/◌, ◌%◌, ◌≤◌, length}
use Rattle.cells.specs.Cells.{Cell, flat, over}
use Rattle.cells.specs.Check.{max_instructions, max_events}
use Rattle.cells.specs.Functions.{Function, cells_of}
use Rattle.cleanup.specs.Cleanup.{clean_code, clean_events, clean_count}
use Rattle.cleanup.specs.declared.FunctionReport.{FunctionReport}

-- cells, and how many
pub record Kept (cs : List Cell) (before after : List ℕ) (r : ℕ) : Type 0 where
  pub bytes : after ≡ over (flat cs) before
  pub count : r ≡ length cs

-- the parts of a function that the image check passed, with room for them in the output
pub record Parts (code evs out : List ℕ) : Type 0 where
  pub code_even : length code % 16 ≡ 0
  pub events_even : length evs % 16 ≡ 0
  pub few_instructions : length code / 16 ≤ max_instructions
  pub few_events : length evs / 16 ≤ max_events
  pub room : length code + length evs ≤ length out

-- a function's instruction cells, then its event cells; the counts
pub record PartsWritten (cs es : List Cell) (before after : List ℕ) (r : FunctionReport) : Type 0 where
  pub bytes : after ≡ over (flat (clean_code cs ++ clean_events cs es)) before
  pub instructions : r.instructions ≡ length (clean_code cs)
  pub events : r.events ≡ length (clean_events cs es)
  pub rewrites : r.rewrites ≡ clean_count cs

-- a function's cells stand over the start of the output, its head first; the counts
pub record Holds (f : Function) (count : ℕ) (before after : List ℕ) (r : FunctionReport) : Type 0 where
  pub bytes : after ≡ over (flat (cells_of f)) before
  pub instructions : r.instructions ≡ length f.code
  pub events : r.events ≡ length f.events
  pub rewrites : r.rewrites ≡ count
