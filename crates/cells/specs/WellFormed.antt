-- Promise: a function whose cells all pass the image check (document 01, 'Answers of the operations'), wherever it stands: its head has room for the
-- function's own cells, and counts them; every cell has its 16 bytes.
use Rattle.std.specs.Prelude.{◌≡◌, ℕ, Ok}
use Rattle.cells.specs.Cells.{Cell, Full}
use Rattle.cells.specs.Check.{instruction_check, event_check, head_check}
use Rattle.cells.specs.Functions.{Function, there, Counted, cells_of}
use Rattle.cells.specs.Lists.{All}

abbrev pub InstructionGood : Cell → Type 0
InstructionGood c = (position d : ℕ) → instruction_check position d c ≡ Ok tt

abbrev pub EventGood : Cell → Type 0
EventGood c = (position d : ℕ) → event_check position d c ≡ Ok tt

pub record WellFormed (f : Function) : Type 0 where
  pub head : (position d : ℕ) → head_check position d (there f) f.head ≡ Ok tt
  pub code : All InstructionGood f.code
  pub events : All EventGood f.events
  pub counted : Counted f
  pub full : Full (cells_of f)
