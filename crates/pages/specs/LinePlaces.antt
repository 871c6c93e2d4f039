-- Promise: where the lines of a function stand (document 02, W1): 'a page has one heading and at most 49 cells'. The theorem: pages/proofs/LinePlaces.antt.
use Rattle.std.specs.Prelude.{ℕ, ◌+◌, ◌-◌, ◌*◌, ◌/◌, ◌<◌, ◌≡◌, cond, [], ltb, length, get_or}
use Rattle.cells.specs.Functions.{Function, there}
use Rattle.cells.specs.declared.walk.Part.TheVariants.{Code, Events}
use Rattle.pages.specs.Pages.{Line, heading, cell_line, name_in, function_lines, pages_of, lines_of}

-- the line of a function's cell at a position: the instructions, and behind them the events
abbrev pub line_of : Function → ℕ → Line
line_of f k =
    cond (ltb k (length f.code)) (cell_line Code k (get_or f.code k [])) (cell_line Events k (get_or f.events (k - length f.code) []))

-- every line by its place, counted from 0: there are no others
pub record LaidOut (f : Function) : Type 0 where
  pub lines : length (function_lines f) ≡ lines_of (there f)
  -- a page takes 50 lines, of which the first is its heading, with the page's number
  pub headings : (p : ℕ) → p < pages_of (there f) → get_or (function_lines f) (50 * p) [] ≡ heading (name_in f) (p + 1)
  -- before a cell stand those before it, and the headings of its page and of those before
  pub cell_lines : (k : ℕ) → k < there f → get_or (function_lines f) (k + k / 49 + 1) [] ≡ line_of f k

abbrev pub FunctionsLaidOut : Type 0
FunctionsLaidOut = (f : Function) → LaidOut f
