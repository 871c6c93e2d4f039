-- Promise: the image check (document 01, 'Answers of the operations'): 1 a length above 65,536 or no multiple of 16; then, cell by cell, 2, 3 and 4.
use Rattle.std.specs.Prelude.{ℕ, ◌+◌, ◌%◌, ◌≤◌, ◌≡◌, List, [], ◌∷◌, Bool, true, cond, ◌&&◌, leb, eqb, length, Ok, Err}
use Rattle.cells.specs.Bytes.{byte}
use Rattle.cells.specs.Cells.{Cell, cells}
use Rattle.cells.specs.Lists.{All}
use Rattle.cells.specs.Table.{event_row, head_row}
use Rattle.cells.specs.Answers.{or_else}
use Rattle.cells.specs.Check.{max_image, is_command, is_event_kind, is_head, row_ok, instruction_check, event_check, head_check}
use Rattle.cells.specs.Functions.{Function, there, functions}
use Rattle.cells.specs.declared.refusal.Refusal.TheVariants.{Length}
use Rattle.cells.specs.declared.walk.Part.{Part}
use Rattle.cells.specs.declared.walk.Part.TheVariants.{Code, Events}
use Rattle.cells.specs.Checked.{Checked}

-- a cell of a part, the cell d of the image, in the function at a position
abbrev pub cell_check : Part → ℕ → ℕ → Cell → Checked
cell_check Code position d c = instruction_check position d c
cell_check Events position d c = event_check position d c

-- the cells of a part one after another, the first being the image's cell d
abbrev pub cells_answer : Part → ℕ → ℕ → List Cell → Checked
cells_answer p position d [] = Ok tt
cells_answer p position d (c ∷ cs) = or_else (cell_check p position d c) (cells_answer p position (d + 1) cs)

-- one function, whose head is the image's cell d
abbrev pub function_answer : ℕ → ℕ → Function → Checked
function_answer position d f =
    or_else (head_check position d (there f) f.head)
    (or_else (cells_answer Code position (d + 1) f.code)
    (cells_answer Events position (d + 1 + length f.code) f.events))

abbrev pub functions_answer : ℕ → ℕ → List Function → Checked
functions_answer position d [] = Ok tt
functions_answer position d (f ∷ fs) =
    or_else (function_answer position d f) (functions_answer (position + 1) (d + 1 + length f.code + length f.events) fs)

abbrev pub good_length : List ℕ → Bool
good_length s = leb (length s) max_image && eqb (length s % 16) 0

-- the whole image
unfoldable pub image_answer : List ℕ → Checked
image_answer s = cond (good_length s) (functions_answer 0 0 (functions (cells s))) (Err Length)

-- ---- what a good image is

pub record GoodFunction (f : Function) : Type 0 where
  -- F0, counts within the limits, and as many cells behind it
  pub head : is_head (there f) f.head ≡ true
  pub spare : row_ok head_row f.head ≡ true
  -- known commands and event kinds, with operands in range
  pub code : All (λ (c : Cell). (is_command c ≡ true) × (row_ok (byte c 0) c ≡ true)) f.code
  pub events : All (λ (e : Cell). (is_event_kind e ≡ true) × (row_ok event_row e ≡ true)) f.events

pub record GoodImage (s : List ℕ) : Type 0 where
  pub short : length s ≤ max_image
  pub even : length s % 16 ≡ 0
  pub all : All GoodFunction (functions (cells s))
