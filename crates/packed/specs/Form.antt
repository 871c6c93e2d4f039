-- Promise: the packed form of an image (document 02, W8): 'each cell keeps only the bytes its command, head or event defines', one cell after
-- another.
use Rattle.std.specs.Prelude.{ℕ, ◌+◌, List, [], ◌∷◌, ◌++◌, take, replicate}
use Rattle.cells.specs.Bytes.{byte}
use Rattle.cells.specs.Cells.{Cell, cells}
use Rattle.cells.specs.Check.{code_count, event_count}
use Rattle.cells.specs.Table.{row_of, total, event_row, head_row}

-- ---- what a cell is: a head promises its instruction cells, then its event cells. Where no cell is promised, the next one is a head

pub data Role : Type 0 where
  Head : Role
  Code : Role
  Event : Role

abbrev pub promise : ℕ → ℕ → List Role
promise n m = replicate n Code ++ replicate m Event

-- the next cell, where these are promised
abbrev pub role_of : List Role → Role
role_of [] = Head
role_of (r ∷ due) = r

-- the cells promised behind it
abbrev pub due_behind : List Role → List ℕ → List Role
due_behind [] h = promise (code_count h) (event_count h)
due_behind (r ∷ due) c = due

-- ---- what is kept of it

-- its row in the table of commands, of an event and of a head
abbrev pub row_for : Role → List ℕ → ℕ
row_for Head c = head_row
row_for Code c = byte c 0
row_for Event c = event_row

-- its first byte, and as many as the operands of its row take
unfoldable pub row_size : ℕ → ℕ
row_size n = 1 + total (row_of n)

abbrev pub size : Role → List ℕ → ℕ
size r c = row_size (row_for r c)

abbrev pub keep : Role → Cell → List ℕ
keep r c = take (size r c) c

-- ---- the packed form of cells, where these are promised, and of an image

abbrev pub pack_from : List Role → List Cell → List ℕ
pack_from due [] = []
pack_from due (c ∷ cs) = keep (role_of due) c ++ pack_from (due_behind due c) cs

unfoldable pub packed : List ℕ → List ℕ
packed s = pack_from [] (cells s)
