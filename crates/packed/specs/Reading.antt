-- Promise: how a packed form is read (document 02, W8): 'import reads cell by cell and the first fault decides: 1 if the cell, there or only
-- promised, takes the result past 65,536 bytes, 3 for an unknown command or event kind, 32 if the packed bytes end inside a cell (a head too) or
-- before a promised one, then 2 (first byte or limits) and 4'.
use Rattle.std.specs.Prelude.{ℕ, zero, suc, ◌+◌, ◌-◌, List, [], ◌∷◌, ◌++◌, Bool, true, false, cond, ◌&&◌, ◌||◌, leb, length, take, drop, replicate, Ok, Err}
use Rattle.cells.specs.Cells.{Cell}
use Rattle.cells.specs.Check.{code_count, event_count, is_command, is_event_kind, instruction_check, event_check, head_check}
use Rattle.cells.specs.declared.refusal.Refusal.{Refusal}
use Rattle.cells.specs.declared.refusal.Refusal.TheVariants.{Length, UnknownCommand}
use Rattle.packed.specs.Form.{Role, Head, Code, Event, role_of, due_behind, size}
use Rattle.cells.specs.Checked.{Checked}

-- ---- what is read: bytes; or a refusal; or 32, with the function's position and the cell's

pub data Result : Type 0 where
  bytes : List ℕ → Result
  refused : Refusal → Result
  ends : ℕ → ℕ → Result

-- behind a check
abbrev pub if_good : Checked → List ℕ → Result
if_good (Ok tt) b = bytes b
if_good (Err x) b = refused x

-- 'the first fault decides'
abbrev pub and_then : Result → Result → Result
and_then (bytes c) (bytes b) = bytes (c ++ b)
and_then (bytes c) (refused x) = refused x
and_then (bytes c) (ends p d) = ends p d
and_then (refused x) t = refused x
and_then (ends p d) t = ends p d

-- ---- the next cell, a head, an instruction or an event, at the start of s

module _ {A : Type 0} where
  abbrev pub empty : List A → Bool
  empty [] = true
  empty (x ∷ xs) = false

-- bytes with zeros behind them, 16 in all
abbrev pub padded : List ℕ → Cell
padded b = b ++ replicate (16 - length b) 0

-- its bytes, as many as its row says
abbrev pub next_cell : Role → List ℕ → Cell
next_cell r s = padded (take (size r s) s)

abbrev pub known : Role → List ℕ → Bool
known Head s = true
known Code s = is_command s
known Event s = is_event_kind s

-- 2 and 4, of a cell with all its bytes. The cells that a head promises are not looked for yet
abbrev pub cell_check : Role → ℕ → ℕ → Cell → Checked
cell_check Head p d c = head_check p d (code_count c + event_count c) c
cell_check Code p d c = instruction_check p d c
cell_check Event p d c = event_check p d c

-- in the function at the position p, the cell d of the image: 3 as soon as a byte is there, 32, then 2 and 4
unfoldable pub read_cell : Role → ℕ → ℕ → List ℕ → Result
read_cell r p d s =
    cond (empty s || known r s)
    (cond (leb (size r s) (length s)) (if_good (cell_check r p d (next_cell r s)) (next_cell r s)) (ends p d))
    (refused (UnknownCommand p d))

-- ---- all cells

-- no byte is left, and no cell is promised
abbrev pub finished : List Role → List ℕ → Bool
finished due s = empty due && empty s

-- the next cell's function, by what is promised behind this one: where nothing is, the next function
abbrev pub next_position : ℕ → List Role → ℕ
next_position p [] = p + 1
next_position p (r ∷ due) = p

-- the cells from the cell d on, where these are promised. An image has room for so many more: else 1
unfoldable pub unpack_from : ℕ → ℕ → ℕ → List Role → List ℕ → Result
unpack_from zero p d due s = cond (finished due s) (bytes []) (refused Length)
unpack_from (suc room) p d due s =
    cond (finished due s) (bytes [])
    (and_then (read_cell (role_of due) p d s)
    (unpack_from room (next_position p (due_behind due s)) (d + 1) (due_behind due s) (drop (size (role_of due) s) s)))

-- 65,536 bytes are 4,096 cells
unfoldable pub unpacked : List ℕ → Result
unpacked s = unpack_from 4096 0 0 [] s
