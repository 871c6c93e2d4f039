-- Promise: the check of one cell (document 01, 'Answers of the operations'): 2 a head whose first byte is not F0, or whose counts pass a limit or the
-- image's end; 3 an unknown command or event kind; 4 an operand out of range, or a spare byte or an absent value not zero.
use Rattle.std.specs.Prelude.{ℕ, ◌+◌, List, [], ◌∷◌, Bool, true, cond, ◌&&◌, ltb, leb, eqb, drop, Err}
use Rattle.cells.specs.Bytes.{byte, half, word, zeros}
use Rattle.cells.specs.Cells.{Cell}
use Rattle.cells.specs.Table.{row_of, width_of, event_row, head_row}
use Rattle.cells.specs.Answers.{unless}
use Rattle.cells.specs.declared.table.Kind.{Kind}
use Rattle.cells.specs.declared.table.Kind.TheVariants.{Reg, OptReg, Flag, Quad, Two, Four, Eight, Site}
use Rattle.cells.specs.declared.refusal.Refusal.TheVariants.{Head, UnknownCommand, Operand}
use Rattle.cells.specs.Checked.{Checked}

-- the limits: registers are 0 to 1,023 (document 02, W7; document 01 had 0 to 255), at most 2,048 instructions and 1,024 events a function, at
-- most 65,536 bytes an image
abbrev pub registers : ℕ
registers = 1024

abbrev pub max_instructions : ℕ
max_instructions = 2048

abbrev pub max_events : ℕ
max_events = 1024

abbrev pub max_image : ℕ
max_image = 65536

-- a presence byte is 0 or 1, and an absent value is zero
abbrev pub present : ℕ → ℕ → Bool
present p v = cond (eqb p 1) true (eqb p 0 && eqb v 0)

-- an operand of kind k whose first byte is at
abbrev pub operand_ok : Kind → Cell → ℕ → Bool
operand_ok Reg c at = ltb (half c at) registers
operand_ok OptReg c at = present (byte c at) (half c (at + 1)) && ltb (half c (at + 1)) registers
operand_ok Flag c at = ltb (byte c at) 2
operand_ok Quad c at = ltb (byte c at) 4
operand_ok Two c at = true
operand_ok Four c at = true
operand_ok Eight c at = true
operand_ok Site c at = present (byte c at) (word c (at + 1))

-- the operands one after another, the first at the byte at, and zeros behind the last
abbrev pub operands_ok : List Kind → Cell → ℕ → Bool
operands_ok [] c at = zeros (drop at c)
operands_ok (k ∷ ks) c at = operand_ok k c at && operands_ok ks c (at + width_of k)

-- the operands of a row stand behind the cell's first byte
abbrev pub row_ok : ℕ → Cell → Bool
row_ok row c = operands_ok (row_of row) c 1

-- commands are 01 to 51, event kinds 0 and 1
abbrev pub is_command : Cell → Bool
is_command c = ltb 0 (byte c 0) && leb (byte c 0) 0x51

abbrev pub is_event_kind : Cell → Bool
is_event_kind c = leb (byte c 0) 1

-- the cell d of the image, in the function at a position
unfoldable pub instruction_check : ℕ → ℕ → Cell → Checked
instruction_check position d c =
    cond (is_command c) (unless (row_ok (byte c 0) c) (Operand position d)) (Err (UnknownCommand position d))

unfoldable pub event_check : ℕ → ℕ → Cell → Checked
event_check position d c =
    cond (is_event_kind c) (unless (row_ok event_row c) (Operand position d)) (Err (UnknownCommand position d))

-- a head: F0, the name, the count of instruction cells and that of event cells
abbrev pub code_count : Cell → ℕ
code_count c = half c 3

abbrev pub event_count : Cell → ℕ
event_count c = half c 5

-- a head that has so many cells behind it
abbrev pub is_head : ℕ → Cell → Bool
is_head after c =
    eqb (byte c 0) 0xf0 && leb (code_count c) max_instructions && leb (event_count c) max_events && leb (code_count c + event_count c) after

unfoldable pub head_check : ℕ → ℕ → ℕ → Cell → Checked
head_check position d after c =
    cond (is_head after c) (unless (row_ok head_row c) (Operand position d)) (Err (Head position d))
