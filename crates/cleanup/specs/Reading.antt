-- Inner: what the code reads of an instruction: what its command is to the sweeps, and its first operand.
use Rattle.std.specs.Prelude.{Bool, true, false, cond, List, ℕ, ◌+◌, ◌*◌, eqb, Option, Some, None}
use Rattle.cells.specs.Bytes.{byte, half}
use Rattle.cells.specs.Table.{class_of}
use Rattle.cells.specs.declared.table.Class.{Class}
use Rattle.cells.specs.declared.table.Class.TheVariants.{NoCommand, LoadQ, LoadBool, LoadF64, LoadI32, LoadU32, LoadFx, Unary, Binary, Label as «LabelClass», Jmp as «JmpClass», JmpIf, Ret as «RetClass», Act, ActDst, ActOptDst}
use Rattle.cleanup.specs.declared.marks.Mark.{Mark}
use Rattle.cleanup.specs.declared.marks.Mark.TheVariants.{Other, Label, Jmp, Ret, Load}
use Rattle.cleanup.specs.declared.marks.Seen.{Seen}

-- the mark of each class
abbrev pub class_mark : Class → Mark
class_mark NoCommand = Other
class_mark LoadQ = Load
class_mark LoadBool = Load
class_mark LoadF64 = Load
class_mark LoadI32 = Load
class_mark LoadU32 = Other
class_mark LoadFx = Load
class_mark Unary = Other
class_mark Binary = Other
class_mark LabelClass = Label
class_mark JmpClass = Jmp
class_mark JmpIf = Other
class_mark RetClass = Ret
class_mark Act = Other
class_mark ActDst = Other
class_mark ActOptDst = Other

-- the cell at a position
abbrev pub seen_at : List ℕ → ℕ → Seen
seen_at s k = record { mark = class_mark (class_of (byte s (16 * k))); operand = half s (16 * k + 1) }

-- the mark found is the one asked for
abbrev pub mark_number : Mark → ℕ
mark_number Other = 0
mark_number Label = 1
mark_number Jmp = 2
mark_number Ret = 3
mark_number Load = 4

abbrev pub is_asked : Mark → Mark → Bool
is_asked asked found = eqb (mark_number asked) (mark_number found)

-- the operand of a cell with the mark asked for
abbrev pub operand_of : Mark → Seen → Option ℕ
operand_of asked s = cond (is_asked asked s.mark) (Some s.operand) None

-- Ret or Jmp
abbrev pub is_terminal : Mark → Bool
is_terminal Other = false
is_terminal Label = false
is_terminal Jmp = true
is_terminal Ret = true
is_terminal Load = false
