-- Worked: cells written out by hand, for the worked tables: each by the name of its command or event, with the operands that the tables vary.
use Rattle.std.specs.Prelude.{List, [], ◌∷◌, ◌++◌, ℕ, ◌-◌, length, replicate}
use Rattle.cells.specs.Bytes.{bytes}
use Rattle.cells.specs.Cells.{Cell, flat}

-- a cell by its bytes up to the spare ones, which are zero
abbrev pub cell : List ℕ → Cell
cell s = s ++ replicate (16 - length s) 0

-- ---- control flow

abbrev pub Label : ℕ → Cell
Label l = cell (0x0A ∷ bytes 2 l)

abbrev pub Jmp : ℕ → Cell
Jmp l = cell (0x08 ∷ bytes 2 l)

abbrev pub JmpIf : ℕ → ℕ → Cell
JmpIf c l = cell (0x09 ∷ bytes 2 c ++ bytes 2 l)

abbrev pub Ret : ℕ → Cell
Ret s = cell (0x0C ∷ 1 ∷ bytes 2 s)

abbrev pub RetNothing : Cell
RetNothing = cell (0x0C ∷ [])

-- ---- loads: dst and the value's number or bits

abbrev pub LoadBool : ℕ → ℕ → Cell
LoadBool d v = cell (0x28 ∷ bytes 2 d ++ v ∷ [])

abbrev pub LoadF64 : ℕ → ℕ → Cell
LoadF64 d v = cell (0x29 ∷ bytes 2 d ++ bytes 8 v)

abbrev pub LoadFx : ℕ → ℕ → Cell
LoadFx d v = cell (0x2A ∷ bytes 2 d ++ bytes 4 v)

abbrev pub LoadI32 : ℕ → ℕ → Cell
LoadI32 d v = cell (0x2B ∷ bytes 2 d ++ bytes 4 v)

abbrev pub LoadQ : ℕ → ℕ → Cell
LoadQ d v = cell (0x2C ∷ bytes 2 d ++ v ∷ [])

abbrev pub LoadU32 : ℕ → ℕ → Cell
LoadU32 d v = cell (0x2E ∷ bytes 2 d ++ bytes 4 v)

-- ---- computed commands, of two operands or of one: dst, lhs, rhs · dst, src

abbrev pub binary : ℕ → ℕ → ℕ → ℕ → Cell
binary command d a b = cell (command ∷ bytes 2 d ++ bytes 2 a ++ bytes 2 b)

abbrev pub unary : ℕ → ℕ → ℕ → Cell
unary command d a = cell (command ∷ bytes 2 d ++ bytes 2 a)

abbrev pub AddI32 : ℕ → ℕ → ℕ → Cell
AddI32 = binary 0x13

abbrev pub CmpEq : ℕ → ℕ → ℕ → Cell
CmpEq = binary 0x19

abbrev pub CmpNe : ℕ → ℕ → ℕ → Cell
CmpNe = binary 0x23

abbrev pub DivF64 : ℕ → ℕ → ℕ → Cell
DivF64 = binary 0x25

abbrev pub SubF64 : ℕ → ℕ → ℕ → Cell
SubF64 = binary 0x4E

abbrev pub QAnd : ℕ → ℕ → ℕ → Cell
QAnd = binary 0x3D

abbrev pub QTruthAnd : ℕ → ℕ → ℕ → Cell
QTruthAnd = binary 0x41

abbrev pub QTruthImpl : ℕ → ℕ → ℕ → Cell
QTruthImpl = binary 0x42

abbrev pub QTruthNot : ℕ → ℕ → Cell
QTruthNot = unary 0x43

abbrev pub QTruthOr : ℕ → ℕ → ℕ → Cell
QTruthOr = binary 0x44

-- ---- outside actions: Assert cond · Call dst 9, with and without a dst · ClockRead dst

abbrev pub Assert : ℕ → Cell
Assert c = cell (0x01 ∷ bytes 2 c)

abbrev pub Call : ℕ → Cell
Call d = cell (0x02 ∷ 1 ∷ bytes 2 d ++ bytes 2 9)

abbrev pub CallNothing : Cell
CallNothing = cell (0x02 ∷ 0 ∷ 0 ∷ 0 ∷ bytes 2 9)

abbrev pub ClockRead : ℕ → Cell
ClockRead d = cell (0x03 ∷ bytes 2 d)

-- ---- sites: there, or absent; the commands and events that may have them, the activation site before the write site

abbrev pub site : ℕ → List ℕ
site x = 1 ∷ bytes 4 x

abbrev pub no_site : List ℕ
no_site = 0 ∷ bytes 4 0

-- of the variable 5 and a register, without sites; of variable and register 0, with sites
abbrev pub StoreVar : ℕ → Cell
StoreVar s = cell (0x4D ∷ bytes 2 5 ++ bytes 2 s)

abbrev pub StoreVarSited : List ℕ → List ℕ → Cell
StoreVarSited activation write = cell (0x4D ∷ bytes 2 0 ++ bytes 2 0 ++ activation ++ write)

abbrev pub MakeRecord : List ℕ → Cell
MakeRecord write = cell (0x32 ∷ bytes 2 0 ++ bytes 2 0 ++ bytes 2 0 ++ write)

abbrev pub Borrow : List ℕ → List ℕ → Cell
Borrow activation write = cell (0 ∷ activation ++ write)

abbrev pub Write : List ℕ → List ℕ → Cell
Write activation write = cell (1 ∷ activation ++ write)

-- ---- functions: a head of a name and two counts; a function 7 of instruction cells and event cells, as bytes

abbrev pub Head : ℕ → ℕ → ℕ → Cell
Head name n m = cell (0xF0 ∷ bytes 2 name ++ bytes 2 n ++ bytes 2 m)

abbrev pub function : List Cell → List Cell → List ℕ
function cs es = Head 7 (length cs) (length es) ++ flat cs ++ flat es
