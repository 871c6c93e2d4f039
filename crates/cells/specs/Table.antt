-- Promise: the table of the 81 commands, of an event and of a head: what each is, and of what kind its operands are, in the order in which the
-- arm of `fold_constants_and_identities` names them (document 01, 'The cell image'). Every other reading of a cell goes by this table.
use Rattle.std.specs.Prelude.{ℕ, ◌+◌, List, [], ◌∷◌, get_or}
use Rattle.cells.specs.declared.table.Kind.{Kind}
use Rattle.cells.specs.declared.table.Kind.TheVariants.{Reg, OptReg, Flag, Quad, Two, Four, Eight, Site}
use Rattle.cells.specs.declared.table.Class.{Class}
use Rattle.cells.specs.declared.table.Class.TheVariants.{NoCommand, LoadQ, LoadBool, LoadF64, LoadI32, LoadU32, LoadFx, Unary, Binary, Label, Jmp, JmpIf, Ret, Act, ActDst, ActOptDst}

-- how many bytes an operand takes
abbrev pub width_of : Kind → ℕ
width_of Reg = 2
width_of OptReg = 3
width_of Flag = 1
width_of Quad = 1
width_of Two = 2
width_of Four = 4
width_of Eight = 8
width_of Site = 5

pub record Row : Type 0 where
  pub class : Class
  pub operands : List Kind

abbrev pub row : Class → List Kind → Row
row c ks = record { class = c; operands = ks }

-- row n is the command n; the last two are an event's and a head's, which are no commands
unfoldable pub rows : List Row
rows =
    row NoCommand [] ∷  -- 00 no command has this byte
    row Act (Reg ∷ []) ∷  -- 01 Assert
    row ActOptDst (OptReg ∷ Two ∷ Two ∷ []) ∷  -- 02 Call
    row ActDst (Reg ∷ []) ∷  -- 03 ClockRead
    row ActOptDst (OptReg ∷ Two ∷ Two ∷ []) ∷  -- 04 ClosureCall
    row Act (Two ∷ []) ∷  -- 05 EventPost
    row ActDst (Reg ∷ Two ∷ Two ∷ []) ∷  -- 06 GateRead
    row Act (Two ∷ Two ∷ Reg ∷ []) ∷  -- 07 GateWrite
    row Jmp (Two ∷ []) ∷  -- 08 Jmp
    row JmpIf (Reg ∷ Two ∷ []) ∷  -- 09 JmpIf
    row Label (Two ∷ []) ∷  -- 0A Label
    row Act (Two ∷ []) ∷  -- 0B PulseEmit
    row Ret (OptReg ∷ []) ∷  -- 0C Ret
    row ActDst (Reg ∷ Two ∷ Two ∷ []) ∷  -- 0D RngNextI32
    row ActDst (Reg ∷ Two ∷ []) ∷  -- 0E RngSeed
    row ActDst (Reg ∷ Two ∷ []) ∷  -- 0F StateQuery
    row Act (Two ∷ Reg ∷ []) ∷  -- 10 StateUpdate
    row Binary (Reg ∷ Reg ∷ Reg ∷ []) ∷  -- 11 AddF64
    row Binary (Reg ∷ Reg ∷ Reg ∷ []) ∷  -- 12 AddFx
    row Binary (Reg ∷ Reg ∷ Reg ∷ []) ∷  -- 13 AddI32
    row ActDst (Reg ∷ Reg ∷ Two ∷ Two ∷ []) ∷  -- 14 AdtGet
    row ActDst (Reg ∷ Reg ∷ Two ∷ []) ∷  -- 15 AdtTag
    row Binary (Reg ∷ Reg ∷ Reg ∷ []) ∷  -- 16 BoolAnd
    row Unary (Reg ∷ Reg ∷ []) ∷  -- 17 BoolNot
    row Binary (Reg ∷ Reg ∷ Reg ∷ []) ∷  -- 18 BoolOr
    row Binary (Reg ∷ Reg ∷ Reg ∷ []) ∷  -- 19 CmpEq
    row Binary (Reg ∷ Reg ∷ Reg ∷ []) ∷  -- 1A CmpI32Le
    row Binary (Reg ∷ Reg ∷ Reg ∷ []) ∷  -- 1B CmpI32Lt
    row Binary (Reg ∷ Reg ∷ Reg ∷ []) ∷  -- 1C CmpU32Le
    row Binary (Reg ∷ Reg ∷ Reg ∷ []) ∷  -- 1D CmpU32Lt
    row Binary (Reg ∷ Reg ∷ Reg ∷ []) ∷  -- 1E AddU32
    row Binary (Reg ∷ Reg ∷ Reg ∷ []) ∷  -- 1F SubU32
    row Binary (Reg ∷ Reg ∷ Reg ∷ []) ∷  -- 20 MulU32
    row Binary (Reg ∷ Reg ∷ Reg ∷ []) ∷  -- 21 DivU32
    row Binary (Reg ∷ Reg ∷ Reg ∷ []) ∷  -- 22 ModU32
    row Binary (Reg ∷ Reg ∷ Reg ∷ []) ∷  -- 23 CmpNe
    row ActDst (Reg ∷ Reg ∷ Reg ∷ []) ∷  -- 24 ConcatText
    row Binary (Reg ∷ Reg ∷ Reg ∷ []) ∷  -- 25 DivF64
    row Binary (Reg ∷ Reg ∷ Reg ∷ []) ∷  -- 26 DivFx
    row Binary (Reg ∷ Reg ∷ Reg ∷ []) ∷  -- 27 DivI32
    row LoadBool (Reg ∷ Flag ∷ []) ∷  -- 28 LoadBool
    row LoadF64 (Reg ∷ Eight ∷ []) ∷  -- 29 LoadF64
    row LoadFx (Reg ∷ Four ∷ []) ∷  -- 2A LoadFx
    row LoadI32 (Reg ∷ Four ∷ []) ∷  -- 2B LoadI32
    row LoadQ (Reg ∷ Quad ∷ []) ∷  -- 2C LoadQ
    row ActDst (Reg ∷ Two ∷ []) ∷  -- 2D LoadText
    row LoadU32 (Reg ∷ Four ∷ []) ∷  -- 2E LoadU32
    row ActDst (Reg ∷ Two ∷ []) ∷  -- 2F LoadVar
    row ActDst (Reg ∷ Two ∷ Two ∷ Four ∷ Two ∷ []) ∷  -- 30 MakeAdt
    row ActDst (Reg ∷ Two ∷ Two ∷ []) ∷  -- 31 MakeClosure
    row ActDst (Reg ∷ Two ∷ Two ∷ Site ∷ []) ∷  -- 32 MakeRecord
    row ActDst (Reg ∷ Two ∷ []) ∷  -- 33 MakeSequence
    row ActDst (Reg ∷ Two ∷ []) ∷  -- 34 MakeTuple
    row ActDst (Reg ∷ Two ∷ Two ∷ []) ∷  -- 35 MapContains
    row ActDst (Reg ∷ []) ∷  -- 36 MapEmpty
    row ActDst (Reg ∷ Two ∷ Two ∷ Two ∷ []) ∷  -- 37 MapGet
    row ActDst (Reg ∷ Two ∷ Two ∷ Two ∷ []) ∷  -- 38 MapSet
    row Binary (Reg ∷ Reg ∷ Reg ∷ []) ∷  -- 39 ModI32
    row Binary (Reg ∷ Reg ∷ Reg ∷ []) ∷  -- 3A MulF64
    row Binary (Reg ∷ Reg ∷ Reg ∷ []) ∷  -- 3B MulFx
    row Binary (Reg ∷ Reg ∷ Reg ∷ []) ∷  -- 3C MulI32
    row Binary (Reg ∷ Reg ∷ Reg ∷ []) ∷  -- 3D QAnd
    row Binary (Reg ∷ Reg ∷ Reg ∷ []) ∷  -- 3E QImpl
    row Unary (Reg ∷ Reg ∷ []) ∷  -- 3F QNot
    row Binary (Reg ∷ Reg ∷ Reg ∷ []) ∷  -- 40 QOr
    row Binary (Reg ∷ Reg ∷ Reg ∷ []) ∷  -- 41 QTruthAnd
    row Binary (Reg ∷ Reg ∷ Reg ∷ []) ∷  -- 42 QTruthImpl
    row Unary (Reg ∷ Reg ∷ []) ∷  -- 43 QTruthNot
    row Binary (Reg ∷ Reg ∷ Reg ∷ []) ∷  -- 44 QTruthOr
    row ActDst (Reg ∷ Reg ∷ Two ∷ Two ∷ []) ∷  -- 45 RecordGet
    row ActDst (Reg ∷ Two ∷ Two ∷ []) ∷  -- 46 SequenceContains
    row ActDst (Reg ∷ Reg ∷ Two ∷ []) ∷  -- 47 SequenceGet
    row ActDst (Reg ∷ Reg ∷ []) ∷  -- 48 SequenceIsEmpty
    row ActDst (Reg ∷ Reg ∷ []) ∷  -- 49 SequenceLen
    row ActDst (Reg ∷ Reg ∷ []) ∷  -- 4A SequencePop
    row ActDst (Reg ∷ Two ∷ Two ∷ []) ∷  -- 4B SequencePrepend
    row ActDst (Reg ∷ Two ∷ Two ∷ []) ∷  -- 4C SequencePush
    row Act (Two ∷ Reg ∷ Site ∷ Site ∷ []) ∷  -- 4D StoreVar
    row Binary (Reg ∷ Reg ∷ Reg ∷ []) ∷  -- 4E SubF64
    row Binary (Reg ∷ Reg ∷ Reg ∷ []) ∷  -- 4F SubFx
    row Binary (Reg ∷ Reg ∷ Reg ∷ []) ∷  -- 50 SubI32
    row ActDst (Reg ∷ Reg ∷ Two ∷ []) ∷  -- 51 TupleGet
    row NoCommand (Site ∷ Site ∷ Four ∷ []) ∷  -- 52 an event, behind its kind
    row NoCommand (Two ∷ Two ∷ Two ∷ []) ∷  -- 53 a head, behind its F0
    []

abbrev pub event_row : ℕ
event_row = 0x52

abbrev pub head_row : ℕ
head_row = 0x53

abbrev pub row_at : ℕ → Row
row_at n = get_or rows n (row NoCommand [])

abbrev pub row_of : ℕ → List Kind
row_of n = (row_at n).operands

-- what the command n is
unfoldable pub class_of : ℕ → Class
unfolding rows
class_of n = (row_at n).class

-- how many bytes a row's operands take
abbrev pub total : List Kind → ℕ
total [] = 0
total (k ∷ ks) = width_of k + total ks
