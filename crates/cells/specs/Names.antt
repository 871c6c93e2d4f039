-- Promise: the names of the 81 commands, which are the Rust's (`IrInstr`), and of the two kinds of events (document 02, W1). A command's row is
-- that of the table of commands (Table.antt), an event's is its kind; `tests/table.py` holds them against the Rust's text.
use Prim.Native.String.{String}
use Rattle.std.specs.Prelude.{List, [], ◌∷◌, get_or}
use Rattle.cells.specs.Bytes.{byte}
use Rattle.cells.specs.Cells.{Cell}
use Rattle.cells.specs.declared.walk.Part.{Part}
use Rattle.cells.specs.declared.walk.Part.TheVariants.{Code, Events}

unfoldable pub command_names : List String
command_names =
    "" ∷  -- 00 no command has this byte
    "Assert" ∷  -- 01
    "Call" ∷  -- 02
    "ClockRead" ∷  -- 03
    "ClosureCall" ∷  -- 04
    "EventPost" ∷  -- 05
    "GateRead" ∷  -- 06
    "GateWrite" ∷  -- 07
    "Jmp" ∷  -- 08
    "JmpIf" ∷  -- 09
    "Label" ∷  -- 0A
    "PulseEmit" ∷  -- 0B
    "Ret" ∷  -- 0C
    "RngNextI32" ∷  -- 0D
    "RngSeed" ∷  -- 0E
    "StateQuery" ∷  -- 0F
    "StateUpdate" ∷  -- 10
    "AddF64" ∷  -- 11
    "AddFx" ∷  -- 12
    "AddI32" ∷  -- 13
    "AdtGet" ∷  -- 14
    "AdtTag" ∷  -- 15
    "BoolAnd" ∷  -- 16
    "BoolNot" ∷  -- 17
    "BoolOr" ∷  -- 18
    "CmpEq" ∷  -- 19
    "CmpI32Le" ∷  -- 1A
    "CmpI32Lt" ∷  -- 1B
    "CmpU32Le" ∷  -- 1C
    "CmpU32Lt" ∷  -- 1D
    "AddU32" ∷  -- 1E
    "SubU32" ∷  -- 1F
    "MulU32" ∷  -- 20
    "DivU32" ∷  -- 21
    "ModU32" ∷  -- 22
    "CmpNe" ∷  -- 23
    "ConcatText" ∷  -- 24
    "DivF64" ∷  -- 25
    "DivFx" ∷  -- 26
    "DivI32" ∷  -- 27
    "LoadBool" ∷  -- 28
    "LoadF64" ∷  -- 29
    "LoadFx" ∷  -- 2A
    "LoadI32" ∷  -- 2B
    "LoadQ" ∷  -- 2C
    "LoadText" ∷  -- 2D
    "LoadU32" ∷  -- 2E
    "LoadVar" ∷  -- 2F
    "MakeAdt" ∷  -- 30
    "MakeClosure" ∷  -- 31
    "MakeRecord" ∷  -- 32
    "MakeSequence" ∷  -- 33
    "MakeTuple" ∷  -- 34
    "MapContains" ∷  -- 35
    "MapEmpty" ∷  -- 36
    "MapGet" ∷  -- 37
    "MapSet" ∷  -- 38
    "ModI32" ∷  -- 39
    "MulF64" ∷  -- 3A
    "MulFx" ∷  -- 3B
    "MulI32" ∷  -- 3C
    "QAnd" ∷  -- 3D
    "QImpl" ∷  -- 3E
    "QNot" ∷  -- 3F
    "QOr" ∷  -- 40
    "QTruthAnd" ∷  -- 41
    "QTruthImpl" ∷  -- 42
    "QTruthNot" ∷  -- 43
    "QTruthOr" ∷  -- 44
    "RecordGet" ∷  -- 45
    "SequenceContains" ∷  -- 46
    "SequenceGet" ∷  -- 47
    "SequenceIsEmpty" ∷  -- 48
    "SequenceLen" ∷  -- 49
    "SequencePop" ∷  -- 4A
    "SequencePrepend" ∷  -- 4B
    "SequencePush" ∷  -- 4C
    "StoreVar" ∷  -- 4D
    "SubF64" ∷  -- 4E
    "SubFx" ∷  -- 4F
    "SubI32" ∷  -- 50
    "TupleGet" ∷  -- 51
    []

unfoldable pub event_names : List String
event_names =
    "Borrow" ∷  -- 00
    "Write" ∷  -- 01
    []

-- the name of a cell, by the part in which it stands: its command's, or its kind's
abbrev pub name_of : Part → Cell → String
name_of Code c = get_or command_names (byte c 0) ""
name_of Events c = get_or event_names (byte c 0) ""
