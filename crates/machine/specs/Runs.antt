-- Worked: runs: short functions whose records are written out by hand from document 01, 'How a function runs', and document 02, W2, W4 and W7. One
-- table, and one theorem of all its rows: every cause of an end, every kind of move, and each of the 81 commands.
use Rattle.std.specs.Prelude.{◌≡◌, refl, true, false, cond, List, [], ◌∷◌, ◌++◌, map, ℕ, zero, suc, ◌-◌, eqb, ltb, length, None, Some}
use Rattle.std.specs.Float.Ieee as Ieee
use Rattle.leaves.specs.declared.quad.Quad.TheVariants.{N, F, T, S}
use Rattle.leaves.specs.Signed.{wrap, add_i32, sub_i32, mul_i32, div_i32, mod_i32}
use Rattle.leaves.specs.Unsigned.{add_u32, sub_u32, mul_u32, div_u32, mod_u32}
use Rattle.leaves.specs.Fixed.{add_fx, sub_fx, mul_fx, div_fx}
use Rattle.leaves.specs.Float.{float_of, bits_of}
use Rattle.leaves.specs.Quads.{meet, join, quad_of}
use Rattle.leaves.specs.Constants.{const_eq}
use Rattle.cells.specs.Cells.{Cell}
use Rattle.cells.specs.Check.{registers}
use Rattle.cells.specs.Ins.{Const, quad, bool, f64, i32, u32, fx}
use Rattle.cells.specs.Table.{rows, class_of}
use Rattle.cells.specs.View.{view, load_cell}
use Rattle.cells.specs.Assembler.{cell, Label, Jmp, JmpIf, Ret, RetNothing, LoadBool, LoadF64, LoadFx, LoadI32, LoadQ, LoadU32, binary, unary, AddI32, CmpEq, CmpNe, Assert, Call, CallNothing, ClockRead, StoreVar}
use Rattle.machine.specs.Values.{Value, con, other, Regs, set, put, shown}
use Rattle.machine.specs.Compute.{meanings, meaning, compute}
use Rattle.machine.specs.Run.{Cause, stopped, unfit_operand, no_result, missing_label, returned, last_cell, Entry, did, ended, stop, go, Outside, exec, after}

-- ---- registers: at the start, register x holds "other" with the bits x

abbrev pub initial : Regs
initial = λ x. other x

-- so many registers from x on as they are at the start
abbrev pub untouched : ℕ → ℕ → List Value
untouched x zero = []
untouched x (suc n) = other x ∷ untouched (suc x) n

-- all registers, those from 0 on being these, and the rest as at the start
abbrev pub holding : List Value → List Value
holding vs = vs ++ untouched (length vs) (registers - length vs)

-- all as at the start but the last one, 1,023
abbrev pub last_holding : Value → List Value
last_holding v = untouched 0 1023 ++ (v ∷ [])

abbrev pub as_started : List Value
as_started = holding []

-- ---- outsides

-- stops at once; stops at its second question; goes on with the number of entries so far; goes on with whether they are fewer than three
abbrev pub stops : Outside
stops h = stop

abbrev pub stops_second : Outside
stops_second h = cond (eqb (length h) 2) stop (go (con (bool true)))

abbrev pub counts : Outside
counts h = go (con (u32 (length h)))

abbrev pub thrice : Outside
thrice h = go (con (bool (ltb (length h) 3)))

-- ---- the table

pub record Worked : Type 0 where
  pub function : List Cell
  pub outside : Outside
  pub steps : ℕ
  pub entries : List Entry

abbrev pub worked : List Cell → Outside → ℕ → List Entry → Worked
worked p O n h = record { function = p; outside = O; steps = n; entries = h }

-- a command of two operands, or of one, at constants in r1 and r2: its result in r3, or the cause for which it ends the run
abbrev pub computes : ℕ → Const → Const → Const → Worked
computes o a b v =
    worked (load_cell 1 a ∷ load_cell 2 b ∷ binary o 3 1 2 ∷ []) stops 3
    (ended last_cell (holding (other 0 ∷ con a ∷ con b ∷ con v ∷ [])) ∷ [])

abbrev pub computes₁ : ℕ → Const → Const → Worked
computes₁ o a v =
    worked (load_cell 1 a ∷ unary o 3 1 ∷ []) stops 2 (ended last_cell (holding (other 0 ∷ con a ∷ other 2 ∷ con v ∷ [])) ∷ [])

abbrev pub fails : ℕ → Const → Const → Cause → Worked
fails o a b e =
    worked (load_cell 1 a ∷ load_cell 2 b ∷ binary o 3 1 2 ∷ []) stops 3 (ended e (holding (other 0 ∷ con a ∷ con b ∷ [])) ∷ [])

abbrev pub fails₁ : ℕ → Const → Cause → Worked
fails₁ o a e = worked (load_cell 1 a ∷ unary o 3 1 ∷ []) stops 2 (ended e (holding (other 0 ∷ con a ∷ [])) ∷ [])

-- commands of two operands, of which one is k and the other one "other": r1 as at the start, then r2
abbrev pub other_left : Const → ℕ → Worked
other_left k o =
    worked (load_cell 2 k ∷ binary o 3 1 2 ∷ []) stops 2 (ended unfit_operand (holding (other 0 ∷ other 1 ∷ con k ∷ [])) ∷ [])

abbrev pub other_right : Const → ℕ → Worked
other_right k o = worked (load_cell 1 k ∷ binary o 3 1 2 ∷ []) stops 2 (ended unfit_operand (holding (other 0 ∷ con k ∷ [])) ∷ [])

abbrev pub beside_other : Const → List ℕ → List Worked
beside_other k os = map (other_left k) os ++ map (other_right k) os

-- a command of one operand, which is "other"
abbrev pub of_other : ℕ → Worked
of_other o = worked (unary o 3 1 ∷ []) stops 1 (ended unfit_operand as_started ∷ [])

-- a command of any number, its first operand being 1: an outside action, whose answer goes to dst, r1, or nowhere
abbrev pub answered : ℕ → Worked
answered o =
    worked (cell (o ∷ 1 ∷ []) ∷ []) counts 1
    (did (cell (o ∷ 1 ∷ [])) as_started ∷ ended last_cell (holding (other 0 ∷ con (u32 1) ∷ [])) ∷ [])

abbrev pub unanswered : ℕ → Worked
unanswered o = worked (cell (o ∷ 1 ∷ []) ∷ []) counts 1 (did (cell (o ∷ 1 ∷ [])) as_started ∷ ended last_cell as_started ∷ [])

abbrev pub runs : List Worked
runs =
    -- a function without instruction cells ends before any step, and keeps its record
    worked [] stops 0 (ended last_cell as_started ∷ [])
    ∷ worked [] stops 3 (ended last_cell as_started ∷ [])
    -- a load; the end comes in the step of the last cell, and stays
    ∷ worked (LoadI32 1 5 ∷ []) stops 0 []
    ∷ worked (LoadI32 1 5 ∷ []) stops 1 (ended last_cell (holding (other 0 ∷ con (i32 5) ∷ [])) ∷ [])
    ∷ worked (LoadI32 1 5 ∷ []) stops 2 (ended last_cell (holding (other 0 ∷ con (i32 5) ∷ [])) ∷ [])
    -- the six kinds; a load keeps the bits of a NaN
    ∷ worked (LoadQ 0 3 ∷ LoadBool 1 1 ∷ LoadF64 2 0x7FF0000000000001 ∷ LoadI32 3 0xFFFFFFFF ∷ LoadU32 4 7 ∷ LoadFx 5 1500 ∷ []) stops 6
    (ended last_cell
    (holding (con (quad S) ∷ con (bool true) ∷ con (f64 0x7FF0000000000001) ∷ con (i32 0xFFFFFFFF) ∷ con (u32 7) ∷ con (fx 1500) ∷ []))
    ∷ [])
    -- the last register as a dst of a load, of a computed command and of an action, and as an optional dst
    ∷ worked (LoadBool 1023 0 ∷ []) stops 1 (ended last_cell (last_holding (con (bool false))) ∷ [])
    ∷ worked (LoadI32 0 5 ∷ AddI32 1023 0 0 ∷ []) stops 2 (ended last_cell (con (i32 5) ∷ untouched 1 1022 ++ (con (i32 10) ∷ [])) ∷ [])
    ∷ worked (ClockRead 1023 ∷ []) counts 1 (did (ClockRead 1023) as_started ∷ ended last_cell (last_holding (con (u32 1))) ∷ [])
    ∷ worked (Call 1023 ∷ []) counts 1 (did (Call 1023) as_started ∷ ended last_cell (last_holding (con (u32 1))) ∷ [])
    -- as src, of a computed command and of an action, as lhs, as rhs and as cond
    ∷ worked (LoadBool 1023 0 ∷ unary 0x17 0 1023 ∷ []) stops 2 (ended last_cell (con (bool true) ∷ untouched 1 1022 ++ (con (bool false) ∷ [])) ∷ [])
    ∷ worked (LoadBool 1023 0 ∷ StoreVar 1023 ∷ []) counts 2
    (did (StoreVar 1023) (last_holding (con (bool false))) ∷ ended last_cell (last_holding (con (bool false))) ∷ [])
    ∷ worked (LoadI32 0 5 ∷ LoadI32 1023 7 ∷ binary 0x50 0 1023 0 ∷ []) stops 3
    (ended last_cell (con (i32 2) ∷ untouched 1 1022 ++ (con (i32 7) ∷ [])) ∷ [])
    ∷ worked (LoadI32 0 7 ∷ LoadI32 1023 5 ∷ binary 0x50 0 0 1023 ∷ []) stops 3
    (ended last_cell (con (i32 2) ∷ untouched 1 1022 ++ (con (i32 5) ∷ [])) ∷ [])
    ∷ worked (LoadBool 1023 1 ∷ JmpIf 1023 3 ∷ RetNothing ∷ Label 3 ∷ []) stops 3 (ended last_cell (last_holding (con (bool true))) ∷ [])
    -- as an optional src
    ∷ worked (LoadBool 1023 0 ∷ Ret 1023 ∷ []) stops 2 (ended (returned (Some 1023)) (last_holding (con (bool false))) ∷ [])
    -- 255, 256 and 1,023 hold three values; 1 and 257 are two registers, as are 255 and 511, whose low bytes are the same
    ∷ worked (LoadI32 255 1 ∷ LoadI32 256 2 ∷ LoadI32 1023 3 ∷ []) stops 3
    (ended last_cell (untouched 0 255 ++ con (i32 1) ∷ con (i32 2) ∷ untouched 257 766 ++ (con (i32 3) ∷ [])) ∷ [])
    ∷ worked (LoadI32 1 5 ∷ LoadI32 257 7 ∷ AddI32 0 1 257 ∷ []) stops 3
    (ended last_cell (con (i32 12) ∷ con (i32 5) ∷ untouched 2 255 ++ con (i32 7) ∷ untouched 258 766) ∷ [])
    ∷ worked (LoadBool 511 1 ∷ JmpIf 255 3 ∷ Label 3 ∷ []) stops 2
    (ended unfit_operand (untouched 0 511 ++ con (bool true) ∷ untouched 512 512) ∷ [])
    -- Label does nothing, in a step
    ∷ worked (Label 1 ∷ LoadBool 1 1 ∷ []) stops 1 []
    ∷ worked (Label 1 ∷ []) stops 1 (ended last_cell as_started ∷ [])
    -- Jmp goes to the first label of that name, which is the next step
    ∷ worked (Jmp 2 ∷ LoadI32 1 1 ∷ Label 2 ∷ LoadI32 2 2 ∷ []) stops 2 []
    ∷ worked (Jmp 2 ∷ LoadI32 1 1 ∷ Label 2 ∷ LoadI32 2 2 ∷ []) stops 3
    (ended last_cell (holding (other 0 ∷ other 1 ∷ con (i32 2) ∷ [])) ∷ [])
    ∷ worked (Jmp 1 ∷ Label 1 ∷ Ret 3 ∷ Label 1 ∷ Ret 4 ∷ []) stops 3 (ended (returned (Some 3)) as_started ∷ [])
    ∷ worked (Jmp 2 ∷ Label 1 ∷ Ret 3 ∷ Label 2 ∷ Jmp 1 ∷ Label 1 ∷ []) stops 5 (ended (returned (Some 3)) as_started ∷ [])
    -- a missing label, also one that only its low byte names
    ∷ worked (Jmp 4 ∷ Label 5 ∷ []) stops 1 (ended missing_label as_started ∷ [])
    ∷ worked (cell (0x08 ∷ 4 ∷ 1 ∷ []) ∷ Label 4 ∷ []) stops 1 (ended missing_label as_started ∷ [])
    -- JmpIf goes if true
    ∷ worked (LoadBool 1 1 ∷ JmpIf 1 3 ∷ RetNothing ∷ Label 3 ∷ Ret 1 ∷ []) stops 4
    (ended (returned (Some 1)) (holding (other 0 ∷ con (bool true) ∷ [])) ∷ [])
    ∷ worked (LoadBool 1 0 ∷ JmpIf 1 3 ∷ RetNothing ∷ Label 3 ∷ Ret 1 ∷ []) stops 3
    (ended (returned None) (holding (other 0 ∷ con (bool false) ∷ [])) ∷ [])
    -- and needs its label only then
    ∷ worked (LoadBool 1 1 ∷ JmpIf 1 3 ∷ []) stops 2 (ended missing_label (holding (other 0 ∷ con (bool true) ∷ [])) ∷ [])
    ∷ worked (LoadBool 1 0 ∷ JmpIf 1 3 ∷ []) stops 2 (ended last_cell (holding (other 0 ∷ con (bool false) ∷ [])) ∷ [])
    -- and a bool
    ∷ worked (LoadI32 1 1 ∷ JmpIf 1 3 ∷ Label 3 ∷ []) stops 2 (ended unfit_operand (holding (other 0 ∷ con (i32 1) ∷ [])) ∷ [])
    ∷ worked (LoadQ 1 2 ∷ JmpIf 1 3 ∷ Label 3 ∷ []) stops 2 (ended unfit_operand (holding (other 0 ∷ con (quad T) ∷ [])) ∷ [])
    ∷ worked (LoadF64 1 1 ∷ JmpIf 1 3 ∷ Label 3 ∷ []) stops 2 (ended unfit_operand (holding (other 0 ∷ con (f64 1) ∷ [])) ∷ [])
    ∷ worked (LoadU32 1 1 ∷ JmpIf 1 3 ∷ Label 3 ∷ []) stops 2 (ended unfit_operand (holding (other 0 ∷ con (u32 1) ∷ [])) ∷ [])
    ∷ worked (LoadFx 1 1 ∷ JmpIf 1 3 ∷ Label 3 ∷ []) stops 2 (ended unfit_operand (holding (other 0 ∷ con (fx 1) ∷ [])) ∷ [])
    ∷ worked (JmpIf 1 3 ∷ []) stops 1 (ended unfit_operand as_started ∷ [])
    -- Ret, with and without src; its cause is Ret also as the last cell
    ∷ worked (Ret 2 ∷ LoadI32 1 1 ∷ []) stops 1 (ended (returned (Some 2)) as_started ∷ [])
    ∷ worked (RetNothing ∷ []) stops 1 (ended (returned None) as_started ∷ [])
    -- an outside action: its cell and the registers before the answer, then the value in dst; the end is of the same step
    ∷ worked (ClockRead 1 ∷ []) counts 1
    (did (ClockRead 1) as_started ∷ ended last_cell (holding (other 0 ∷ con (u32 1) ∷ [])) ∷ [])
    ∷ worked (ClockRead 1 ∷ ClockRead 2 ∷ ClockRead 1 ∷ []) counts 2
    (did (ClockRead 1) as_started ∷ did (ClockRead 2) (holding (other 0 ∷ con (u32 1) ∷ [])) ∷ [])
    ∷ worked (ClockRead 1 ∷ ClockRead 2 ∷ ClockRead 1 ∷ []) counts 3
    (did (ClockRead 1) as_started
    ∷ did (ClockRead 2) (holding (other 0 ∷ con (u32 1) ∷ []))
    ∷ did (ClockRead 1) (holding (other 0 ∷ con (u32 1) ∷ con (u32 2) ∷ []))
    ∷ ended last_cell (holding (other 0 ∷ con (u32 3) ∷ con (u32 2) ∷ []))
    ∷ [])
    ∷ worked (Call 0 ∷ []) counts 1 (did (Call 0) as_started ∷ ended last_cell (holding (con (u32 1) ∷ [])) ∷ [])
    -- without dst, all registers stay
    ∷ worked (CallNothing ∷ []) counts 1 (did CallNothing as_started ∷ ended last_cell as_started ∷ [])
    ∷ worked (Assert 1 ∷ []) counts 1 (did (Assert 1) as_started ∷ ended last_cell as_started ∷ [])
    ∷ worked (StoreVar 1 ∷ Ret 1 ∷ []) counts 2 (did (StoreVar 1) as_started ∷ ended (returned (Some 1)) as_started ∷ [])
    -- a stop, at the first action or a later one
    ∷ worked (ClockRead 1 ∷ Ret 1 ∷ []) stops 1 (did (ClockRead 1) as_started ∷ ended stopped as_started ∷ [])
    ∷ worked (ClockRead 1 ∷ Assert 1 ∷ Ret 1 ∷ []) stops_second 2
    (did (ClockRead 1) as_started
    ∷ did (Assert 1) (holding (other 0 ∷ con (bool true) ∷ []))
    ∷ ended stopped (holding (other 0 ∷ con (bool true) ∷ []))
    ∷ [])
    -- CmpEq and CmpNe with an "other" operand are outside actions, even of a register with itself
    ∷ worked (LoadI32 1 0 ∷ CmpEq 2 1 3 ∷ []) counts 2
    (did (CmpEq 2 1 3) (holding (other 0 ∷ con (i32 0) ∷ []))
    ∷ ended last_cell (holding (other 0 ∷ con (i32 0) ∷ con (u32 1) ∷ []))
    ∷ [])
    ∷ worked (LoadI32 1 0 ∷ CmpNe 2 3 1 ∷ []) stops 2
    (did (CmpNe 2 3 1) (holding (other 0 ∷ con (i32 0) ∷ [])) ∷ ended stopped (holding (other 0 ∷ con (i32 0) ∷ [])) ∷ [])
    ∷ worked (LoadI32 1 0 ∷ CmpEq 2 3 1 ∷ []) stops 2
    (did (CmpEq 2 3 1) (holding (other 0 ∷ con (i32 0) ∷ [])) ∷ ended stopped (holding (other 0 ∷ con (i32 0) ∷ [])) ∷ [])
    ∷ worked (LoadI32 1 0 ∷ CmpNe 2 1 3 ∷ []) counts 2
    (did (CmpNe 2 1 3) (holding (other 0 ∷ con (i32 0) ∷ []))
    ∷ ended last_cell (holding (other 0 ∷ con (i32 0) ∷ con (u32 1) ∷ []))
    ∷ [])
    ∷ worked (CmpNe 0 3 3 ∷ []) counts 1 (did (CmpNe 0 3 3) as_started ∷ ended last_cell (holding (con (u32 1) ∷ [])) ∷ [])
    ∷ worked (CmpEq 0 3 3 ∷ []) counts 1 (did (CmpEq 0 3 3) as_started ∷ ended last_cell (holding (con (u32 1) ∷ [])) ∷ [])
    -- any other computed command with an "other" operand ends the run (each beside a constant: at the end of the table)
    ∷ worked (AddI32 1 1 1 ∷ []) stops 1 (ended unfit_operand as_started ∷ [])
    -- a computed command may write the register that it reads
    ∷ worked (LoadI32 0 5 ∷ AddI32 0 0 0 ∷ AddI32 0 0 0 ∷ Ret 0 ∷ []) stops 4 (ended (returned (Some 0)) (holding (con (i32 20) ∷ [])) ∷ [])
    -- a loop that goes on while the outside says so
    ∷ worked (Label 1 ∷ ClockRead 0 ∷ JmpIf 0 1 ∷ Ret 0 ∷ []) thrice 9
    (did (ClockRead 0) as_started
    ∷ did (ClockRead 0) (holding (con (bool true) ∷ []))
    ∷ did (ClockRead 0) (holding (con (bool true) ∷ []))
    ∷ [])
    ∷ worked (Label 1 ∷ ClockRead 0 ∷ JmpIf 0 1 ∷ Ret 0 ∷ []) thrice 10
    (did (ClockRead 0) as_started
    ∷ did (ClockRead 0) (holding (con (bool true) ∷ []))
    ∷ did (ClockRead 0) (holding (con (bool true) ∷ []))
    ∷ ended (returned (Some 0)) (holding (con (bool false) ∷ []))
    ∷ [])
    -- one that never ends
    ∷ worked (Label 1 ∷ Jmp 1 ∷ []) stops 99 []
    -- every computed command
    ∷ computes 0x11 (f64 0x3FF8000000000000) (f64 0x4004000000000000) (f64 0x4010000000000000)  -- AddF64 1.5 2.5 is 4.0
    ∷ computes 0x12 (fx 1500) (fx 2000) (fx 3500)  -- AddFx
    ∷ computes 0x13 (i32 0x7FFFFFFF) (i32 1) (i32 0x80000000)  -- AddI32 wraps
    ∷ computes 0x16 (bool true) (bool false) (bool false)  -- BoolAnd
    ∷ computes₁ 0x17 (bool true) (bool false)  -- BoolNot
    ∷ computes 0x18 (bool true) (bool false) (bool true)  -- BoolOr
    ∷ computes 0x19 (i32 0) (u32 0) (bool false)  -- CmpEq of two kinds
    ∷ computes 0x19 (i32 7) (i32 7) (bool true)  -- CmpEq of one kind
    ∷ computes 0x19 (u32 7) (u32 8) (bool false)
    ∷ computes 0x19 (fx 7) (fx 7) (bool true)
    ∷ computes 0x19 (quad S) (quad S) (bool true)
    ∷ computes 0x19 (bool false) (bool false) (bool true)
    ∷ computes 0x19 (f64 0) (f64 0x8000000000000000) (bool true)  -- CmpEq 0.0 -0.0
    ∷ computes 0x19 (f64 0x7FF8000000000000) (f64 0x7FF8000000000000) (bool false)  -- CmpEq NaN NaN
    ∷ computes 0x1A (i32 3) (i32 3) (bool true)  -- CmpI32Le
    ∷ computes 0x1B (i32 3) (i32 3) (bool false)  -- CmpI32Lt
    ∷ computes 0x1B (i32 0xFFFFFFFF) (i32 0) (bool true)  -- CmpI32Lt -1 0
    ∷ computes 0x1C (u32 3) (u32 3) (bool true)  -- CmpU32Le
    ∷ computes 0x1D (u32 3) (u32 3) (bool false)  -- CmpU32Lt
    ∷ computes 0x1D (u32 0) (u32 0xFFFFFFFF) (bool true)  -- CmpU32Lt
    ∷ computes 0x1E (u32 2) (u32 3) (u32 5)  -- AddU32
    ∷ computes 0x1F (u32 5) (u32 2) (u32 3)  -- SubU32
    ∷ computes 0x20 (u32 6) (u32 7) (u32 42)  -- MulU32
    ∷ computes 0x21 (u32 7) (u32 2) (u32 3)  -- DivU32
    ∷ computes 0x22 (u32 9) (u32 7) (u32 2)  -- ModU32
    ∷ computes 0x23 (i32 0) (u32 0) (bool true)  -- CmpNe of two kinds
    ∷ computes 0x25 (f64 0x400E000000000000) (f64 0x4004000000000000) (f64 0x3FF8000000000000)  -- DivF64 3.75 2.5 is 1.5
    ∷ computes 0x26 (fx 1500) (fx 2000) (fx 750)  -- DivFx
    ∷ computes 0x27 (i32 0xFFFFFFF9) (i32 2) (i32 0xFFFFFFFD)  -- DivI32 -7 2 is -3
    ∷ computes 0x39 (i32 0xFFFFFFF9) (i32 2) (i32 0xFFFFFFFF)  -- ModI32 -7 2 is -1
    ∷ computes 0x3A (f64 0x3FF8000000000000) (f64 0x4004000000000000) (f64 0x400E000000000000)  -- MulF64 1.5 2.5 is 3.75
    ∷ computes 0x3B (fx 1500) (fx 1500) (fx 2250)  -- MulFx
    ∷ computes 0x3C (i32 0x10001) (i32 0x10001) (i32 0x20001)  -- MulI32 wraps
    ∷ computes 0x3D (quad T) (quad F) (quad N)  -- QAnd
    ∷ computes 0x3E (quad F) (quad N) (quad T)  -- QImpl
    ∷ computes₁ 0x3F (quad T) (quad F)  -- QNot
    ∷ computes 0x40 (quad T) (quad F) (quad S)  -- QOr
    ∷ computes 0x41 (quad T) (quad F) (quad F)  -- QTruthAnd
    ∷ computes 0x41 (quad N) (quad S) (quad F)  -- QTruthAnd of two that can't be compared
    ∷ computes 0x42 (quad F) (quad N) (quad T)  -- QTruthImpl
    ∷ computes 0x42 (quad T) (quad N) (quad N)
    ∷ computes₁ 0x43 (quad T) (quad F)  -- QTruthNot
    ∷ computes₁ 0x43 (quad F) (quad T)
    ∷ computes₁ 0x43 (quad N) (quad N)
    ∷ computes₁ 0x43 (quad S) (quad S)
    ∷ computes 0x44 (quad F) (quad S) (quad S)  -- QTruthOr
    ∷ computes 0x44 (quad S) (quad N) (quad T)  -- QTruthOr of two that can't be compared
    ∷ computes 0x4E (f64 0x3FF8000000000000) (f64 0x4004000000000000) (f64 0xBFF0000000000000)  -- SubF64 1.5 2.5 is -1.0
    ∷ computes 0x4F (fx 1000) (fx 2500) (fx 0xFFFFFA24)  -- SubFx 1000 2500 is -1500
    ∷ computes 0x50 (i32 0x80000000) (i32 1) (i32 0x7FFFFFFF)  -- SubI32 wraps
    -- a computed NaN has the bits 7FF8000000000000; division by NaN has a result
    ∷ computes 0x11 (f64 0x7FF0000000000001) (f64 0) (f64 0x7FF8000000000000)  -- AddF64
    ∷ computes 0x25 (f64 0) (f64 0xFFF8000000000001) (f64 0x7FF8000000000000)  -- DivF64
    -- DivF64 by zero: an infinity with the product of the signs. 1.0 and -1.0 by 0.0 and by -0.0
    ∷ computes 0x25 (f64 0x3FF0000000000000) (f64 0) (f64 0x7FF0000000000000)
    ∷ computes 0x25 (f64 0xBFF0000000000000) (f64 0) (f64 0xFFF0000000000000)
    ∷ computes 0x25 (f64 0x3FF0000000000000) (f64 0x8000000000000000) (f64 0xFFF0000000000000)
    ∷ computes 0x25 (f64 0xBFF0000000000000) (f64 0x8000000000000000) (f64 0x7FF0000000000000)
    -- infinities, and the least subnormal number
    ∷ computes 0x25 (f64 0x7FF0000000000000) (f64 0) (f64 0x7FF0000000000000)
    ∷ computes 0x25 (f64 0xFFF0000000000000) (f64 0) (f64 0xFFF0000000000000)
    ∷ computes 0x25 (f64 0x7FF0000000000000) (f64 0x8000000000000000) (f64 0xFFF0000000000000)
    ∷ computes 0x25 (f64 0xFFF0000000000000) (f64 0x8000000000000000) (f64 0x7FF0000000000000)
    ∷ computes 0x25 (f64 1) (f64 0x8000000000000000) (f64 0xFFF0000000000000)
    -- zero or NaN by zero: NaN
    ∷ computes 0x25 (f64 0) (f64 0) (f64 0x7FF8000000000000)
    ∷ computes 0x25 (f64 0x8000000000000000) (f64 0) (f64 0x7FF8000000000000)
    ∷ computes 0x25 (f64 0) (f64 0x8000000000000000) (f64 0x7FF8000000000000)
    ∷ computes 0x25 (f64 0x8000000000000000) (f64 0x8000000000000000) (f64 0x7FF8000000000000)
    ∷ computes 0x25 (f64 0xFFF8000000000123) (f64 0) (f64 0x7FF8000000000000)
    ∷ computes 0x25 (f64 0x7FF0000000000001) (f64 0x8000000000000000) (f64 0x7FF8000000000000)
    -- a zero, or a dividend, of another kind ends the run
    ∷ fails 0x25 (f64 0x3FF0000000000000) (i32 0) unfit_operand
    ∷ fails 0x25 (u32 0) (f64 0) unfit_operand
    -- no result: one cause, whether the divisor is zero, the result out of range, or both
    ∷ fails 0x27 (i32 7) (i32 0) no_result  -- DivI32
    ∷ fails 0x27 (i32 0x80000000) (i32 0) no_result  -- DivI32 -2,147,483,648 0
    ∷ fails 0x39 (i32 0x80000000) (i32 0) no_result  -- ModI32
    ∷ fails 0x22 (u32 7) (u32 0) no_result  -- ModU32
    ∷ fails 0x26 (fx 2147483647) (fx 0) no_result  -- DivFx
    ∷ fails 0x27 (i32 0x80000000) (i32 0xFFFFFFFF) no_result  -- DivI32 -2,147,483,648 -1
    ∷ fails 0x39 (i32 0x80000000) (i32 0xFFFFFFFF) no_result  -- ModI32
    ∷ fails 0x1E (u32 0xFFFFFFFF) (u32 1) no_result  -- AddU32
    ∷ fails 0x1F (u32 0) (u32 1) no_result  -- SubU32
    ∷ fails 0x21 (u32 7) (u32 0) no_result  -- DivU32
    ∷ fails 0x3B (fx 2147483647) (fx 1001) no_result  -- MulFx
    ∷ fails 0x26 (fx 7) (fx 0) no_result  -- DivFx
    -- an operand of a wrong kind, on either side; it comes before a missing result
    ∷ fails 0x13 (i32 5) (u32 5) unfit_operand  -- AddI32
    ∷ fails 0x13 (fx 5) (i32 5) unfit_operand
    ∷ fails 0x1E (u32 5) (i32 5) unfit_operand  -- AddU32
    ∷ fails 0x1E (fx 5) (u32 5) unfit_operand
    ∷ fails 0x12 (fx 5) (i32 5) unfit_operand  -- AddFx
    ∷ fails 0x12 (i32 5) (fx 5) unfit_operand
    ∷ fails 0x11 (f64 5) (i32 5) unfit_operand  -- AddF64
    ∷ fails 0x11 (u32 5) (f64 5) unfit_operand
    ∷ fails 0x1B (i32 5) (u32 6) unfit_operand  -- CmpI32Lt
    ∷ fails 0x1B (fx 5) (i32 6) unfit_operand
    ∷ fails 0x1D (u32 5) (i32 6) unfit_operand  -- CmpU32Lt
    ∷ fails 0x1D (i32 5) (u32 6) unfit_operand
    ∷ fails 0x16 (bool true) (quad T) unfit_operand  -- BoolAnd
    ∷ fails 0x16 (u32 1) (bool true) unfit_operand
    ∷ fails 0x3D (quad T) (bool true) unfit_operand  -- QAnd
    ∷ fails 0x3D (u32 2) (quad T) unfit_operand
    ∷ fails 0x41 (quad T) (bool true) unfit_operand  -- QTruthAnd
    ∷ fails 0x41 (u32 2) (quad T) unfit_operand
    ∷ fails 0x42 (quad F) (i32 0) unfit_operand  -- QTruthImpl
    ∷ fails 0x42 (bool false) (quad F) unfit_operand
    ∷ fails 0x44 (quad T) (fx 2) unfit_operand  -- QTruthOr
    ∷ fails 0x44 (f64 0) (quad T) unfit_operand
    ∷ fails₁ 0x43 (bool true) unfit_operand  -- QTruthNot
    ∷ fails₁ 0x43 (u32 2) unfit_operand
    ∷ fails 0x27 (u32 7) (i32 0) unfit_operand  -- DivI32
    -- every other command is an outside action: ClosureCall with and without dst
    ∷ worked (cell (0x04 ∷ 1 ∷ 0 ∷ []) ∷ []) counts 1
    (did (cell (0x04 ∷ 1 ∷ 0 ∷ [])) as_started ∷ ended last_cell (holding (con (u32 1) ∷ [])) ∷ [])
    ∷ worked (cell (0x04 ∷ []) ∷ []) counts 1 (did (cell (0x04 ∷ [])) as_started ∷ ended last_cell as_started ∷ [])
    -- ClockRead, GateRead, RngNextI32, RngSeed, StateQuery
    ∷ (map answered (0x03 ∷ 0x06 ∷ 0x0D ∷ 0x0E ∷ 0x0F ∷ [])
    -- AdtGet, AdtTag, ConcatText, LoadText, LoadVar, MakeAdt, MakeClosure, MakeRecord, MakeSequence, MakeTuple
    ++ map answered (0x14 ∷ 0x15 ∷ 0x24 ∷ 0x2D ∷ 0x2F ∷ 0x30 ∷ 0x31 ∷ 0x32 ∷ 0x33 ∷ 0x34 ∷ [])
    -- MapContains, MapEmpty, MapGet, MapSet, RecordGet
    ++ map answered (0x35 ∷ 0x36 ∷ 0x37 ∷ 0x38 ∷ 0x45 ∷ [])
    -- SequenceContains, SequenceGet, SequenceIsEmpty, SequenceLen, SequencePop, SequencePrepend, SequencePush, TupleGet
    ++ map answered (0x46 ∷ 0x47 ∷ 0x48 ∷ 0x49 ∷ 0x4A ∷ 0x4B ∷ 0x4C ∷ 0x51 ∷ [])
    -- Assert, EventPost, GateWrite, PulseEmit, StateUpdate, StoreVar
    ++ map unanswered (0x01 ∷ 0x05 ∷ 0x07 ∷ 0x0B ∷ 0x10 ∷ 0x4D ∷ [])
    -- every computed command but CmpEq and CmpNe with an "other" operand. AddF64, DivF64, MulF64, SubF64
    ++ beside_other (f64 0x3FF8000000000000) (0x11 ∷ 0x25 ∷ 0x3A ∷ 0x4E ∷ [])
    -- AddFx, DivFx, MulFx, SubFx
    ++ beside_other (fx 1500) (0x12 ∷ 0x26 ∷ 0x3B ∷ 0x4F ∷ [])
    -- AddI32, CmpI32Le, CmpI32Lt, DivI32, ModI32, MulI32, SubI32
    ++ beside_other (i32 7) (0x13 ∷ 0x1A ∷ 0x1B ∷ 0x27 ∷ 0x39 ∷ 0x3C ∷ 0x50 ∷ [])
    -- CmpU32Le, CmpU32Lt, AddU32, SubU32, MulU32, DivU32, ModU32
    ++ beside_other (u32 7) (0x1C ∷ 0x1D ∷ 0x1E ∷ 0x1F ∷ 0x20 ∷ 0x21 ∷ 0x22 ∷ [])
    -- BoolAnd, BoolOr
    ++ beside_other (bool true) (0x16 ∷ 0x18 ∷ [])
    -- QAnd, QImpl, QOr, QTruthAnd, QTruthImpl, QTruthOr
    ++ beside_other (quad T) (0x3D ∷ 0x3E ∷ 0x40 ∷ 0x41 ∷ 0x42 ∷ 0x44 ∷ [])
    -- BoolNot, QNot, QTruthNot
    ++ map of_other (0x17 ∷ 0x3F ∷ 0x43 ∷ []))

pub runs_hold : map (λ (w : Worked). after (map view w.function) w.outside initial w.steps) runs ≡ map (λ (w : Worked). w.entries) runs
unfolding view load_cell class_of rows meet join quad_of exec set put shown compute meaning meanings wrap add_i32 sub_i32 mul_i32 div_i32 mod_i32 add_u32 sub_u32 mul_u32 div_u32 mod_u32 add_fx sub_fx mul_fx div_fx float_of bits_of const_eq Ieee.of_bits Ieee.to_bits Ieee.eq Ieee.add Ieee.sub Ieee.mul Ieee.div
runs_hold = refl

-- "Compared records carry 1,024 registers each" (document 02, W7): every entry does, whatever they hold
pub shown-length : (r : Regs) → length (shown r) ≡ 1024
unfolding shown
shown-length r = refl
