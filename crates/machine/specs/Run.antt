-- Promise: how a function runs (document 01, 'How a function runs'; its sentences stand in quotes). "Only instruction cells are run": a function is here
-- the list of what its instruction cells are. A position is the list of cells still to run, since no record shows a position.
use Rattle.std.specs.Prelude.{cond, List, [], ◌∷◌, ◌++◌, ℕ, zero, suc, Option, None, Some}
use Rattle.cells.specs.Cells.{Cell}
use Rattle.cells.specs.Ins.{quad, bool, f64, i32, u32, fx, Ins, load, comp, label, jmp, jmp_if, ret, act, label_of, alike}
use Rattle.machine.specs.Values.{Value, con, other, Regs, set, put, shown}
use Rattle.machine.specs.Compute.{Outcome, value, unfit, nothing, outside, compute}

-- why a run ends: "its cause (stop, unfit operand, no result, missing label, Ret with its `src`, last cell)"
pub data Cause : Type 0 where
  stopped : Cause
  unfit_operand : Cause
  no_result : Cause
  missing_label : Cause
  returned : Option ℕ → Cause
  last_cell : Cause

-- an entry of the record: "An action's entry is its cell, without its position, and the registers before the answer"; "The end is the record's
-- last entry: its cause [..] and all registers"
pub data Entry : Type 0 where
  did : Cell → List Value → Entry
  ended : Cause → List Value → Entry

-- what the outside answers: "a stop, or to go on, with any value a register can hold for `dst` where there is one"; the value is not used
-- where there is none
pub data Answer : Type 0 where
  stop : Answer
  go : Value → Answer

-- "The outside may be any rule that takes the record up to and with this entry"
abbrev pub Outside : Type 0
Outside = List Entry → Answer

-- what a cell does by itself: goes on with these registers, jumps to a label, ends the run, or acts outside, by this cell, for dst
pub data Move : Type 0 where
  on : Regs → Move
  to : ℕ → Move
  halt : Cause → Move
  ask : Cell → Option ℕ → Move

-- a cell is about to run, with those after it, the registers and the record so far; or the run has ended, with its record
pub data State : Type 0 where
  live : Ins → List Ins → Regs → List Entry → State
  dead : List Entry → State

abbrev pub record_of : State → List Entry
record_of (live i p r h) = h
record_of (dead h) = h

-- the run ends: "The end is the record's last entry"
abbrev pub finish : Cause → Regs → List Entry → State
finish c r h = dead (h ++ (ended c (shown r) ∷ []))

-- on to the cells p. With none left, "the last cell's end" finishes the run, in the step that came to it
abbrev pub fall : List Ins → Regs → List Entry → State
fall [] r h = finish last_cell r h
fall (i ∷ p) r h = live i p r h

-- "Jmp goes to the first label of that name": the cells from there on, so that the Label is the next step
abbrev pub seek : ℕ → List Ins → Option (List Ins)
seek l [] = None
seek l (i ∷ p) = cond (alike (Some l) (label_of i)) (Some (i ∷ p)) (seek l p)

-- "a missing label [..] finish[es] the run"
abbrev pub goto : Option (List Ins) → Regs → List Entry → State
goto None r h = finish missing_label r h
goto (Some p) r h = fall p r h

-- after the outside's answer: a stop ends the run; else dst takes the value, where there is one, and "other registers stay"
abbrev pub reply : Answer → Option ℕ → List Ins → Regs → List Entry → State
reply stop d p r h = finish stopped r h
reply (go v) d p r h = fall p (put d v r) h

-- a computed command, by what it comes to: "An operand of a wrong kind, or a missing result, ends the run"
abbrev pub outcome_move : Cell → ℕ → Outcome → Regs → Move
outcome_move c d (value v) r = on (set d (con v) r)
outcome_move c d unfit r = halt unfit_operand
outcome_move c d nothing r = halt no_result
outcome_move c d outside r = ask c (Some d)

-- "JmpIf needs a bool and goes if true"
abbrev pub branch_move : ℕ → Value → Regs → Move
branch_move l (con (bool b)) r = cond b (to l) (on r)
branch_move l (con (quad n)) r = halt unfit_operand
branch_move l (con (f64 n)) r = halt unfit_operand
branch_move l (con (i32 n)) r = halt unfit_operand
branch_move l (con (u32 n)) r = halt unfit_operand
branch_move l (con (fx n)) r = halt unfit_operand
branch_move l (other n) r = halt unfit_operand

-- one cell. "Loads of the six kinds [..] are computed", as are the commands of `Compute`; "Label does nothing"; "every command without a rule
-- here" is an outside action
unfoldable pub exec : Ins → Regs → Move
exec (load d v) r = on (set d (con v) r)
exec (comp c o d a b) r = outcome_move c d (compute o (r a) (r b)) r
exec (label l) r = on r
exec (jmp l) r = to l
exec (jmp_if c l) r = branch_move l (r c) r
exec (ret s) r = halt (returned s)
exec (act c d b) r = ask c d

-- what a move comes to before the cells p, in the function P. The outside is asked with the record up to and with the action's entry
abbrev pub move : List Ins → Outside → List Ins → Regs → List Entry → Move → State
move P O p r h (on r') = fall p r' h
move P O p r h (to l) = goto (seek l P) r h
move P O p r h (halt c) = finish c r h
move P O p r h (ask c d) = let g : List Entry = h ++ (did c (shown r) ∷ []) in reply (O g) d p r g

-- "Each cell run is one step"; "a run that has ended keeps its record at every later n"
abbrev pub step : List Ins → Outside → State → State
step P O (live i p r h) = move P O p r h (exec i r)
step P O (dead h) = dead h

-- the state after n steps. "in a function without instruction cells [the end comes] before any step, its cause being last cell"
abbrev pub run : List Ins → Outside → Regs → ℕ → State
run P O r zero = fall P r []
run P O r (suc n) = step P O (run P O r n)

-- "The record after n steps is every entry so far"
abbrev pub after : List Ins → Outside → Regs → ℕ → List Entry
after P O r n = record_of (run P O r n)
