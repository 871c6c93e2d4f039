-- Worked: cleanup at worked functions: document 01's starred rows on labels and loads ('Cells on either edge'), and some for each sweep. One table, and
-- one theorem of all its rows.
use Rattle.std.specs.Prelude.{◌≡◌, refl, Bool, true, false, List, [], ◌∷◌, map, ℕ, None}
use Rattle.cells.specs.Cells.{Cell}
use Rattle.cells.specs.Ins.{Ins, label, jmp, ret}
use Rattle.cells.specs.Table.{rows, class_of}
use Rattle.cells.specs.View.{view}
use Rattle.cells.specs.Assembler.{Label, Jmp, JmpIf, Ret, RetNothing, LoadBool, LoadF64, LoadFx, LoadI32, LoadQ, LoadU32, AddI32, Assert, ClockRead, StoreVar}
use Rattle.cleanup.specs.Cleanup.{clean_code, clean_count}
use Rattle.cleanup.specs.Premise.{one_place}

-- a function's instruction cells as sent, those handed back, and the count
pub record FunctionCase : Type 0 where
  pub sent : List Cell
  pub back : List Cell
  pub count : ℕ

abbrev pub case : List Cell → List Cell → ℕ → FunctionCase
case s b n = record { sent = s; back = b; count = n }

abbrev pub cases : List FunctionCase
cases =
    -- * Label 1, Jmp 1, Label 1 becomes Label 1, Label 1; count 1
    case (Label 1 ∷ Jmp 1 ∷ Label 1 ∷ []) (Label 1 ∷ Label 1 ∷ []) 1
    -- * LoadI32 r1, LoadBool r1 keeps the second; two LoadU32 r1 both stay
    ∷ case (LoadI32 1 5 ∷ LoadBool 1 1 ∷ []) (LoadBool 1 1 ∷ []) 1
    ∷ case (LoadU32 1 5 ∷ LoadU32 1 5 ∷ []) (LoadU32 1 5 ∷ LoadU32 1 5 ∷ []) 0
    ∷ case [] [] 0
    -- a label equal to the one just kept goes
    ∷ case (Label 1 ∷ Label 1 ∷ Label 2 ∷ Label 1 ∷ Label 1 ∷ Label 1 ∷ []) (Label 1 ∷ Label 2 ∷ Label 1 ∷ []) 3
    ∷ case (Label 1 ∷ LoadI32 1 5 ∷ Label 1 ∷ []) (Label 1 ∷ LoadI32 1 5 ∷ Label 1 ∷ []) 0
    -- after Ret or Jmp everything up to the next label goes; nothing after JmpIf
    ∷ case (RetNothing ∷ LoadI32 1 5 ∷ Ret 1 ∷ Label 1 ∷ Assert 1 ∷ []) (RetNothing ∷ Label 1 ∷ Assert 1 ∷ []) 2
    ∷ case (Jmp 2 ∷ Assert 1 ∷ Label 1 ∷ Assert 2 ∷ []) (Jmp 2 ∷ Label 1 ∷ Assert 2 ∷ []) 1
    ∷ case (JmpIf 1 2 ∷ Assert 1 ∷ Ret 1 ∷ StoreVar 1 ∷ []) (JmpIf 1 2 ∷ Assert 1 ∷ Ret 1 ∷ []) 1
    -- a Jmp whose next cell is its own label goes, also where cells between were unreachable; a JmpIf stays, and so does a last Jmp
    ∷ case (Jmp 1 ∷ Label 1 ∷ []) (Label 1 ∷ []) 1
    ∷ case (Jmp 1 ∷ Assert 1 ∷ Label 1 ∷ []) (Label 1 ∷ []) 2
    ∷ case (Jmp 1 ∷ Label 2 ∷ Label 1 ∷ []) (Jmp 1 ∷ Label 2 ∷ Label 1 ∷ []) 0
    ∷ case (JmpIf 1 1 ∷ Label 1 ∷ []) (JmpIf 1 1 ∷ Label 1 ∷ []) 0
    ∷ case (Label 1 ∷ Jmp 1 ∷ []) (Label 1 ∷ Jmp 1 ∷ []) 0
    -- a load whose next cell is a load into the same register goes, with any payload
    ∷ case (LoadI32 1 5 ∷ LoadI32 1 6 ∷ LoadI32 1 7 ∷ []) (LoadI32 1 7 ∷ []) 2
    ∷ case (LoadQ 1 3 ∷ LoadF64 1 0 ∷ LoadFx 1 0 ∷ LoadBool 1 0 ∷ LoadQ 1 0 ∷ []) (LoadQ 1 0 ∷ []) 4
    ∷ case (LoadI32 1 5 ∷ LoadI32 2 5 ∷ []) (LoadI32 1 5 ∷ LoadI32 2 5 ∷ []) 0
    ∷ case (LoadI32 1 5 ∷ Label 1 ∷ LoadI32 1 6 ∷ []) (LoadI32 1 5 ∷ Label 1 ∷ LoadI32 1 6 ∷ []) 0
    -- registers past 255 (document 02, W7), and two whose low bytes are the same
    ∷ case (LoadI32 1023 5 ∷ LoadBool 1023 1 ∷ []) (LoadBool 1023 1 ∷ []) 1
    ∷ case (LoadI32 1 5 ∷ LoadI32 257 5 ∷ []) (LoadI32 1 5 ∷ LoadI32 257 5 ∷ []) 0
    ∷ case (LoadI32 257 5 ∷ LoadI32 1 5 ∷ LoadI32 257 6 ∷ []) (LoadI32 257 5 ∷ LoadI32 1 5 ∷ LoadI32 257 6 ∷ []) 0
    -- LoadU32 neither goes nor lets another go, nor does any other command that writes the register
    ∷ case (LoadI32 1 5 ∷ LoadU32 1 5 ∷ []) (LoadI32 1 5 ∷ LoadU32 1 5 ∷ []) 0
    ∷ case (LoadU32 1 5 ∷ LoadI32 1 5 ∷ []) (LoadU32 1 5 ∷ LoadI32 1 5 ∷ []) 0
    ∷ case (LoadI32 1 5 ∷ ClockRead 1 ∷ LoadI32 1 5 ∷ AddI32 1 2 2 ∷ []) (LoadI32 1 5 ∷ ClockRead 1 ∷ LoadI32 1 5 ∷ AddI32 1 2 2 ∷ []) 0
    -- each sweep once: what one leaves is not swept again by an earlier one
    ∷ case (Label 1 ∷ Jmp 2 ∷ Assert 1 ∷ Label 2 ∷ LoadI32 1 5 ∷ Jmp 3 ∷ Label 3 ∷ LoadI32 1 6 ∷ [])
    (Label 1 ∷ Label 2 ∷ LoadI32 1 5 ∷ Label 3 ∷ LoadI32 1 6 ∷ [])
    3
    ∷ []

pub cases_hold : map (λ (c : FunctionCase). case c.sent (clean_code c.sent) (clean_count c.sent)) cases ≡ cases
unfolding clean_code clean_count view class_of rows
cases_hold = refl

-- ---- the premise

-- worked functions, and whether each label name stands at one place
pub record PlaceCase : Type 0 where
  pub cells : List Ins
  pub once : Bool

abbrev pub placed : List Ins → Bool → PlaceCase
placed p b = record { cells = p; once = b }

abbrev pub place_cases : List PlaceCase
place_cases =
    placed [] true
    ∷ placed (jmp 1 ∷ ret None ∷ []) true
    ∷ placed (label 1 ∷ jmp 1 ∷ label 2 ∷ []) true
    -- twice in a row, with a cell between, and apart
    ∷ placed (jmp 1 ∷ label 1 ∷ label 1 ∷ ret None ∷ []) true
    ∷ placed (label 1 ∷ jmp 1 ∷ label 1 ∷ []) false
    ∷ placed (label 1 ∷ label 2 ∷ jmp 2 ∷ ret None ∷ label 1 ∷ []) false
    -- two names, one after the other and interleaved
    ∷ placed (label 1 ∷ label 1 ∷ label 2 ∷ label 2 ∷ []) true
    ∷ placed (label 1 ∷ label 2 ∷ label 1 ∷ []) false
    ∷ []

pub place_cases_hold : map (λ (c : PlaceCase). placed c.cells (one_place c.cells)) place_cases ≡ place_cases
place_cases_hold = refl
