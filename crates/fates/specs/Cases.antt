-- Worked: what became of each cell of functions written out by hand from document 02 (W6), every fate and every reason; and what is answered of single
-- cells of images, with heads, positions past the end and refusals.
use Rattle.std.specs.Prelude.{◌≡◌, refl, List, [], ◌∷◌, ◌++◌, map, ℕ}
use Rattle.std.specs.Float.Ieee as Ieee
use Rattle.cells.specs.Assembler.{cell, Head, Label, Jmp, JmpIf, Ret, RetNothing, LoadBool, LoadF64, LoadFx, LoadI32, LoadQ, LoadU32, binary, unary, AddI32, CmpEq, CmpNe, DivF64, QAnd, QTruthAnd, QTruthNot, Assert, StoreVar, site, no_site, StoreVarSited, MakeRecord, Borrow, Write, function}
use Rattle.cells.specs.Bytes.{bytes}
use Rattle.cells.specs.Cells.{Cell}
use Rattle.cells.specs.Check.{instruction_check, event_check, head_check}
use Rattle.cells.specs.Functions.{functions}
use Rattle.cells.specs.Refusals.{numbered}
use Rattle.cells.specs.Table.{rows, class_of}
use Rattle.cells.specs.View.{view}
use Rattle.leaves.specs.Constants.{const_eq}
use Rattle.leaves.specs.Fixed.{mul_fx, div_fx}
use Rattle.leaves.specs.Float.{float_of, bits_of, div_f64}
use Rattle.leaves.specs.Quads.{meet, join, quad_of}
use Rattle.leaves.specs.Signed.{residue, wrap, add_i32, sub_i32, mul_i32, div_i32, mod_i32}
use Rattle.leaves.specs.Unsigned.{add_u32, sub_u32, div_u32, mod_u32}
use Rattle.sites.specs.Sites.{site_of, event_site, site_by}
use Rattle.sites.specs.Validators.{repeat_answer, activation_answer, judge_by}
use Rattle.crystalfold.specs.Rules.{default_table, default_rules}
use Rattle.crystalfold.specs.Fold.{note}
use Rattle.image.specs.Image.{image_answer}
use Rattle.image.specs.SiteCheck.{site_answer}
use Rattle.fates.specs.Fates.{left₁, left₂, left₃, left₄, code_fate, code_fates, event_fates, function_fates}
use Rattle.fates.specs.Answer.{image_fates, fate_answer}
use Rattle.fates.specs.Promises.{Reply, success, refusal, reply_of}
use Rattle.fates.specs.declared.Fate.{Fate}
use Rattle.fates.specs.declared.Fate.TheVariants.{RepeatedLabel, Unreachable, JumpToNext, LoadOverwritten, Folded, EventGone, Kept}
use Rattle.fates.specs.declared.Reason.TheVariants.{Nothing, LeftUnknown, RightUnknown, Unfit, DivisorZero, OutOfRange}

-- ---- all cells of a function

pub record FunctionCase : Type 0 where
  pub first : ℕ
  pub code : List Cell
  pub events : List Cell
  pub fates : List Fate

-- of an image's first function, whose first cell is the cell 1, without events; and with events, wherever it stands
abbrev pub alone : List Cell → List Fate → FunctionCase
alone cs fates = record { first = 1; code = cs; events = []; fates = fates }

abbrev pub with : ℕ → List Cell → List Cell → List Fate → FunctionCase
with first cs es fates = record { first = first; code = cs; events = es; fates = fates }

-- kept, with nothing to add
abbrev pub kept : Fate
kept = Kept Nothing

-- further commands: DivI32, ModI32, SubI32, MulU32 .., LoadText, which is no barrier and writes its dst
abbrev pub LoadText : ℕ → Cell
LoadText d = cell (0x2D ∷ bytes 2 d ++ bytes 2 9)

abbrev pub function_cases : List FunctionCase
function_cases =
    alone [] []
    -- repeated labels: equal to the label just kept
    ∷ alone (Label 1 ∷ Label 1 ∷ Label 2 ∷ Label 2 ∷ Label 2 ∷ Label 1 ∷ []) (kept ∷ RepeatedLabel ∷ kept ∷ RepeatedLabel ∷ RepeatedLabel ∷ kept ∷ [])
    ∷ alone (Label 1 ∷ LoadI32 1 5 ∷ Label 1 ∷ []) (kept ∷ kept ∷ kept ∷ [])
    -- unreachable: by the nearest earlier Ret or Jmp that is not; nearer ones that are unreachable do not count, and a label ends the stretch
    ∷ alone (RetNothing ∷ LoadI32 1 5 ∷ Label 1 ∷ LoadI32 1 6 ∷ []) (kept ∷ Unreachable 1 ∷ kept ∷ kept ∷ [])
    ∷ alone (RetNothing ∷ Jmp 3 ∷ LoadI32 1 5 ∷ Ret 1 ∷ StoreVar 1 ∷ Label 3 ∷ Ret 1 ∷ Jmp 3 ∷ [])
    (kept ∷ Unreachable 1 ∷ Unreachable 1 ∷ Unreachable 1 ∷ Unreachable 1 ∷ kept ∷ kept ∷ Unreachable 7 ∷ [])
    ∷ with 10 (LoadI32 1 5 ∷ Jmp 9 ∷ Jmp 9 ∷ RetNothing ∷ []) [] (kept ∷ kept ∷ Unreachable 11 ∷ Unreachable 11 ∷ [])
    -- a label is never unreachable; one repeated behind a Ret is a repeated label
    ∷ alone (RetNothing ∷ Label 1 ∷ Label 1 ∷ LoadI32 1 5 ∷ []) (kept ∷ kept ∷ RepeatedLabel ∷ kept ∷ [])
    -- JmpIf goes on to the next cell
    ∷ alone (LoadBool 1 1 ∷ JmpIf 1 1 ∷ LoadI32 1 5 ∷ Label 1 ∷ []) (kept ∷ kept ∷ kept ∷ kept ∷ [])
    ∷ alone (JmpIf 1 1 ∷ Label 1 ∷ []) (kept ∷ kept ∷ [])
    -- a jump to the next cell, judged by the next cell after two sweeps: unreachable cells between don't count; the Jmp named goes itself
    ∷ alone (Label 1 ∷ Jmp 1 ∷ Label 1 ∷ []) (kept ∷ JumpToNext ∷ kept ∷ [])
    ∷ alone (Jmp 1 ∷ LoadI32 1 5 ∷ RetNothing ∷ Label 1 ∷ Label 1 ∷ []) (JumpToNext ∷ Unreachable 1 ∷ Unreachable 1 ∷ kept ∷ RepeatedLabel ∷ [])
    ∷ alone (Jmp 1 ∷ Label 2 ∷ Label 1 ∷ []) (kept ∷ kept ∷ kept ∷ [])
    ∷ alone (Jmp 1 ∷ []) (kept ∷ [])
    ∷ alone (RetNothing ∷ Jmp 1 ∷ Label 1 ∷ []) (kept ∷ Unreachable 1 ∷ kept ∷ [])
    -- a load overwritten by the next cell, with any payload and kind; LoadU32 is none of them
    ∷ alone (LoadI32 1 5 ∷ LoadBool 1 1 ∷ []) (LoadOverwritten ∷ kept ∷ [])
    ∷ alone (LoadQ 1 2 ∷ LoadF64 1 0 ∷ LoadFx 1 7 ∷ LoadI32 2 7 ∷ []) (LoadOverwritten ∷ LoadOverwritten ∷ kept ∷ kept ∷ [])
    ∷ alone (LoadU32 1 5 ∷ LoadU32 1 6 ∷ LoadI32 1 7 ∷ LoadU32 1 8 ∷ []) (kept ∷ kept ∷ kept ∷ kept ∷ [])
    ∷ alone (LoadI32 1 5 ∷ LoadI32 257 6 ∷ LoadI32 1 5 ∷ []) (kept ∷ kept ∷ kept ∷ [])
    -- in an unreachable stretch it is unreachable; before a jump that goes its next cell is the label
    ∷ alone (RetNothing ∷ LoadI32 1 5 ∷ LoadI32 1 6 ∷ []) (kept ∷ Unreachable 1 ∷ Unreachable 1 ∷ [])
    ∷ alone (LoadI32 1 5 ∷ Jmp 1 ∷ Label 1 ∷ LoadI32 1 6 ∷ []) (kept ∷ JumpToNext ∷ kept ∷ kept ∷ [])
    ∷ alone (LoadI32 1 5 ∷ Jmp 2 ∷ LoadI32 1 6 ∷ []) (kept ∷ kept ∷ Unreachable 2 ∷ [])
    -- folded, with the command that loads the value and its bits; by what earlier folds made known
    ∷ alone (LoadI32 1 5 ∷ AddI32 2 1 1 ∷ Ret 2 ∷ []) (kept ∷ Folded 0x2B 10 ∷ kept ∷ [])
    ∷ alone (LoadI32 1 5 ∷ AddI32 1 1 1 ∷ AddI32 1 1 1 ∷ []) (kept ∷ Folded 0x2B 10 ∷ Folded 0x2B 20 ∷ [])
    ∷ alone (LoadI32 1 0 ∷ LoadI32 2 1 ∷ binary 0x50 3 1 2 ∷ binary 0x3C 4 3 3 ∷ []) (kept ∷ kept ∷ Folded 0x2B 0xFFFFFFFF ∷ Folded 0x2B 1 ∷ [])
    ∷ alone (LoadFx 1 1500 ∷ binary 0x3B 2 1 1 ∷ LoadU32 3 7 ∷ binary 0x1E 4 3 3 ∷ []) (kept ∷ Folded 0x2A 2250 ∷ kept ∷ Folded 0x2E 14 ∷ [])
    ∷ alone (LoadBool 1 1 ∷ unary 0x17 2 1 ∷ binary 0x18 3 1 2 ∷ []) (kept ∷ Folded 0x28 0 ∷ Folded 0x28 1 ∷ [])
    ∷ alone (LoadQ 1 2 ∷ LoadQ 2 1 ∷ QAnd 3 1 2 ∷ binary 0x40 4 1 2 ∷ unary 0x3F 5 1 ∷ []) (kept ∷ kept ∷ Folded 0x2C 0 ∷ Folded 0x2C 3 ∷ Folded 0x2C 1 ∷ [])
    -- 1.0 + 2.0; a NaN is written as 7FF8000000000000, whatever its bits were
    ∷ alone (LoadF64 1 0x3FF0000000000000 ∷ LoadF64 2 0x4000000000000000 ∷ binary 0x11 3 1 2 ∷ []) (kept ∷ kept ∷ Folded 0x29 0x4008000000000000 ∷ [])
    ∷ alone (LoadF64 1 0x7FF0000000000001 ∷ binary 0x11 2 1 1 ∷ []) (kept ∷ Folded 0x29 0x7FF8000000000000 ∷ [])
    -- an equality of two kinds folds
    ∷ alone (LoadI32 1 0 ∷ LoadU32 2 0 ∷ CmpEq 3 1 2 ∷ CmpNe 4 1 2 ∷ []) (kept ∷ kept ∷ Folded 0x28 0 ∷ Folded 0x28 1 ∷ [])
    -- kept, with the first reason: left or only operand unknown
    ∷ alone (AddI32 2 1 1 ∷ unary 0x17 3 1 ∷ CmpEq 4 1 1 ∷ []) (Kept LeftUnknown ∷ Kept LeftUnknown ∷ Kept LeftUnknown ∷ [])
    ∷ alone (LoadI32 1 5 ∷ AddI32 2 3 1 ∷ []) (kept ∷ Kept LeftUnknown ∷ [])
    -- right unknown, also beside a left one of a wrong kind
    ∷ alone (LoadI32 1 5 ∷ AddI32 2 1 3 ∷ CmpNe 4 1 3 ∷ LoadBool 5 1 ∷ AddI32 6 5 3 ∷ []) (kept ∷ Kept RightUnknown ∷ Kept RightUnknown ∷ kept ∷ Kept RightUnknown ∷ [])
    -- kinds unfit, also where the divisor is zero
    ∷ alone (LoadBool 1 1 ∷ LoadI32 2 0 ∷ AddI32 3 1 2 ∷ binary 0x27 4 1 2 ∷ unary 0x17 5 2 ∷ unary 0x3F 6 2 ∷ []) (kept ∷ kept ∷ Kept Unfit ∷ Kept Unfit ∷ Kept Unfit ∷ Kept Unfit ∷ [])
    -- divisor zero: before 'out of range'; of DivF64 either zero, also by NaN
    ∷ alone (LoadI32 1 5 ∷ LoadI32 2 0 ∷ binary 0x27 3 1 2 ∷ binary 0x39 4 1 2 ∷ []) (kept ∷ kept ∷ Kept DivisorZero ∷ Kept DivisorZero ∷ [])
    ∷ alone (LoadU32 1 5 ∷ LoadU32 2 0 ∷ binary 0x21 3 1 2 ∷ binary 0x22 4 1 2 ∷ LoadFx 5 0 ∷ binary 0x26 6 5 5 ∷ []) (kept ∷ kept ∷ Kept DivisorZero ∷ Kept DivisorZero ∷ kept ∷ Kept DivisorZero ∷ [])
    ∷ alone (LoadF64 1 0x8000000000000000 ∷ DivF64 2 1 1 ∷ LoadF64 3 0x7FF8000000000000 ∷ DivF64 4 3 1 ∷ DivF64 5 1 3 ∷ []) (kept ∷ Kept DivisorZero ∷ kept ∷ Kept DivisorZero ∷ Folded 0x29 0x7FF8000000000000 ∷ [])
    -- out of range
    ∷ alone (LoadI32 1 0x80000000 ∷ LoadI32 2 0xFFFFFFFF ∷ binary 0x27 3 1 2 ∷ binary 0x39 4 1 2 ∷ []) (kept ∷ kept ∷ Kept OutOfRange ∷ Kept OutOfRange ∷ [])
    ∷ alone (LoadU32 1 0 ∷ LoadU32 2 1 ∷ binary 0x1F 3 1 2 ∷ LoadFx 4 2147483647 ∷ LoadFx 5 1001 ∷ binary 0x3B 6 4 5 ∷ []) (kept ∷ kept ∷ Kept OutOfRange ∷ kept ∷ kept ∷ Kept OutOfRange ∷ [])
    -- what the default fold does not compute has nothing to add: the truth-order quads, loads, labels, actions
    ∷ alone (LoadQ 1 2 ∷ QTruthAnd 2 1 1 ∷ QTruthNot 3 9 ∷ Assert 1 ∷ LoadText 4 ∷ []) (kept ∷ kept ∷ kept ∷ kept ∷ kept ∷ [])
    -- a barrier, a command that writes the register, or a fold that does not come about forgets what was known; folds are those of the cleaned list
    ∷ alone (LoadI32 1 5 ∷ Label 1 ∷ AddI32 2 1 1 ∷ []) (kept ∷ kept ∷ Kept LeftUnknown ∷ [])
    ∷ alone (LoadI32 1 5 ∷ LoadText 1 ∷ AddI32 2 1 1 ∷ []) (kept ∷ kept ∷ Kept LeftUnknown ∷ [])
    ∷ alone (LoadI32 1 5 ∷ AddI32 1 1 2 ∷ AddI32 3 1 1 ∷ []) (kept ∷ Kept RightUnknown ∷ Kept LeftUnknown ∷ [])
    ∷ alone (LoadI32 1 5 ∷ LoadI32 1 6 ∷ AddI32 2 1 1 ∷ RetNothing ∷ AddI32 3 1 1 ∷ []) (LoadOverwritten ∷ kept ∷ Folded 0x2B 12 ∷ kept ∷ Unreachable 4 ∷ [])
    -- events: gone with a site on an unreachable command, of the same sort
    ∷ with 1 (RetNothing ∷ StoreVarSited (site 5) no_site ∷ []) (Borrow (site 5) no_site ∷ []) (kept ∷ Unreachable 1 ∷ EventGone ∷ [])
    ∷ with 1 (StoreVarSited (site 6) no_site ∷ RetNothing ∷ StoreVarSited (site 5) (site 6) ∷ [])
    (Borrow (site 6) no_site ∷ Write no_site (site 6) ∷ Borrow (site 5) no_site ∷ []) (kept ∷ kept ∷ Unreachable 2 ∷ kept ∷ EventGone ∷ EventGone ∷ [])
    ∷ with 20 (MakeRecord (site 5) ∷ Jmp 4 ∷ MakeRecord (site 0) ∷ Label 9 ∷ [])
    (Write no_site (site 0) ∷ Write no_site (site 5) ∷ Write no_site (site 0) ∷ []) (kept ∷ kept ∷ Unreachable 21 ∷ kept ∷ EventGone ∷ kept ∷ EventGone ∷ [])
    ∷ []

pub function-cases_hold : map (λ (c : FunctionCase). record { first = c.first; code = c.code; events = c.events; fates = function_fates c.first c.code c.events }) function_cases ≡ function_cases
unfolding rows class_of view site_of event_site default_table default_rules note left₁ left₂ left₃ left₄ code_fate code_fates event_fates function_fates const_eq mul_fx div_fx float_of bits_of div_f64 meet join quad_of residue wrap add_i32 sub_i32 mul_i32 div_i32 mod_i32 add_u32 sub_u32 div_u32 mod_u32 Ieee.add Ieee.eq Ieee.div Ieee.of_bits Ieee.to_bits
function-cases_hold = refl

-- ---- single cells of images

pub record CellCase : Type 0 where
  pub image : List ℕ
  pub cell : ℕ
  pub reply : Reply

abbrev pub tells : List ℕ → ℕ → ℕ → ℕ → ℕ → CellCase
tells s k first second third = record { image = s; cell = k; reply = success first second third }

-- "A head or a position past the end has nothing to tell"
abbrev pub tells_nothing : List ℕ → ℕ → CellCase
tells_nothing s k = record { image = s; cell = k; reply = refusal (numbered 31 0 0) }

abbrev pub refuses : List ℕ → ℕ → ℕ → ℕ → ℕ → CellCase
refuses s k number position detail = record { image = s; cell = k; reply = refusal (numbered number position detail) }

-- three functions: their heads at the cells 0, 5 and 6; a Ret at 3 and at 7, what is behind it at 4 and at 8, with its event at 9
abbrev pub three : List ℕ
three =
    function (LoadI32 1 5 ∷ AddI32 2 1 1 ∷ Ret 2 ∷ LoadI32 1 6 ∷ []) []
    ++ Head 7 0 0
    ++ function (RetNothing ∷ StoreVarSited (site 5) no_site ∷ []) (Borrow (site 5) no_site ∷ [])

abbrev pub cell_cases : List CellCase
cell_cases =
    tells_nothing [] 0
    ∷ tells_nothing (Head 7 0 0) 0
    ∷ tells_nothing (Head 7 0 0) 1
    -- positions count every cell, heads too
    ∷ tells_nothing three 0
    ∷ tells three 1 7 0 0
    ∷ tells three 2 5 0x2B 10
    ∷ tells three 3 7 0 0
    ∷ tells three 4 2 3 0
    ∷ tells_nothing three 5
    ∷ tells_nothing three 6
    ∷ tells three 7 7 0 0
    ∷ tells three 8 2 7 0
    ∷ tells three 9 6 0 0
    ∷ tells_nothing three 10
    -- 16 times these would wrap
    ∷ tells_nothing three 1152921504606846976
    ∷ tells_nothing three 1152921504606846978
    ∷ tells_nothing three 18446744073709551615
    -- a number for each other fate and reason
    ∷ tells (function (Label 1 ∷ Label 1 ∷ Jmp 2 ∷ Label 2 ∷ []) []) 2 1 0 0
    ∷ tells (function (Label 1 ∷ Label 1 ∷ Jmp 2 ∷ Label 2 ∷ []) []) 3 3 0 0
    ∷ tells (function (LoadI32 1 5 ∷ LoadI32 1 6 ∷ []) []) 1 4 0 0
    ∷ tells (function (AddI32 2 1 1 ∷ []) []) 1 7 1 0
    ∷ tells (function (LoadI32 1 5 ∷ AddI32 2 1 3 ∷ []) []) 2 7 2 0
    ∷ tells (function (LoadBool 1 0 ∷ AddI32 2 1 1 ∷ []) []) 2 7 3 0
    ∷ tells (function (LoadI32 1 0 ∷ binary 0x27 2 1 1 ∷ []) []) 2 7 4 0
    ∷ tells (function (LoadU32 1 0 ∷ LoadU32 2 1 ∷ binary 0x1F 2 1 2 ∷ []) []) 3 7 5 0
    -- "It refuses as the site check, then 31": whatever the position
    ∷ refuses (5 ∷ []) 0 1 0 0
    ∷ refuses (Head 7 1 0) 1 2 0 0
    ∷ refuses (function (cell (0x52 ∷ []) ∷ []) []) 0 3 0 1
    ∷ refuses (Head 7 0 0 ++ function (LoadI32 1024 5 ∷ []) []) 1000 4 1 2
    ∷ refuses (function (StoreVarSited (site 5) no_site ∷ StoreVarSited (site 5) no_site ∷ []) []) 0 11 0 5
    ∷ refuses (Head 7 0 0 ++ function (MakeRecord (site 9) ∷ []) []) 1 24 1 9
    ∷ []

pub cell-cases_hold : map (λ (c : CellCase). record { image = c.image; cell = c.cell; reply = reply_of (fate_answer c.image c.cell) }) cell_cases ≡ cell_cases
unfolding functions instruction_check event_check head_check rows class_of view site_of event_site site_by repeat_answer activation_answer judge_by image_answer site_answer default_table default_rules note left₁ left₂ left₃ left₄ code_fate code_fates event_fates function_fates image_fates fate_answer add_i32 div_i32 sub_u32 residue wrap
cell-cases_hold = refl
