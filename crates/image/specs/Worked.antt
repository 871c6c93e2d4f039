-- Worked: images, each with what the image check and the site check answer: `good`, or a refusal's number, position and detail; and refusals moved on
-- (document 02, W12).
use Rattle.std.specs.Prelude.{ℕ, ◌≡◌, refl, List, [], ◌∷◌, ◌++◌, map, Bool, true, false, ◌&&◌, eqb, replicate, Option, None, Some}
use Rattle.cells.specs.Bytes.{bytes}
use Rattle.cells.specs.Assembler.{cell, site, no_site, Head, StoreVarSited, MakeRecord, Borrow, Write, LoadI32, AddI32, StoreVar, Assert, JmpIf, Call, Ret, Label, function}
use Rattle.cells.specs.Cells.{Cell, flat}
use Rattle.cells.specs.Functions.{functions}
use Rattle.cells.specs.Refusals.{numbered, numbers_of}
use Rattle.cells.specs.declared.refusal.Refusal.{Refusal}
use Rattle.cells.specs.declared.refusal.Refusal.TheVariants.{Length, Head as HeadWrong, UnknownCommand, Operand, OutputTooShort, ActivationSiteRepeated, ActivationSiteOnWrite, ActivationSiteClaimedTwice, ActivationSitesDiffer, WriteSiteRepeated, WriteSiteOnBorrow, WriteWithoutSite, WriteSiteUnclaimed, StoreVarSiteClaimedTwice, WriteSiteUnknown}
use Rattle.cells.specs.declared.refusal.Numbers.{Numbers}
use Rattle.image.specs.JoinedChecks.{refusal_behind}
use Rattle.image.specs.Operations.{image_reply, site_reply}

-- ---- the table

pub record ImageCase : Type 0 where
  pub image : List ℕ
  pub checked : Option Numbers
  pub sites : Option Numbers

abbrev pub good : Option Numbers
good = None

abbrev pub refused : ℕ → ℕ → ℕ → Option Numbers
refused number position detail = Some (numbered number position detail)

abbrev pub case : List ℕ → Option Numbers → Option Numbers → ImageCase
case i c s = record { image = i; checked = c; sites = s }

-- the image check refuses, and so does the site check
abbrev pub wrong : List ℕ → Option Numbers → ImageCase
wrong i r = case i r r

-- the image check passes
abbrev pub checks : List Cell → List Cell → Option Numbers → ImageCase
checks cs es r = case (function cs es) good r

-- two functions of three cells
abbrev pub three : List ℕ
three = function [] [] ++ function (Label 1 ∷ []) []

unfoldable pub table : List ImageCase
table =
    -- good: nothing, a function with no cells, sites with their events
    case [] good good ∷
    checks [] [] good ∷
    checks (StoreVarSited (site 9) (site 5) ∷ []) (Borrow (site 9) no_site ∷ Write no_site (site 5) ∷ []) good ∷
    checks (MakeRecord (site 5) ∷ []) (Write no_site (site 5) ∷ Write no_site (site 5) ∷ []) good ∷
    -- register 1,023 is read, 1,024 refuses 4; 255, 256 and 257 are registers as others
    checks (LoadI32 1023 1 ∷ []) [] good ∷
    wrong (function (LoadI32 1024 1 ∷ []) []) (refused 4 0 1) ∷
    checks (LoadI32 255 1 ∷ []) [] good ∷
    checks (LoadI32 256 1 ∷ []) [] good ∷
    checks (LoadI32 257 1 ∷ []) [] good ∷
    wrong (function (LoadI32 65535 1 ∷ []) []) (refused 4 0 1) ∷
    -- in every role: dst, lhs and rhs, src, cond, an optional dst and an optional src
    checks (AddI32 1023 1023 1023 ∷ StoreVar 1023 ∷ Assert 1023 ∷ JmpIf 1023 9 ∷ Call 1023 ∷ Ret 1023 ∷ []) [] good ∷
    wrong (function (AddI32 1024 0 0 ∷ []) []) (refused 4 0 1) ∷
    wrong (function (AddI32 0 1024 0 ∷ []) []) (refused 4 0 1) ∷
    wrong (function (AddI32 0 0 1024 ∷ []) []) (refused 4 0 1) ∷
    wrong (function (StoreVar 1024 ∷ []) []) (refused 4 0 1) ∷
    wrong (function (Assert 1024 ∷ []) []) (refused 4 0 1) ∷
    wrong (function (JmpIf 1024 9 ∷ []) []) (refused 4 0 1) ∷
    wrong (function (Call 1024 ∷ []) []) (refused 4 0 1) ∷
    wrong (function (Ret 1024 ∷ []) []) (refused 4 0 1) ∷
    -- an absent register is zero in both bytes
    wrong (function (cell (0x0C ∷ 0 ∷ bytes 2 1) ∷ []) []) (refused 4 0 1) ∷
    wrong (function (cell (0x0C ∷ 0 ∷ bytes 2 256) ∷ []) []) (refused 4 0 1) ∷
    -- labels and names are no registers
    checks (Label 1024 ∷ JmpIf 0 65535 ∷ cell (0x4D ∷ bytes 2 65535) ∷ []) [] good ∷
    -- each number at its smallest image
    wrong (0 ∷ []) (refused 1 0 0) ∷
    wrong (cell []) (refused 2 0 0) ∷
    wrong (Head 7 1 0) (refused 2 0 0) ∷
    wrong (function (cell [] ∷ []) []) (refused 3 0 1) ∷
    wrong (function (cell (0x52 ∷ []) ∷ []) []) (refused 3 0 1) ∷
    wrong (function [] (cell (2 ∷ []) ∷ [])) (refused 3 0 1) ∷
    wrong (function [] (cell (0 ∷ 2 ∷ []) ∷ [])) (refused 4 0 1) ∷
    wrong (function [] (cell (0 ∷ 0 ∷ 1 ∷ []) ∷ [])) (refused 4 0 1) ∷
    wrong (function [] (cell (0 ∷ no_site ++ no_site ++ bytes 4 0 ++ 1 ∷ []) ∷ [])) (refused 4 0 1) ∷
    wrong (function (cell (0x28 ∷ 0 ∷ 0 ∷ 2 ∷ []) ∷ []) []) (refused 4 0 1) ∷
    wrong (function (cell (0x2c ∷ 0 ∷ 0 ∷ 4 ∷ []) ∷ []) []) (refused 4 0 1) ∷
    wrong (function (cell (0x0a ∷ 0 ∷ 0 ∷ 1 ∷ []) ∷ []) []) (refused 4 0 1) ∷
    checks (StoreVarSited (site 9) no_site ∷ StoreVarSited (site 9) no_site ∷ []) [] (refused 11 0 9) ∷
    checks [] (Write (site 9) no_site ∷ []) (refused 12 0 9) ∷
    checks [] (Borrow (site 9) no_site ∷ Borrow (site 9) no_site ∷ []) (refused 13 0 9) ∷
    checks (StoreVarSited (site 9) no_site ∷ []) [] (refused 14 0 0) ∷
    checks [] (Borrow (site 9) no_site ∷ []) (refused 14 0 0) ∷
    checks (MakeRecord (site 5) ∷ MakeRecord (site 5) ∷ []) [] (refused 21 0 5) ∷
    checks [] (Borrow no_site (site 5) ∷ []) (refused 22 0 5) ∷
    checks [] (Write no_site no_site ∷ []) (refused 23 0 0) ∷
    checks (MakeRecord (site 5) ∷ []) [] (refused 24 0 5) ∷
    checks (StoreVarSited no_site (site 5) ∷ []) (Write no_site (site 5) ∷ Write no_site (site 5) ∷ []) (refused 25 0 5) ∷
    checks [] (Write no_site (site 5) ∷ []) (refused 26 0 5) ∷
    -- two refusals: the earlier one wins
    wrong (cell (0xf0 ∷ bytes 2 7 ++ bytes 2 0 ++ bytes 2 0 ++ 1 ∷ [])) (refused 4 0 0) ∷
    wrong (cell (0xf1 ∷ bytes 2 7 ++ bytes 2 0 ++ bytes 2 0 ++ 1 ∷ [])) (refused 2 0 0) ∷
    wrong (cell (0xf0 ∷ bytes 2 7 ++ bytes 2 1 ++ bytes 2 0 ++ 1 ∷ [])) (refused 2 0 0) ∷
    wrong (function (LoadI32 1024 1 ∷ cell [] ∷ []) []) (refused 4 0 1) ∷
    checks (StoreVarSited (site 1) no_site ∷ StoreVarSited (site 2) no_site ∷ StoreVarSited (site 2) no_site ∷ StoreVarSited (site 1) no_site ∷ []) [] (refused 11 0 2) ∷
    checks [] (Write (site 9) no_site ∷ Borrow (site 8) no_site ∷ Borrow (site 8) no_site ∷ []) (refused 12 0 9) ∷
    checks [] (Borrow (site 8) no_site ∷ Borrow (site 8) no_site ∷ Write (site 9) no_site ∷ []) (refused 13 0 8) ∷
    checks (StoreVarSited (site 9) (site 5) ∷ StoreVarSited no_site (site 5) ∷ []) [] (refused 14 0 0) ∷
    checks [] (Borrow no_site (site 5) ∷ Write no_site no_site ∷ []) (refused 22 0 5) ∷
    checks [] (Write no_site no_site ∷ Borrow no_site (site 5) ∷ []) (refused 23 0 0) ∷
    checks (MakeRecord (site 4) ∷ StoreVarSited no_site (site 5) ∷ []) (Write no_site (site 5) ∷ Write no_site (site 5) ∷ []) (refused 24 0 4) ∷
    checks (StoreVarSited no_site (site 5) ∷ MakeRecord (site 4) ∷ []) (Write no_site (site 5) ∷ Write no_site (site 5) ∷ []) (refused 25 0 5) ∷
    -- two 24s, two 26s: the first in instruction order, or in event order, which is a choice where the Rust has none
    checks (MakeRecord (site 5) ∷ StoreVarSited no_site (site 4) ∷ []) [] (refused 24 0 5) ∷
    checks (StoreVarSited no_site (site 4) ∷ MakeRecord (site 5) ∷ []) [] (refused 24 0 4) ∷
    checks [] (Write no_site (site 5) ∷ Write no_site (site 4) ∷ []) (refused 26 0 5) ∷
    checks [] (Write no_site (site 4) ∷ Write no_site (site 5) ∷ []) (refused 26 0 4) ∷
    -- a site fault in function 0: behind it a good function, a site fault, and a fault of the image check, which comes before
    case (function (MakeRecord (site 5) ∷ []) [] ++ function [] []) good (refused 24 0 5) ∷
    case (function [] [] ++ function (MakeRecord (site 5) ∷ []) []) good (refused 24 1 5) ∷
    wrong (function (MakeRecord (site 5) ∷ []) [] ++ function (Label 1 ∷ cell [] ∷ []) []) (refused 3 1 4) ∷
    -- each number behind two functions of three cells (document 02, W12): they move the position on by 2, and the cell of 2, 3 and 4 by 3
    wrong (three ++ 0 ∷ []) (refused 1 0 0) ∷
    wrong (three ++ cell []) (refused 2 2 3) ∷
    wrong (three ++ Head 7 1 0) (refused 2 2 3) ∷
    wrong (three ++ function (Label 1 ∷ cell [] ∷ []) []) (refused 3 2 5) ∷
    wrong (three ++ function [] [] ++ function [] (cell (2 ∷ []) ∷ [])) (refused 3 3 5) ∷
    wrong (three ++ function (LoadI32 1024 1 ∷ []) []) (refused 4 2 4) ∷
    wrong (three ++ cell (0xf0 ∷ bytes 2 7 ++ bytes 2 0 ++ bytes 2 0 ++ 1 ∷ [])) (refused 4 2 3) ∷
    case (three ++ function (StoreVarSited (site 9) no_site ∷ StoreVarSited (site 9) no_site ∷ []) []) good (refused 11 2 9) ∷
    case (three ++ function [] (Write (site 9) no_site ∷ [])) good (refused 12 2 9) ∷
    case (three ++ function [] (Borrow (site 9) no_site ∷ Borrow (site 9) no_site ∷ [])) good (refused 13 2 9) ∷
    case (three ++ function (StoreVarSited (site 9) no_site ∷ []) []) good (refused 14 2 0) ∷
    case (three ++ function (MakeRecord (site 5) ∷ MakeRecord (site 5) ∷ []) []) good (refused 21 2 5) ∷
    case (three ++ function [] (Borrow no_site (site 5) ∷ [])) good (refused 22 2 5) ∷
    case (three ++ function [] (Write no_site no_site ∷ [])) good (refused 23 2 0) ∷
    case (three ++ function (MakeRecord (site 5) ∷ []) []) good (refused 24 2 5) ∷
    case (three ++ function (StoreVarSited no_site (site 5) ∷ []) (Write no_site (site 5) ∷ Write no_site (site 5) ∷ [])) good (refused 25 2 5) ∷
    case (three ++ function [] (Write no_site (site 5) ∷ [])) good (refused 26 2 5) ∷
    -- a head refused at the image's end counts a cell of the next image, so that the image check must pass the first
    wrong (Head 7 1 0 ++ function [] []) (refused 3 0 1) ∷
    -- a site in two functions is no fault of either
    case (three ++ function (MakeRecord (site 5) ∷ []) (Write no_site (site 5) ∷ []) ++ function (MakeRecord (site 5) ∷ []) (Write no_site (site 5) ∷ [])) good good ∷
    -- 2,048 instructions and 1,024 events, one more of each, and one cell more than 65,536 bytes
    checks (replicate 2048 (Label 1)) [] good ∷
    wrong (function (replicate 2049 (Label 1)) []) (refused 2 0 0) ∷
    checks [] (replicate 1024 (Borrow no_site no_site)) good ∷
    wrong (function [] (replicate 1025 (Borrow no_site no_site))) (refused 2 0 0) ∷
    wrong (flat (replicate 4097 (Head 7 0 0))) (refused 1 0 0) ∷
    []

-- ---- a case holds: both answers are as it says

abbrev pub same_numbers : Numbers → Numbers → Bool
same_numbers a b = eqb a.number b.number && eqb a.position b.position && eqb a.detail b.detail

abbrev pub same : Option Numbers → Option Numbers → Bool
same None None = true
same None (Some b) = false
same (Some a) None = false
same (Some a) (Some b) = same_numbers a b

abbrev pub holds : List ImageCase → Bool
holds [] = true
holds (k ∷ ks) = same (image_reply k.image) k.checked && same (site_reply k.image) k.sites && holds ks

-- ---- refusals, and their numbers behind two functions of three cells

pub record Move : Type 0 where
  pub sent : Refusal
  pub numbers : Numbers

abbrev pub move : Refusal → ℕ → ℕ → ℕ → Move
move x number position detail = record { sent = x; numbers = numbered number position detail }

abbrev pub moves : List Move
moves =
    move Length 1 0 0
    ∷ move (HeadWrong 0 0) 2 2 3
    ∷ move (UnknownCommand 1 5) 3 3 8
    ∷ move (Operand 4 9) 4 6 12
    ∷ move OutputTooShort 5 0 0
    ∷ move (ActivationSiteRepeated 0 9) 11 2 9
    ∷ move (ActivationSiteOnWrite 1 0) 12 3 0
    ∷ move (ActivationSiteClaimedTwice 0 4294967295) 13 2 4294967295
    ∷ move (ActivationSitesDiffer 0) 14 2 0
    ∷ move (WriteSiteRepeated 1 5) 21 3 5
    ∷ move (WriteSiteOnBorrow 0 5) 22 2 5
    ∷ move (WriteWithoutSite 1) 23 3 0
    ∷ move (WriteSiteUnclaimed 0 5) 24 2 5
    ∷ move (StoreVarSiteClaimedTwice 2 5) 25 4 5
    ∷ move (WriteSiteUnknown 0 5) 26 2 5
    ∷ []

pub moves_hold : map (λ (m : Move). numbers_of (refusal_behind three m.sent)) moves ≡ map (λ (m : Move). m.numbers) moves
unfolding functions
moves_hold = refl
