-- Worked: packed forms written out by hand from document 02 (W8): what each kind of cell keeps, document 01's printed example; both operations with
-- every byte of the lent output; each refusal at its smallest packed form, and which of two faults decides; the limit of 65,536 bytes.
use Rattle.std.specs.Prelude.{◌≡◌, refl, List, [], ◌∷◌, ◌++◌, map, ℕ, ◌+◌, ◌-◌, length, take, replicate, Ok, Err}
use Rattle.cells.specs.Assembler.{cell, Head, Label, JmpIf, Ret, RetNothing, LoadBool, LoadF64, LoadI32, LoadQ, LoadU32, AddI32, QTruthNot, Assert, Call, CallNothing, site, no_site, StoreVar, StoreVarSited, MakeRecord, Borrow, Write, function}
use Rattle.cells.specs.Bytes.{bytes}
use Rattle.cells.specs.Cells.{Cell, flat, over}
use Rattle.cells.specs.Check.{instruction_check, event_check, head_check}
use Rattle.cells.specs.Functions.{functions}
use Rattle.cells.specs.Refusals.{numbered}
use Rattle.cells.specs.Table.{rows}
use Rattle.cells.specs.declared.refusal.Refusal.TheVariants.{Length}
use Rattle.image.specs.Image.{image_answer}
use Rattle.packed.specs.Form.{Role, Head as HeadCell, Code, Event, row_size, keep, packed}
use Rattle.packed.specs.Reading.{Result, read_cell, unpack_from, unpacked}
use Rattle.packed.specs.Steps.{size_digits, most_kept, put_kept, taken_run}
use Rattle.packed.specs.Operations.{pack_result, unpack_result, answer_of, output_of, Reply, success, refusal, reply_of}
use Rattle.packed.specs.declared.PackingError.TheVariants.{Refused, Ends}

-- ---- what a cell keeps

pub record KeepCase : Type 0 where
  pub role : Role
  pub cell : Cell
  pub kept : List ℕ

abbrev pub keeps : Role → Cell → List ℕ → KeepCase
keeps r c b = record { role = r; cell = c; kept = b }

-- a cell of every width, one by its last operands; absent values keep their zeros
abbrev pub kept : List KeepCase
kept =
    keeps HeadCell (Head 0x1234 0x800 0x400) (0xF0 ∷ 0x34 ∷ 0x12 ∷ 0x00 ∷ 0x08 ∷ 0x00 ∷ 0x04 ∷ [])
    ∷ keeps Code (Label 0xABCD) (0x0A ∷ 0xCD ∷ 0xAB ∷ [])
    ∷ keeps Code (Assert 1023) (0x01 ∷ 0xFF ∷ 0x03 ∷ [])
    ∷ keeps Code (LoadBool 2 1) (0x28 ∷ 0x02 ∷ 0x00 ∷ 0x01 ∷ [])
    ∷ keeps Code (LoadQ 2 3) (0x2C ∷ 0x02 ∷ 0x00 ∷ 0x03 ∷ [])
    ∷ keeps Code (Ret 0x102) (0x0C ∷ 0x01 ∷ 0x02 ∷ 0x01 ∷ [])
    ∷ keeps Code RetNothing (0x0C ∷ 0x00 ∷ 0x00 ∷ 0x00 ∷ [])
    ∷ keeps Code (JmpIf 1 2) (0x09 ∷ 0x01 ∷ 0x00 ∷ 0x02 ∷ 0x00 ∷ [])
    ∷ keeps Code (QTruthNot 3 4) (0x43 ∷ 0x03 ∷ 0x00 ∷ 0x04 ∷ 0x00 ∷ [])
    ∷ keeps Code (AddI32 1 2 3) (0x13 ∷ 0x01 ∷ 0x00 ∷ 0x02 ∷ 0x00 ∷ 0x03 ∷ 0x00 ∷ [])
    ∷ keeps Code (LoadU32 1 0x89ABCDEF) (0x2E ∷ 0x01 ∷ 0x00 ∷ 0xEF ∷ 0xCD ∷ 0xAB ∷ 0x89 ∷ [])
    ∷ keeps Code (Call 1) (0x02 ∷ 0x01 ∷ 0x01 ∷ 0x00 ∷ 0x09 ∷ 0x00 ∷ 0x00 ∷ 0x00 ∷ [])
    ∷ keeps Code CallNothing (0x02 ∷ 0x00 ∷ 0x00 ∷ 0x00 ∷ 0x09 ∷ 0x00 ∷ 0x00 ∷ 0x00 ∷ [])
    -- AdtGet, MakeAdt
    ∷ keeps Code (cell (0x14 ∷ 1 ∷ 0 ∷ 2 ∷ 0 ∷ 3 ∷ 0 ∷ 4 ∷ 5 ∷ [])) (0x14 ∷ 1 ∷ 0 ∷ 2 ∷ 0 ∷ 3 ∷ 0 ∷ 4 ∷ 5 ∷ [])
    ∷ keeps Code (cell (0x30 ∷ 1 ∷ 0 ∷ 2 ∷ 0 ∷ 3 ∷ 0 ∷ 4 ∷ 0 ∷ 0 ∷ 5 ∷ 6 ∷ 7 ∷ [])) (0x30 ∷ 1 ∷ 0 ∷ 2 ∷ 0 ∷ 3 ∷ 0 ∷ 4 ∷ 0 ∷ 0 ∷ 5 ∷ 6 ∷ 7 ∷ [])
    ∷ keeps Code (LoadF64 1 0x7FF8000000000000) (0x29 ∷ 0x01 ∷ 0x00 ∷ 0x00 ∷ 0x00 ∷ 0x00 ∷ 0x00 ∷ 0x00 ∷ 0x00 ∷ 0xF8 ∷ 0x7F ∷ [])
    ∷ keeps Code (MakeRecord no_site) (0x32 ∷ 0 ∷ 0 ∷ 0 ∷ 0 ∷ 0 ∷ 0 ∷ 0 ∷ 0 ∷ 0 ∷ 0 ∷ 0 ∷ [])
    ∷ keeps Code (StoreVarSited (site 9) (site 5)) (0x4D ∷ 0 ∷ 0 ∷ 0 ∷ 0 ∷ 1 ∷ 9 ∷ 0 ∷ 0 ∷ 0 ∷ 1 ∷ 5 ∷ 0 ∷ 0 ∷ 0 ∷ [])
    ∷ keeps Code (StoreVar 6) (0x4D ∷ 5 ∷ 0 ∷ 6 ∷ 0 ∷ 0 ∷ 0 ∷ 0 ∷ 0 ∷ 0 ∷ 0 ∷ 0 ∷ 0 ∷ 0 ∷ 0 ∷ [])
    ∷ keeps Event (Borrow (site 9) no_site) (0 ∷ 1 ∷ 9 ∷ 0 ∷ 0 ∷ 0 ∷ 0 ∷ 0 ∷ 0 ∷ 0 ∷ 0 ∷ 0 ∷ 0 ∷ 0 ∷ 0 ∷ [])
    ∷ keeps Event (cell (1 ∷ no_site ++ site 5 ++ bytes 4 0x89ABCDEF)) (1 ∷ 0 ∷ 0 ∷ 0 ∷ 0 ∷ 0 ∷ 1 ∷ 5 ∷ 0 ∷ 0 ∷ 0 ∷ 0xEF ∷ 0xCD ∷ 0xAB ∷ 0x89 ∷ [])
    ∷ []

pub kept-worked : map (λ (c : KeepCase). keeps c.role c.cell (keep c.role c.cell)) kept ≡ kept
unfolding row_size rows
kept-worked = refl

-- ---- the operations: what is given, the reply, and the lent output at entry and at exit

pub record OperationCase : Type 0 where
  pub given : List ℕ
  pub before : List ℕ
  pub reply : Reply
  pub after : List ℕ

abbrev pub operation : List ℕ → List ℕ → Reply → List ℕ → OperationCase
operation s b r a = record { given = s; before = b; reply = r; after = a }

abbrev pub refuses : List ℕ → List ℕ → ℕ → ℕ → ℕ → OperationCase
refuses s b number position detail = operation s b (refusal (numbered number position detail)) b

-- what an operation comes to, as such a row
abbrev pub answered : (List ℕ → Result) → OperationCase → OperationCase
answered result c = operation c.given c.before (reply_of (answer_of (result c.given) (length c.before))) (output_of (result c.given) c.before)

-- n bytes of a lent output
abbrev pub lent : ℕ → List ℕ
lent n = replicate n 0xEE

-- document 01's printed example: LoadI32 r1 5, AddI32 r2 r1 r1, Ret r2 in function 7
abbrev pub example : List ℕ
example = function (LoadI32 1 5 ∷ AddI32 2 1 1 ∷ Ret 2 ∷ []) []

abbrev pub example_packed : List ℕ
example_packed =
    0xF0 ∷ 0x07 ∷ 0x00 ∷ 0x03 ∷ 0x00 ∷ 0x00 ∷ 0x00
    ∷ 0x2B ∷ 0x01 ∷ 0x00 ∷ 0x05 ∷ 0x00 ∷ 0x00 ∷ 0x00
    ∷ 0x13 ∷ 0x02 ∷ 0x00 ∷ 0x01 ∷ 0x00 ∷ 0x01 ∷ 0x00
    ∷ 0x0C ∷ 0x01 ∷ 0x02 ∷ 0x00
    ∷ []

-- a head of function 7 that promises n instructions and m events, packed
abbrev pub head : ℕ → ℕ → List ℕ
head n m = 0xF0 ∷ 7 ∷ 0 ∷ bytes 2 n ++ bytes 2 m

-- two functions: a StoreVar with its events; no cell; and both packed
abbrev pub sited : List ℕ
sited = function (StoreVarSited (site 9) (site 5) ∷ []) (Borrow (site 9) no_site ∷ Write no_site (site 5) ∷ []) ++ function [] []

abbrev pub sited_packed : List ℕ
sited_packed =
    head 1 2
    ++ (0x4D ∷ 0 ∷ 0 ∷ 0 ∷ 0 ∷ 1 ∷ 9 ∷ 0 ∷ 0 ∷ 0 ∷ 1 ∷ 5 ∷ 0 ∷ 0 ∷ 0 ∷ [])
    ++ (0 ∷ 1 ∷ 9 ∷ 0 ∷ 0 ∷ 0 ∷ 0 ∷ 0 ∷ 0 ∷ 0 ∷ 0 ∷ 0 ∷ 0 ∷ 0 ∷ 0 ∷ [])
    ++ (1 ∷ 0 ∷ 0 ∷ 0 ∷ 0 ∷ 0 ∷ 1 ∷ 5 ∷ 0 ∷ 0 ∷ 0 ∷ 0 ∷ 0 ∷ 0 ∷ 0 ∷ [])
    ++ head 0 0

-- ---- `pack`

unfoldable pub packs : List OperationCase
packs =
    -- the printed example has 25 bytes: an output of so many, two more, one less, as long as the image, and none
    operation example (lent 25) (success 25) example_packed
    ∷ operation example (lent 27) (success 25) (example_packed ++ lent 2)
    ∷ operation example (lent 64) (success 25) (example_packed ++ lent 39)
    ∷ refuses example (lent 24) 5 0 0
    ∷ refuses example [] 5 0 0
    -- the empty image, in any output
    ∷ operation [] [] (success 0) []
    ∷ operation [] (lent 3) (success 0) (lent 3)
    -- a function without cells; sites with their events
    ∷ operation (function [] []) (lent 8) (success 7) (0xF0 ∷ 7 ∷ 0 ∷ 0 ∷ 0 ∷ 0 ∷ 0 ∷ 0xEE ∷ [])
    ∷ refuses (function [] []) (lent 6) 5 0 0
    ∷ operation sited (lent 60) (success 59) (sited_packed ++ lent 1)
    -- sites are not checked: a write site that no event has
    ∷ operation (function (MakeRecord (site 5) ∷ []) []) (lent 19) (success 19) (head 1 0 ++ (0x32 ∷ 0 ∷ 0 ∷ 0 ∷ 0 ∷ 0 ∷ 0 ∷ 1 ∷ 5 ∷ 0 ∷ 0 ∷ 0 ∷ []))
    -- as the image check, whatever is lent, and before 5
    ∷ refuses (0 ∷ []) (lent 9) 1 0 0
    ∷ refuses (0 ∷ []) [] 1 0 0
    ∷ refuses (replicate 65552 0) [] 1 0 0
    ∷ refuses (cell []) [] 2 0 0
    ∷ refuses (Head 7 1 0) (lent 99) 2 0 0
    ∷ refuses (function (cell [] ∷ []) []) [] 3 0 1
    ∷ refuses (function [] (cell (2 ∷ []) ∷ [])) [] 3 0 1
    ∷ refuses (function (LoadI32 1024 5 ∷ []) []) [] 4 0 1
    -- a spare byte that is not zero, which packing would lose
    ∷ refuses (function [] [] ++ function (Label 1 ∷ cell (0x0A ∷ 1 ∷ 0 ∷ 1 ∷ []) ∷ []) []) (lent 99) 4 1 3
    ∷ refuses (cell (0xF0 ∷ 7 ∷ 0 ∷ 0 ∷ 0 ∷ 0 ∷ 0 ∷ 1 ∷ [])) (lent 99) 4 0 0
    ∷ []

pub pack_worked : map (answered pack_result) packs ≡ packs
unfolding packs pack_result packed row_size answer_of output_of over image_answer functions instruction_check event_check head_check rows
pack_worked = refl

-- ---- `unpack`

unfoldable pub unpacks : List OperationCase
unpacks =
    -- the printed example back: an output of 64 bytes, two more, one less, as long as the packed form, and none
    operation example_packed (lent 64) (success 64) example
    ∷ operation example_packed (lent 66) (success 64) (example ++ lent 2)
    ∷ refuses example_packed (lent 63) 5 0 0
    ∷ refuses example_packed (lent 25) 5 0 0
    ∷ refuses example_packed [] 5 0 0
    -- nothing left and nothing promised
    ∷ operation [] [] (success 0) []
    ∷ operation [] (lent 3) (success 0) (lent 3)
    ∷ operation (head 0 0) (lent 17) (success 16) (Head 7 0 0 ++ lent 1)
    ∷ refuses (head 0 0) (lent 15) 5 0 0
    ∷ operation sited_packed (lent 81) (success 80) (sited ++ lent 1)
    -- sites are not checked
    ∷ operation (head 1 0 ++ (0x32 ∷ 0 ∷ 0 ∷ 0 ∷ 0 ∷ 0 ∷ 0 ∷ 1 ∷ 5 ∷ 0 ∷ 0 ∷ 0 ∷ [])) (lent 32) (success 32) (function (MakeRecord (site 5) ∷ []) [])
    -- 32 inside a head, from its first byte on, and before the promised cells: a head that promises no more than the limits is none in itself
    ∷ refuses (0xF0 ∷ []) (lent 99) 32 0 0
    ∷ refuses (take 6 (head 0 0)) (lent 99) 32 0 0
    ∷ refuses (head 1 0) (lent 99) 32 0 1
    ∷ refuses (head 0 1) (lent 99) 32 0 1
    ∷ refuses (head 2048 1024) (lent 99) 32 0 1
    -- 32 inside an instruction and inside an event, from the first byte to the last but one
    ∷ refuses (head 1 0 ++ 0x0A ∷ []) (lent 99) 32 0 1
    ∷ refuses (head 1 0 ++ 0x0A ∷ 1 ∷ []) (lent 99) 32 0 1
    ∷ refuses (head 0 1 ++ 0 ∷ []) (lent 99) 32 0 1
    ∷ refuses (head 0 1 ++ replicate 14 0) (lent 99) 32 0 1
    -- 2: a head's first byte; one instruction or one event more than the limit
    ∷ refuses (replicate 7 0) (lent 99) 2 0 0
    ∷ refuses (0xF1 ∷ 7 ∷ 0 ∷ 0 ∷ 0 ∷ 0 ∷ 0 ∷ []) (lent 99) 2 0 0
    ∷ refuses (head 2049 0) (lent 99) 2 0 0
    ∷ refuses (head 0 1025) (lent 99) 2 0 0
    -- 3: commands are 01 to 51, event kinds 0 and 1
    ∷ refuses (head 1 0 ++ 0x00 ∷ []) (lent 99) 3 0 1
    ∷ refuses (head 1 0 ++ 0x52 ∷ []) (lent 99) 3 0 1
    ∷ refuses (head 1 0 ++ 0xF0 ∷ []) (lent 99) 3 0 1
    ∷ refuses (head 0 1 ++ 0x02 ∷ []) (lent 99) 3 0 1
    -- 4: a register past 1,023; absent values that are not zero; a bool of 2, a quad of 4, a presence byte of 2
    ∷ refuses (head 1 0 ++ 0x01 ∷ 0x00 ∷ 0x04 ∷ []) (lent 99) 4 0 1
    ∷ refuses (head 1 0 ++ 0x0C ∷ 0 ∷ 1 ∷ 0 ∷ []) (lent 99) 4 0 1
    ∷ refuses (head 1 0 ++ 0x0C ∷ 0 ∷ 0 ∷ 1 ∷ []) (lent 99) 4 0 1
    ∷ refuses (head 1 0 ++ 0x0C ∷ 2 ∷ 0 ∷ 0 ∷ []) (lent 99) 4 0 1
    ∷ refuses (head 1 0 ++ 0x28 ∷ 0 ∷ 0 ∷ 2 ∷ []) (lent 99) 4 0 1
    ∷ refuses (head 1 0 ++ 0x2C ∷ 0 ∷ 0 ∷ 4 ∷ []) (lent 99) 4 0 1
    ∷ refuses (head 0 1 ++ (0 ∷ 0 ∷ 1 ∷ replicate 12 0)) (lent 99) 4 0 1
    ∷ refuses (head 0 1 ++ (1 ∷ replicate 5 0 ++ 2 ∷ replicate 8 0)) (lent 99) 4 0 1
    -- two faults in one cell. A head that ends too early with a wrong first byte, or with a count past the limit: 32 before 2
    ∷ refuses (0x00 ∷ []) (lent 99) 32 0 0
    ∷ refuses (replicate 6 0xFF) (lent 99) 32 0 0
    ∷ refuses (take 6 (head 2049 0)) (lent 99) 32 0 0
    -- a head with both faults of 2
    ∷ refuses (replicate 7 0xFF) (lent 99) 2 0 0
    -- an unknown command or kind with nothing behind it: 3 before 32, which the rows of 3 have too, and with bytes behind it
    ∷ refuses (head 1 0 ++ 0x00 ∷ 0xFF ∷ []) (lent 99) 3 0 1
    ∷ refuses (head 0 1 ++ 0xFF ∷ 0xFF ∷ []) (lent 99) 3 0 1
    -- an operand out of range in a cell that ends too early: 32 before 4
    ∷ refuses (head 1 0 ++ 0x2B ∷ 0x00 ∷ 0x04 ∷ []) (lent 99) 32 0 1
    ∷ refuses (head 1 0 ++ 0x0C ∷ 0 ∷ 1 ∷ []) (lent 99) 32 0 1
    ∷ refuses (head 0 1 ++ 0 ∷ 2 ∷ []) (lent 99) 32 0 1
    -- 5 last, whatever is lent
    ∷ refuses (0xF0 ∷ []) [] 32 0 0
    ∷ refuses (replicate 7 0) [] 2 0 0
    ∷ refuses (head 1 0 ++ 0x00 ∷ []) [] 3 0 1
    ∷ refuses (head 1 0 ++ 0x0C ∷ 0 ∷ 1 ∷ 0 ∷ []) [] 4 0 1
    ∷ refuses (head 2 0 ++ 0x0A ∷ 1 ∷ 0 ∷ 0x00 ∷ []) (lent 16) 3 0 2
    -- the first fault decides: an earlier cell before a later one, whatever a head promises
    ∷ refuses (head 2048 0 ++ 0x00 ∷ []) (lent 99) 3 0 1
    ∷ refuses (head 2 0 ++ (0x0C ∷ 0 ∷ 1 ∷ 0 ∷ []) ++ 0x00 ∷ []) (lent 99) 4 0 1
    ∷ refuses (head 2 0 ++ (0x0A ∷ 1 ∷ 0 ∷ []) ++ (0x0A ∷ 1 ∷ [])) (lent 99) 32 0 2
    -- instructions before events: the byte 0 is no command but a kind
    ∷ refuses (head 1 1 ++ (0x00 ∷ replicate 14 0) ++ (0x0A ∷ 1 ∷ 0 ∷ [])) (lent 99) 3 0 1
    ∷ refuses (head 1 1 ++ (0x0A ∷ 1 ∷ 0 ∷ []) ++ (0x0A ∷ 1 ∷ 0 ∷ [])) (lent 99) 3 0 2
    -- behind a whole function the next byte is a head's; the function is counted, and every cell
    ∷ refuses (head 0 0 ++ 0xF0 ∷ []) (lent 99) 32 1 1
    ∷ refuses (head 0 0 ++ 0x00 ∷ []) (lent 99) 32 1 1
    ∷ refuses (example_packed ++ replicate 7 0) (lent 99) 2 1 4
    ∷ refuses (example_packed ++ head 0 0 ++ head 1 0 ++ 0x52 ∷ []) (lent 999) 3 2 6
    ∷ refuses (sited_packed ++ head 1 1 ++ (0x0C ∷ 0 ∷ 0 ∷ 0 ∷ []) ++ (1 ∷ 2 ∷ replicate 13 0)) (lent 999) 4 2 7
    ∷ refuses (sited_packed ++ head 1 1 ++ (0x0C ∷ 0 ∷ 0 ∷ 0 ∷ [])) (lent 999) 32 2 7
    -- the cell's spare bytes are not there: one that is given begins the next cell
    ∷ refuses example (lent 999) 3 0 1
    ∷ []

pub unpack_worked : map (answered unpack_result) unpacks ≡ unpacks
unfolding unpacks unpacked unpack_from read_cell row_size answer_of output_of over instruction_check event_check head_check rows
unpack_worked = refl

-- ---- the limit: 65,536 bytes are 4,096 cells

-- a function of n labels that promises one cell more or none; 4,096 cells are two of 2,047
abbrev pub labels : ℕ → ℕ → List ℕ
labels n more = head (n + more) 0 ++ flat (replicate n (0x0A ∷ 1 ∷ 0 ∷ []))

pub full_worked :
    (reply_of (answer_of (unpack_result (labels 2047 0 ++ labels 2047 0)) 65536) ≡ success 65536)
    × (reply_of (answer_of (unpack_result (labels 2047 0 ++ labels 2047 1)) 65536) ≡ refusal (numbered 1 0 0))
unfolding unpacked unpack_from read_cell row_size answer_of instruction_check event_check head_check rows
full_worked = (refl, refl)

-- what comes of the bytes from function 2 on, where the image has room for so many more cells
abbrev pub last : ℕ → List ℕ → Reply
last room s = reply_of (answer_of (unpack_from room 2 (4096 - room) [] s) 65536)

abbrev pub too_long : Reply
too_long = refusal (numbered 1 0 0)

pub last-worked :
    -- the last cells that have room are read as any others
    (last 1 (head 0 0) ≡ success 16)
    × (last 2 (head 1 0 ++ 0x0A ∷ 1 ∷ 0 ∷ []) ≡ success 32)
    × (last 1 (0xF0 ∷ []) ≡ refusal (numbered 32 2 4095))
    × (last 1 (replicate 7 0) ≡ refusal (numbered 2 2 4095))
    × (last 2 (head 1 0) ≡ refusal (numbered 32 2 4095))
    × (last 2 (head 1 0 ++ 0x00 ∷ []) ≡ refusal (numbered 3 2 4095))
    -- a cell past them, there: 1, before 32 and before 2
    × (last 1 (head 0 0 ++ head 0 0) ≡ too_long)
    × (last 1 (head 0 0 ++ 0xF0 ∷ []) ≡ too_long)
    × (last 1 (head 0 0 ++ replicate 7 0) ≡ too_long)
    × (last 0 (0x00 ∷ []) ≡ too_long)
    -- promised: there; not there; and wrong in every way, before 32, 3 and 4
    × (last 1 (head 1 0 ++ 0x0A ∷ 1 ∷ 0 ∷ []) ≡ too_long)
    × (last 1 (head 1 0) ≡ too_long)
    × (last 1 (head 0 1) ≡ too_long)
    × (last 1 (head 1 0 ++ 0x0A ∷ []) ≡ too_long)
    × (last 1 (head 1 0 ++ 0x00 ∷ []) ≡ too_long)
    × (last 1 (head 1 0 ++ 0x0C ∷ 0 ∷ 1 ∷ 0 ∷ []) ≡ too_long)
    -- an earlier fault decides, though more is promised than has room
    × (last 2 (head 2048 1024 ++ 0x00 ∷ []) ≡ refusal (numbered 3 2 4095))
    × (last 2 (head 2048 1024) ≡ refusal (numbered 32 2 4095))
    × (last 2 (head 2048 1024 ++ 0x0A ∷ 1 ∷ 0 ∷ []) ≡ too_long)
    -- nothing left and nothing promised
    × (last 0 [] ≡ success 0)
unfolding unpack_from read_cell row_size answer_of instruction_check event_check head_check rows
last-worked = (refl, refl, refl, refl, refl, refl, refl, refl, refl, refl, refl, refl, refl, refl, refl, refl, refl, refl, refl, refl)

-- ---- inner: the sizes of rows as digits (Label 3, PulseEmit 3, Ret 4; an event 15, a head 7, then what is no command), the most that cells can keep,
-- a Label kept where 15 cells are left, and 16; and runs of cells: two Labels, where room is for one more, and an event that is missing

abbrev pub two_labels : List ℕ
two_labels = 0x0A ∷ 1 ∷ 0 ∷ 0x0A ∷ 2 ∷ 0 ∷ []

pub steps_hold : (size_digits 3 0x0A ≡ 0x433) × (size_digits 3 0x52 ≡ 0x17F) × (size_digits 0 0x52 ≡ 0)
    × (map most_kept (0 ∷ 1 ∷ 2 ∷ 3 ∷ 4096 ∷ []) ≡ 0 ∷ 7 ∷ 22 ∷ 37 ∷ 61432 ∷ [])
    × (put_kept (Label 0xABCD) 3 15 (replicate 17 9) ≡ 0x0A ∷ 0xCD ∷ 0xAB ∷ replicate 14 9)
    × (put_kept (Label 0xABCD) 3 16 (replicate 17 9) ≡ 0x0A ∷ 0xCD ∷ 0xAB ∷ (replicate 13 0 ++ 9 ∷ []))
    × (taken_run Code 2 0 4094 two_labels ≡ Ok 6)
    × (taken_run Code 2 0 4095 two_labels ≡ Err (Refused Length))
    × (taken_run Code 2 7 4094 (take 3 two_labels) ≡ Err (Ends 7 4095))
    × (taken_run Event 1 7 3 [] ≡ Err (Ends 7 3))
    × (taken_run Event 0 7 4096 [] ≡ Ok 0)
unfolding rows row_size over read_cell instruction_check event_check
steps_hold = (refl, refl, refl, refl, refl, refl, refl, refl, refl, refl, refl)
