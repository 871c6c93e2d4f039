-- Worked: pages written out by hand from document 02 (W1): document 01's printed example, functions at the edges of a page, positions of events,
-- names; and the operation itself, with every byte of the lent buffer.
use Rattle.std.specs.Prelude.{◌≡◌, refl, List, [], ◌∷◌, ◌++◌, map, ℕ, ◌+◌, ◌-◌, ◌*◌, length, get_or, replicate}
use Prim.Native.String.{String}
use Rattle.cells.specs.Assembler.{cell, Head, Label, LoadF64, LoadI32, AddI32, Ret, site, no_site, StoreVarSited, MakeRecord, Borrow, Write, function}
use Rattle.cells.specs.Cells.{over, flat}
use Rattle.cells.specs.Check.{instruction_check, event_check, head_check}
use Rattle.cells.specs.Functions.{Function, functions}
use Rattle.cells.specs.Names.{command_names, event_names, name_of}
use Rattle.cells.specs.Refusals.{numbered}
use Rattle.cells.specs.Table.{rows}
use Rattle.cells.specs.declared.walk.Part.TheVariants.{Code, Events}
use Rattle.sites.specs.Sites.{site_of, event_site, site_by}
use Rattle.sites.specs.Validators.{repeat_answer, activation_answer, judge_by}
use Rattle.image.specs.Image.{image_answer}
use Rattle.image.specs.SiteCheck.{site_answer}
use Rattle.listing.specs.Decimal.{decimal}
use Rattle.listing.specs.Places.{ascii}
use Rattle.pages.specs.Promises.{Reply, success, refusal, reply_of, pages_answer, pages_output}
use Rattle.pages.specs.LinePlaces.{line_of}
use Rattle.pages.specs.Pages.{Line, heading, cell_line, function_lines, page_lines, pages_text, pages_of, lines_of, line_bytes, most_lines}

-- a line of 57 bytes as it is read, with its line feed
abbrev pub line : String → Line
line s = ascii s ++ 10 ∷ []

-- ---- whole pages

-- document 01's printed example: LoadI32 r1 5, AddI32 r2 r1 r1, Ret r2 in function 7
abbrev pub example : List ℕ
example = function (LoadI32 1 5 ∷ AddI32 2 1 1 ∷ Ret 2 ∷ []) []

abbrev pub example_pages : List Line
example_pages =
    line "function 00007 page 001                                  "
    ∷ line "    0  LoadI32             010005000000000000000000000000"
    ∷ line "    1  AddI32              020001000100000000000000000000"
    ∷ line "    2  Ret                 010200000000000000000000000000"
    ∷ []

pub printed_example : page_lines example ≡ example_pages
unfolding page_lines functions heading cell_line command_names event_names decimal
printed_example = refl

-- the empty image has no line; a function without cells has its heading alone; each function begins at page 001, whatever its name
pub headings :
    (page_lines [] ≡ [])
    × (page_lines (function [] []) ≡ line "function 00007 page 001                                  " ∷ [])
    × (page_lines (Head 65535 0 0 ++ Head 0 1 0 ++ Label 9 ++ Head 0 0 0 ++ Head 12345 0 0)
    ≡ line "function 65535 page 001                                  "
    ∷ line "function 00000 page 001                                  "
    ∷ line "    0  Label               090000000000000000000000000000"
    ∷ line "function 00000 page 001                                  "
    ∷ line "function 12345 page 001                                  "
    ∷ [])
unfolding page_lines functions heading cell_line command_names event_names decimal
headings = (refl, refl, refl)

-- events behind the instructions, whose positions go on; all of a cell's last 15 bytes, the digits capital
pub events :
    page_lines (function (StoreVarSited (site 0xABCDEF) (site 5) ∷ LoadF64 258 0x7FF8000000000000 ∷ []) (Borrow (site 0xABCDEF) no_site ∷ Write no_site (site 5) ∷ []))
    ≡ line "function 00007 page 001                                  "
    ∷ line "    0  StoreVar            0000000001EFCDAB00010500000000"
    ∷ line "    1  LoadF64             0201000000000000F87F0000000000"
    ∷ line "    2  Borrow              01EFCDAB0000000000000000000000"
    ∷ line "    3  Write               000000000001050000000000000000"
    ∷ []
unfolding page_lines functions heading cell_line command_names event_names decimal
events = refl

-- ---- 0, 1, 49, 50, 98 and 99 cells: how many lines, the first and the last

abbrev pub labels : ℕ → Function
labels n = record { head = Head 7 n 0; code = replicate n (Label 1); events = [] }

abbrev pub edges : List ℕ
edges = 0 ∷ 1 ∷ 49 ∷ 50 ∷ 98 ∷ 99 ∷ []

-- one page up to 49 cells, two up to 98
pub counts :
    (map pages_of edges ≡ 1 ∷ 1 ∷ 1 ∷ 2 ∷ 2 ∷ 3 ∷ [])
    × (map lines_of edges ≡ 1 ∷ 2 ∷ 50 ∷ 52 ∷ 100 ∷ 102 ∷ [])
    × (map (λ (n : ℕ). length (function_lines (labels n))) edges ≡ 1 ∷ 2 ∷ 50 ∷ 52 ∷ 100 ∷ 102 ∷ [])
counts = (refl, refl, refl)

pub first_lines : map (λ (n : ℕ). get_or (function_lines (labels n)) 0 []) edges ≡ replicate 6 (line "function 00007 page 001                                  ")
unfolding heading
first_lines = refl

-- the last line, and the one before it: a page begins before the cells 49 and 98, and only there
pub last_lines :
    map (λ (n : ℕ). get_or (function_lines (labels n)) (lines_of n - 1) []) edges
    ≡ line "function 00007 page 001                                  "
    ∷ line "    0  Label               010000000000000000000000000000"
    ∷ line "   48  Label               010000000000000000000000000000"
    ∷ line "   49  Label               010000000000000000000000000000"
    ∷ line "   97  Label               010000000000000000000000000000"
    ∷ line "   98  Label               010000000000000000000000000000"
    ∷ []
unfolding heading cell_line command_names event_names decimal
last_lines = refl

pub lines_before :
    map (λ (n : ℕ). get_or (function_lines (labels n)) (lines_of n - 2) []) (49 ∷ 50 ∷ 98 ∷ 99 ∷ [])
    ≡ line "   47  Label               010000000000000000000000000000"
    ∷ line "function 00007 page 002                                  "
    ∷ line "   96  Label               010000000000000000000000000000"
    ∷ line "function 00007 page 003                                  "
    ∷ []
unfolding heading cell_line command_names event_names decimal
lines_before = refl

-- 48 instructions and 3 events: the first event is on page 001, and the second begins page 002; 50 events alone
abbrev pub mixed : ℕ → ℕ → Function
mixed n m = record { head = Head 300 n m; code = replicate n (Label 1); events = replicate m (Borrow no_site no_site) }

pub events_over_pages :
    (map (λ (k : ℕ). get_or (function_lines (mixed 48 3)) k []) (48 ∷ 49 ∷ 50 ∷ 51 ∷ 52 ∷ 53 ∷ [])
    ≡ line "   47  Label               010000000000000000000000000000"
    ∷ line "   48  Borrow              000000000000000000000000000000"
    ∷ line "function 00300 page 002                                  "
    ∷ line "   49  Borrow              000000000000000000000000000000"
    ∷ line "   50  Borrow              000000000000000000000000000000"
    ∷ []
    ∷ [])
    × (map (λ (k : ℕ). get_or (function_lines (mixed 0 50)) k []) (0 ∷ 1 ∷ 49 ∷ 50 ∷ 51 ∷ 52 ∷ [])
    ≡ line "function 00300 page 001                                  "
    ∷ line "    0  Borrow              000000000000000000000000000000"
    ∷ line "   48  Borrow              000000000000000000000000000000"
    ∷ line "function 00300 page 002                                  "
    ∷ line "   49  Borrow              000000000000000000000000000000"
    ∷ []
    ∷ [])
unfolding heading cell_line command_names event_names decimal
events_over_pages = (refl, refl)

-- a function's cells by their positions, wherever the pages end
pub by_position :
    map (line_of (mixed 48 3)) (0 ∷ 47 ∷ 48 ∷ 50 ∷ [])
    ≡ line "    0  Label               010000000000000000000000000000"
    ∷ line "   47  Label               010000000000000000000000000000"
    ∷ line "   48  Borrow              000000000000000000000000000000"
    ∷ line "   50  Borrow              000000000000000000000000000000"
    ∷ []
unfolding cell_line command_names event_names decimal
by_position = refl

-- the longest function's last page and last position; the longest pages are reached, by functions of 3,039 and 1,055 cells (4,096 with the heads)
pub longest :
    (pages_of (2048 + 1024) ≡ 63)
    × (heading 65535 63 ≡ line "function 65535 page 063                                  ")
    × (cell_line Events 3071 (Write no_site (site 1)) ≡ line " 3071  Write               000000000001010000000000000000")
    × (lines_of 3039 + lines_of 1055 ≡ most_lines)
    × (line_bytes * most_lines ≡ 242382)
unfolding heading cell_line command_names event_names decimal
longest = (refl, refl, refl, refl, refl)

-- ---- names: the first and last of the barriers and of the others, the longest, and both kinds of events

pub some_names :
    (map (λ (b : ℕ). name_of Code (cell (b ∷ []))) (0x01 ∷ 0x10 ∷ 0x11 ∷ 0x1E ∷ 0x22 ∷ 0x46 ∷ 0x4D ∷ 0x51 ∷ [])
    ≡ "Assert" ∷ "StateUpdate" ∷ "AddF64" ∷ "AddU32" ∷ "ModU32" ∷ "SequenceContains" ∷ "StoreVar" ∷ "TupleGet" ∷ [])
    × (map (λ (b : ℕ). name_of Events (cell (b ∷ []))) (0 ∷ 1 ∷ []) ≡ "Borrow" ∷ "Write" ∷ [])
unfolding command_names event_names
some_names = (refl, refl)

-- ---- the operation: the reply, and every byte of the buffer at exit

pub record OperationCase : Type 0 where
  pub image : List ℕ
  pub before : List ℕ
  pub reply : Reply
  pub after : List ℕ

abbrev pub operation : List ℕ → List ℕ → Reply → List ℕ → OperationCase
operation s b r a = record { image = s; before = b; reply = r; after = a }

abbrev pub refuses : List ℕ → List ℕ → ℕ → ℕ → ℕ → OperationCase
refuses s b number position detail = operation s b (refusal (numbered number position detail)) b

-- n bytes of a lent buffer
abbrev pub lent : ℕ → List ℕ
lent n = replicate n 0xEE

-- a function with a MakeRecord's write site that no event has: 24
abbrev pub unclaimed : List ℕ
unclaimed = function (MakeRecord (site 5) ∷ []) []

unfoldable pub cases : List OperationCase
cases =
    -- the printed example has 4 lines, 232 bytes: a buffer of so many, one byte and a line longer, one byte shorter, and as long as the image
    operation example (lent 232) (success 232) (flat example_pages)
    ∷ operation example (lent 233) (success 232) (flat example_pages ++ 0xEE ∷ [])
    ∷ operation example (lent 290) (success 232) (flat example_pages ++ lent 58)
    ∷ refuses example (lent 231) 30 0 0
    ∷ refuses example (lent 64) 30 0 0
    ∷ refuses example [] 30 0 0
    -- the empty image is 0 bytes, in any buffer
    ∷ operation [] [] (success 0) []
    ∷ operation [] (lent 3) (success 0) (lent 3)
    -- a heading alone
    ∷ operation (function [] []) (lent 60) (success 58) (line "function 00007 page 001                                  " ++ lent 2)
    ∷ refuses (function [] []) (lent 57) 30 0 0
    -- as the site check, whatever is lent: before 30, and there is no 5
    ∷ refuses (0 ∷ []) (lent 99) 1 0 0
    ∷ refuses (0 ∷ []) [] 1 0 0
    ∷ refuses (replicate 16 0) [] 2 0 0
    ∷ refuses (function (cell [] ∷ []) []) (lent 200) 3 0 1
    ∷ refuses (function (LoadI32 1024 5 ∷ []) []) [] 4 0 1
    ∷ refuses unclaimed (lent 116) 24 0 5
    ∷ refuses unclaimed [] 24 0 5
    -- the whole image first: a command that is none in the second function, before the first one's site
    ∷ refuses (unclaimed ++ function (cell [] ∷ []) []) [] 3 1 3
    ∷ refuses (function [] [] ++ unclaimed) (lent 10) 24 1 5
    ∷ []

pub worked :
    map (λ (c : OperationCase). operation c.image c.before (reply_of (pages_answer c.image (length c.before))) (pages_output c.image c.before)) cases ≡ cases
unfolding cases pages_answer pages_output pages_text page_lines heading cell_line command_names event_names decimal over site_answer image_answer functions instruction_check event_check head_check rows site_of event_site site_by repeat_answer activation_answer judge_by
worked = refl
