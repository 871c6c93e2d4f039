-- The lines: each has 58 bytes; and how many there are.
use mathlib.Core.Path.{◌≡◌, refl, ◌∙◌, ap}
use mathlib.Core.Bool.{true}
use mathlib.Core.List.{List, [], ◌∷◌, ◌++◌, append-nil}
use Prim.Native.Nat.{ℕ, zero, suc, ◌+◌, ◌-◌, ◌*◌, ◌/◌, ◌%◌, ◌≤◌, ◌<◌}
use native.Mathlib.Omega.{arith}
use borrow.Author.Tests.{leb-true, eqb-true, eqb-false, lt-ltb, ne_eqb}
use lib.Dec.{leb, ltb, eqb}
use lib.ListN.{length, take, drop, length-append, length-drop}
use lib.Seq.{take_all}
use Rattle.cells.specs.Bytes.{byte}
use Rattle.cells.specs.Cells.{Cell, cells, flat}
use Rattle.cells.specs.Check.{is_command, is_event_kind, row_ok}
use Rattle.cells.specs.Functions.{Function, there, functions, cells_of, cells_of_all}
use Rattle.cells.specs.Lists.{All}
use Rattle.cells.specs.Names.{name_of}
use Rattle.cells.specs.Table.{event_row}
use Rattle.cells.specs.WellFormed.{WellFormed}
use Rattle.cells.specs.declared.walk.Part.{Part}
use Rattle.cells.specs.declared.walk.Part.TheVariants.{Code, Events}
use Rattle.cells.proofs.Cells.{length-cells, flat_append}
use Rattle.cells.proofs.Checks.{head_fits}
use Rattle.cells.proofs.Facts.{by_test, and_true}
use Rattle.cells.proofs.Functions.{cells_of_functions}
use Rattle.cells.proofs.Lists.{all_append, all_parts, all_two}
use Rattle.image.specs.Image.{GoodFunction, GoodImage}
use Rattle.image.specs.SiteCheck.{SitesPass}
use Rattle.image.proofs.Again.{image_formed}
use Rattle.listing.specs.Decimal.{decimal}
use Rattle.listing.specs.Places.{ascii, fill, fill_left}
use Rattle.listing.specs.Text.{line_feed, hex}
use Rattle.listing.proofs.Lines.{length-hex}
use Rattle.listing.proofs.Placed.{five_places}
use Rattle.pages.specs.Pages.{Line, heading, cell_line, starts_page, new_page, entry_lines, part_lines, name_in, function_lines, all_lines, page_lines, pages_text, pages_of, lines_of, lines_of_all, line_bytes, most_lines}
use Rattle.pages.specs.Steps.{cell_title, Named, Listable, ListableFunction}
use Rattle.pages.proofs.NameTable.{length_name}

-- ---- the pieces of a line

pub length_position : (position : ℕ) → position < 4096 → length (fill_left 5 (decimal position)) ≡ 5
length_position position h = ap length (five_places position (omega arith))

pub length-heading : (name page : ℕ) → length (heading name page) ≡ 58
unfolding heading
length-heading name page = refl

pub length_title : (p : Part) (position : ℕ) (c : Cell) → Named p c → position < 4096 → length (cell_title p position c) ≡ 25
length_title p position c r h =
    let a = fill_left 5 (decimal position) in
    let b = fill 18 (ascii (name_of p c)) in
    omega (arith, length-append (a ++ ascii "  ") b, length-append a (ascii "  "), length_position position h, length_name p c r)

pub length-cell : (p : Part) (position : ℕ) (c : Cell) → Listable p c → position < 4096 → length (cell_line p position c) ≡ 58
unfolding cell_line
length-cell p position c r h =
    let a = cell_title p position c in
    let d = hex (drop 1 c) in
    omega (
      arith,
      length-append (a ++ ascii "  " ++ d) (line_feed ∷ []),
      length-append (a ++ ascii "  ") d,
      length-append a (ascii "  "),
      length_title p position c r.0 h,
      length-hex (drop 1 c),
      length-drop 1 c,
      r.1,
    )

-- `&cell[1..]`
pub tail_is : (c : List ℕ) → take (length c - 1) (drop 1 c) ≡ drop 1 c
tail_is c = take_all (length c - 1) (drop 1 c) (omega (arith, length-drop 1 c))

-- ---- every line has 58 bytes

abbrev pub Whole : List Line → Type 0
Whole ls = All (λ (l : Line). length l ≡ line_bytes) ls

pub length_lines : (ls : List Line) → Whole ls → length (flat ls) ≡ line_bytes * length ls
length_lines [] w = refl
length_lines (l ∷ ls) w = omega (arith, length-append l (flat ls), length_lines ls w.1, w.0)

whole_append : (ls ms : List Line) → Whole ls → Whole ms → Whole (ls ++ ms)
whole_append ls ms = all_append (λ (l : Line). length l ≡ line_bytes) ls ms

-- before a cell: nothing, or a heading
pub page_none : (name position : ℕ) → (position % 49 ≡ 0 → ⊥) → new_page name position ≡ []
page_none name position h = by_test (ltb 0 position) (λ t. rw (t, ne_eqb (position % 49) 0 h)) (λ t. rw t)

pub page_some : (name position : ℕ) → 0 < position → position % 49 ≡ 0 → new_page name position ≡ heading name (position / 49 + 1) ∷ []
page_some name position h e = rw (lt-ltb 0 position h, e)

-- the lines of a cell as text
pub entry_text : (p : Part) (name position : ℕ) (c : Cell) → flat (entry_lines p name position c) ≡ flat (new_page name position) ++ cell_line p position c
entry_text p name position c =
    flat_append (new_page name position) (cell_line p position c ∷ []) ∙ ap (λ (t : List ℕ). flat (new_page name position) ++ t) (append-nil (cell_line p position c))

whole_page : (name position : ℕ) → Whole (new_page name position)
whole_page name position =
    by_test (starts_page position) (λ t. rw t (length-heading name (position / 49 + 1), tt)) (λ t. rw t tt)

pub whole_entry : (p : Part) (name position : ℕ) (c : Cell) → Listable p c → position < 4096 → Whole (entry_lines p name position c)
whole_entry p name position c r h =
    whole_append (new_page name position) (cell_line p position c ∷ []) (whole_page name position) (length-cell p position c r h, tt)

pub whole_part : (p : Part) (name position : ℕ) (cs : List Cell) → All (Listable p) cs → position + length cs ≤ 4096 → Whole (part_lines p name position cs)
whole_part p name position [] g h = tt
whole_part p name position (c ∷ cs) g h =
    whole_append (entry_lines p name position c) (part_lines p name (position + 1) cs) (whole_entry p name position c g.0 (omega arith))
    (whole_part p name (position + 1) cs g.1 (omega arith))

pub whole-function : (f : Function) → ListableFunction f → Whole (function_lines f)
whole-function f l = (
  length-heading (name_in f) 1,
  whole_append (part_lines Code (name_in f) 0 f.code) (part_lines Events (name_in f) (length f.code) f.events)
      (whole_part Code (name_in f) 0 f.code l.code (omega (arith, l.few)))
      (whole_part Events (name_in f) (length f.code) f.events l.events l.few),
)

pub whole-all : (fs : List Function) → All ListableFunction fs → Whole (all_lines fs)
whole-all [] l = tt
whole-all (f ∷ fs) l = whole_append (function_lines f) (all_lines fs) (whole-function f l.0) (whole-all fs l.1)

-- ---- how many lines

pub some_pages : (n : ℕ) → 0 < n → pages_of n ≡ (n + 48) / 49
some_pages n h = rw (ne_eqb n 0 (λ e. omega arith))

pub page_more : (name position : ℕ) → length (new_page name position) + pages_of position ≡ pages_of (position + 1)
page_more name zero = refl
page_more name (suc i) =
    let a = some_pages (suc i) (omega arith) in
    let b = some_pages (suc i + 1) (omega arith) in
    by_test (eqb (suc i % 49) 0)
    (λ t.
    let n = ap length (page_some name (suc i) (omega arith) (eqb-true (suc i % 49) 0 t)) in
    omega (arith, a, b, n, eqb-true (suc i % 49) 0 t))
    (λ t.
    let f = eqb-false (suc i % 49) 0 t in
    let n = ap length (page_none name (suc i) f) in
    let g : 0 < suc i % 49 = omega (arith, f) in
    omega (arith, a, b, n, g))

pub count_part : (p : Part) (name position : ℕ) (cs : List Cell) → length (part_lines p name position cs) + pages_of position ≡ length cs + pages_of (position + length cs)
count_part p name position [] =
    let e : position ≡ position + 0 = omega arith in
    omega (arith, ap pages_of e)
count_part p name position (c ∷ cs) =
    let e : position + 1 + length cs ≡ position + length (c ∷ cs) = omega arith in
    omega (
      arith,
      length-append (entry_lines p name position c) (part_lines p name (position + 1) cs),
      length-append (new_page name position) (cell_line p position c ∷ []),
      page_more name position,
      count_part p name (position + 1) cs,
      ap pages_of e,
    )

pub count_function : (f : Function) → length (function_lines f) ≡ lines_of (there f)
count_function f =
    let e : 0 + length f.code ≡ length f.code = omega arith in
    omega (
      arith,
      length-append (part_lines Code (name_in f) 0 f.code) (part_lines Events (name_in f) (length f.code) f.events),
      count_part Code (name_in f) 0 f.code,
      count_part Events (name_in f) (length f.code) f.events,
      ap pages_of e,
    )

count_all_lem : (fs : List Function) → length (all_lines fs) ≡ lines_of_all fs
count_all_lem [] = refl
count_all_lem (f ∷ fs) = omega (arith, length-append (function_lines f) (all_lines fs), count_function f, count_all_lem fs)

-- 49 cells, heads counted, have no more than 50 lines
pub few_lines : (n : ℕ) → 49 * lines_of n ≤ 50 * (n + 1)
few_lines zero = omega arith
few_lines (suc n) = omega (arith, some_pages (suc n) (omega arith))

most-all : (fs : List Function) → 49 * lines_of_all fs ≤ 50 * length (cells_of_all fs)
most-all [] = omega arith
most-all (f ∷ fs) =
    omega (arith, most-all fs, few_lines (there f), length-append (cells_of f) (cells_of_all fs), length-append f.code f.events)

-- ---- a good image's cells have lines

command_listable : (c : Cell) → (is_command c ≡ true) × (row_ok (byte c 0) c ≡ true) → length c ≡ 16 → Listable Code c
command_listable c g l = (omega (arith, leb-true (byte c 0) 0x51 (and_true (ltb 0 (byte c 0)) (leb (byte c 0) 0x51) g.0).1), l)

event_listable : (c : Cell) → (is_event_kind c ≡ true) × (row_ok event_row c ≡ true) → length c ≡ 16 → Listable Events c
event_listable c g l = (omega (arith, leb-true (byte c 0) 1 g.0), l)

listable : (f : Function) → GoodFunction f → WellFormed f → ListableFunction f
listable f g w =
    let l = all_parts (λ (c : Cell). length c ≡ 16) f.code f.events w.full.1 in
    let t = head_fits 0 0 (there f) f.head (w.head 0 0) in
    record {
      code = all_two _ (λ (c : Cell). length c ≡ 16) (Listable Code) command_listable f.code g.code l.0;
      events = all_two _ (λ (c : Cell). length c ≡ 16) (Listable Events) event_listable f.events g.events l.1;
      few = omega (arith, t, w.counted);
    }

all_listable : (fs : List Function) → All GoodFunction fs → All WellFormed fs → All ListableFunction fs
all_listable [] g w = tt
all_listable (f ∷ fs) g w = (listable f g.0 w.0, all_listable fs g.1 w.1)

pub image_listable : (s : List ℕ) → GoodImage s → All ListableFunction (functions (cells s))
image_listable s g = all_listable (functions (cells s)) g.all (image_formed s g)

-- ---- of an accepted image

module _ (s : List ℕ) (g : SitesPass s) where
  pub whole_lines : Whole (page_lines s)
  unfolding page_lines
  whole_lines = whole-all (functions (cells s)) (image_listable s g.image)

  pub text_size : length (pages_text s) ≡ line_bytes * lines_of_all (functions (cells s))
  unfolding pages_text page_lines
  text_size = omega (arith, length_lines (page_lines s) whole_lines, count_all_lem (functions (cells s)))

  pub most_lines_lem : lines_of_all (functions (cells s)) ≤ most_lines
  most_lines_lem =
      omega (arith, most-all (functions (cells s)), ap length (cells_of_functions (cells s)), length-cells s, g.image.short)
