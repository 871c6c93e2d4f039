-- Promise: the pages of an image (document 02, W1): lines of 57 bytes and a line feed, of which each is the heading of a page or stands for a cell.
use Rattle.std.specs.Prelude.{ℕ, ◌+◌, ◌/◌, ◌%◌, List, [], ◌∷◌, ◌++◌, Bool, cond, ◌&&◌, eqb, ltb, length, drop}
use Rattle.cells.specs.Bytes.{half}
use Rattle.cells.specs.Cells.{Cell, cells, flat}
use Rattle.cells.specs.Functions.{Function, there, functions}
use Rattle.cells.specs.Names.{name_of}
use Rattle.cells.specs.declared.walk.Part.{Part}
use Rattle.cells.specs.declared.walk.Part.TheVariants.{Code, Events}
use Rattle.listing.specs.Decimal.{decimal}
use Rattle.listing.specs.Places.{ascii, fill, fill_left, digits}
use Rattle.listing.specs.Text.{line_feed, hex}

-- a line by its bytes, the line feed among them
abbrev pub Line : Type 0
Line = List ℕ

-- 'the heading is `function `, the name in five digits, ` page `, the page in three digits, then blanks'
unfoldable pub heading : ℕ → ℕ → Line
heading name page = fill 57 (ascii "function " ++ digits 5 name ++ ascii " page " ++ digits 3 page) ++ line_feed ∷ []

-- 'a cell line is its position in the function (the first cell after the head is 0; five places, blank-filled on the left), two blanks, the
-- command or event kind in 18 places from the left, two blanks, and its last 15 bytes as 30 capital hexadecimal digits'
unfoldable pub cell_line : Part → ℕ → Cell → Line
cell_line p position c =
    fill_left 5 (decimal position) ++ ascii "  " ++ fill 18 (ascii (name_of p c)) ++ ascii "  " ++ hex (drop 1 c) ++ line_feed ∷ []

-- ---- where pages begin

-- cells of a page
abbrev pub page_cells : ℕ
page_cells = 49

-- 'at most 49 cells .. and a new page of the same function begins only where a cell follows the 49th': before the cells 49, 98, ..
abbrev pub starts_page : ℕ → Bool
starts_page position = ltb 0 position && eqb (position % page_cells) 0

-- the heading before the cell at a position, if a page begins there: the cells 49 to 97 are on page 2
abbrev pub new_page : ℕ → ℕ → List Line
new_page name position = cond (starts_page position) (heading name (position / page_cells + 1) ∷ []) []

-- ---- the lines

-- the line of the cell at a position, behind the heading of its page if it is the first there
abbrev pub entry_lines : Part → ℕ → ℕ → Cell → List Line
entry_lines p name position c = new_page name position ++ cell_line p position c ∷ []

-- the cells of a part, the first of them at a position
abbrev pub part_lines : Part → ℕ → ℕ → List Cell → List Line
part_lines p name position [] = []
part_lines p name position (c ∷ cs) = entry_lines p name position c ++ part_lines p name (position + 1) cs

-- a function's name, the number in its head (document 01, 'The cell image')
abbrev pub name_in : Function → ℕ
name_in f = half f.head 1

-- 'each function begins a page numbered 001; one without cells gets its heading alone'; 'instructions before events', whose positions go on
-- behind those of the instructions; 'a head cell has no line'
abbrev pub function_lines : Function → List Line
function_lines f =
    heading (name_in f) 1 ∷ (part_lines Code (name_in f) 0 f.code ++ part_lines Events (name_in f) (length f.code) f.events)

abbrev pub all_lines : List Function → List Line
all_lines [] = []
all_lines (f ∷ fs) = function_lines f ++ all_lines fs

-- the lines of an image's pages, and their bytes
unfoldable pub page_lines : List ℕ → List Line
page_lines s = all_lines (functions (cells s))

unfoldable pub pages_text : List ℕ → List ℕ
pages_text s = flat (page_lines s)

-- ---- how many lines there are, from the functions' cell counts

-- pages of a function with so many cells: one for each 49 begun, and one if there are none
abbrev pub pages_of : ℕ → ℕ
pages_of n = cond (eqb n 0) 1 ((n + 48) / page_cells)

-- a heading for each page, and a line for each cell
abbrev pub lines_of : ℕ → ℕ
lines_of n = pages_of n + n

abbrev pub lines_of_all : List Function → ℕ
lines_of_all [] = 0
lines_of_all (f ∷ fs) = lines_of (there f) + lines_of_all fs

-- bytes of a line; the most lines that an image can have, and so the most bytes: 242,382
abbrev pub line_bytes : ℕ
line_bytes = 58

abbrev pub most_lines : ℕ
most_lines = 4179
