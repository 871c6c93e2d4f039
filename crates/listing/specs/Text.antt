-- Promise: the text that the printing program writes (document 01, 'Cells on either edge', the last paragraph), byte by byte, in ASCII.
use Rattle.std.specs.Prelude.{cond, List, [], ◌∷◌, ◌++◌, ℕ, ◌+◌, ◌/◌, ◌%◌, ltb, Ok, Err}
use Rattle.cells.specs.Cells.{Cell}
use Rattle.cells.specs.Refusals.{numbers_of}
use Rattle.cells.specs.declared.refusal.Refusal.{Refusal}
use Rattle.listing.specs.Decimal.{decimal}
use Rattle.cells.specs.Checked.{Checked}

abbrev pub line_feed : ℕ
line_feed = 10

abbrev pub blank : ℕ
blank = 32

-- a hexadecimal digit, `0` to `9` and then `A` to `F`: 'capital hexadecimal digits'
abbrev pub hex_digit : ℕ → ℕ
hex_digit d = cond (ltb d 10) (48 + d) (55 + d)

-- two digits a byte, the higher first
abbrev pub hex : List ℕ → List ℕ
hex [] = []
hex (b ∷ s) = hex_digit (b / 16) ∷ hex_digit (b % 16) ∷ hex s

-- 'each output cell as 32 capital hexadecimal digits a line'
abbrev pub cell_line : Cell → List ℕ
cell_line c = hex c ++ line_feed ∷ []

abbrev pub cell_lines : List Cell → List ℕ
cell_lines [] = []
cell_lines (c ∷ cs) = cell_line c ++ cell_lines cs

-- a number in decimal, and the byte that ends it
abbrev pub field : ℕ → ℕ → List ℕ
field n end = decimal n ++ end ∷ []

-- `rewrites ` and `refused `
abbrev pub rewrites_word : List ℕ
rewrites_word = 114 ∷ 101 ∷ 119 ∷ 114 ∷ 105 ∷ 116 ∷ 101 ∷ 115 ∷ blank ∷ []

abbrev pub refused_word : List ℕ
refused_word = 114 ∷ 101 ∷ 102 ∷ 117 ∷ 115 ∷ 101 ∷ 100 ∷ blank ∷ []

-- '`rewrites` and the count'
unfoldable pub rewrites_line : ℕ → List ℕ
rewrites_line count = rewrites_word ++ field count line_feed

-- of an accepted image: the cells written, then the count
unfoldable pub rewritten_text : List Cell → ℕ → List ℕ
rewritten_text cs count = cell_lines cs ++ rewrites_line count

-- of a refused one: 'only `refused`, number, position, detail, all decimal with single blanks'
unfoldable pub refused_text : ℕ → ℕ → ℕ → List ℕ
refused_text number position detail = refused_word ++ field number blank ++ field position blank ++ field detail line_feed

unfoldable pub refusal_text : Refusal → List ℕ
refusal_text x = refused_text (numbers_of x).number (numbers_of x).position (numbers_of x).detail

-- of a check: `good`, or as of a refused image
unfoldable pub good_text : List ℕ
good_text = 103 ∷ 111 ∷ 111 ∷ 100 ∷ line_feed ∷ []

abbrev pub checked_text : Checked → List ℕ
checked_text (Ok tt) = good_text
checked_text (Err x) = refusal_text x
