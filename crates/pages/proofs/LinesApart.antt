-- What a line says: two headings that are equal have one name and one page, two lines of cells at one position are of one part and one cell, and
-- no heading is the line of a cell.
use mathlib.Core.Path.{◌≡◌, refl, sym, ◌∙◌, ap, ap₂}
use mathlib.Core.Bool.{Bool, true, false, cond, ◌&&◌}
use mathlib.Core.List.{List, [], ◌∷◌, ◌++◌, append_assoc, append_cancel_left, append_cancel_right}
use Prim.Native.Nat.{ℕ, suc, ◌-◌, ◌<◌}
use Prim.Native.String.{String}
use native.Mathlib.Omega.{arith}
use lib.Dec.{T, eqb, eqb→eq}
use lib.ListN.{length, get_or, take, drop, length-append}
use lib.Seq.{drop-cons}
use Rattle.cells.specs.Bytes.{byte}
use Rattle.cells.specs.Cells.{Cell, flat}
use Rattle.cells.specs.Names.{command_names, event_names, name_of}
use Rattle.cells.specs.declared.walk.Part.{Part}
use Rattle.cells.specs.declared.walk.Part.TheVariants.{Code, Events}
use Rattle.cells.proofs.Every.{at_any}
use Rattle.cells.proofs.Every as every
use Rattle.cells.proofs.Lists.{same_front, same_back}
use Rattle.listing.specs.Decimal.{decimal}
use Rattle.listing.specs.Places.{ascii, fill, fill_left}
use Rattle.listing.specs.Text.{line_feed, hex}
use Rattle.listing.proofs.Numerals.{length_few}
use Rattle.listing.proofs.Lines.{same-hex}
use Rattle.listing.proofs.Placed.{same_digits}
use Rattle.pages.specs.Pages.{Line, heading, cell_line, line_bytes}
use Rattle.pages.specs.Steps.{all_names, wide_name, name_row, Named, Listable}
use Rattle.pages.proofs.NameTable.{name_count, row_small, row_name, length_name}
use Rattle.pages.proofs.Lines.{Whole}

-- ---- whole lines with the same bytes are the same lines

pub same_lines : (ls ms : List Line) → Whole ls → Whole ms → flat ls ≡ flat ms → ls ≡ ms
same_lines [] [] w v e = refl
same_lines [] (m ∷ ms) w v e = absurd (omega (arith, ap length e, length-append m (flat ms), v.0))
same_lines (l ∷ ls) [] w v e = absurd (omega (arith, ap length e, length-append l (flat ls), w.0))
same_lines (l ∷ ls) (m ∷ ms) w v e =
    ap₂ (◌∷◌) (same_front line_bytes l (flat ls) m (flat ms) w.0 v.0 e)
    (same_lines ls ms w.1 v.1 (same_back line_bytes l (flat ls) m (flat ms) w.0 v.0 e))

-- ---- a row of the table of names, found again by its 18 bytes

abbrev alike : List ℕ → List ℕ → Bool
alike [] [] = true
alike [] (c ∷ t) = false
alike (b ∷ s) [] = false
alike (b ∷ s) (c ∷ t) = eqb b c && alike s t

abbrev row_in : List String → List ℕ → ℕ
row_in [] w = 0
row_in (n ∷ ns) w = cond (alike (wide_name n) w) 0 (suc (row_in ns w))

-- no two rows are alike; row 0, which no command has, is 18 blanks
found : T (every.every (λ (i : ℕ) (n : String). eqb (row_in all_names (wide_name n)) i) 0 all_names)
unfolding command_names event_names
found = tt

row_again : (k : ℕ) → k < 84 → row_in all_names (wide_name (get_or all_names k "")) ≡ k
row_again k h =
    eqb→eq (row_in all_names (wide_name (get_or all_names k ""))) k
    (at_any "" (λ (i : ℕ) (n : String). eqb (row_in all_names (wide_name n)) i) all_names found k (omega (arith, name_count)))

same_row : (p q : Part) (c d : Cell) → Named p c → Named q d → fill 18 (ascii (name_of p c)) ≡ fill 18 (ascii (name_of q d)) → name_row p c ≡ name_row q d
same_row p q c d h l e =
    sym (row_again (name_row p c) (row_small p c h))
    ∙ ap (row_in all_names) (ap wide_name (row_name p c h) ∙ e ∙ ap wide_name (sym (row_name q d l)))
    ∙ row_again (name_row q d) (row_small q d l)

-- the rows of the kinds are behind those of the commands
row-part : (p q : Part) (c d : Cell) → Named p c → Named q d → name_row p c ≡ name_row q d → (p ≡ q) × (byte c 0 ≡ byte d 0)
row-part Code Code c d h l e = (refl, e)
row-part Code Events c d h l e = absurd (omega arith)
row-part Events Code c d h l e = absurd (omega arith)
row-part Events Events c d h l e = (refl, omega arith)

-- ---- the lines

pub same-heading : (m n i j : ℕ) → m < 65536 → n < 65536 → i < 1000 → j < 1000 → heading m i ≡ heading n j → (m ≡ n) × (i ≡ j)
unfolding heading
same-heading m n i j hm hn hi hj e = (
  same_digits 5 m n (omega arith) (omega arith) (ap (λ (l : Line). take 5 (drop 9 l)) e),
  same_digits 3 i j (omega arith) (omega arith) (ap (λ (l : Line). take 3 (drop 20 l)) e),
)

-- a heading begins with an f, the line of a cell with a blank, for its position has at most four digits
heading-first : (name page : ℕ) → get_or (heading name page) 0 0 ≡ 102
unfolding heading
heading-first name page = refl

cell-first : (p : Part) (position : ℕ) (c : Cell) → position < 4096 → get_or (cell_line p position c) 0 0 ≡ 32
unfolding cell_line
cell-first p position c h =
    let l = length_few 3 position (omega arith) (omega arith) in
    let e : 5 - length (decimal position) ≡ suc (4 - length (decimal position)) = omega arith in
    rw e

pub heading_no_cell : (name page : ℕ) (p : Part) (position : ℕ) (c : Cell) → position < 4096 → heading name page ≡ cell_line p position c → ⊥
heading_no_cell name page p position c h e =
    omega (arith, heading-first name page, cell-first p position c h, ap (λ (l : Line). get_or l 0 0) e)

-- a line in which two pieces vary, the first of them of one length
module _ (a x y z : List ℕ) where
  grouped : (b h : List ℕ) → a ++ x ++ b ++ y ++ h ≡ a ++ x ++ (b ++ (y ++ h))
  grouped b h = append_assoc (a ++ x ++ b) y h ∙ append_assoc (a ++ x) b (y ++ h)

  same_pieces : (n : ℕ) (b h c g : List ℕ) → length b ≡ n → length c ≡ n → a ++ x ++ b ++ y ++ h ++ z ≡ a ++ x ++ c ++ y ++ g ++ z → (b ≡ c) × (h ≡ g)
  same_pieces n b h c g lb lc e =
      let s = append_cancel_right (a ++ x ++ b ++ y ++ h) (a ++ x ++ c ++ y ++ g) z e in
      let t = append_cancel_left (a ++ x) (b ++ (y ++ h)) (c ++ (y ++ g)) (sym (grouped b h) ∙ s ∙ grouped c g) in
      (same_front n b (y ++ h) c (y ++ g) lb lc t, append_cancel_left y h g (same_back n b (y ++ h) c (y ++ g) lb lc t))

pub same-cell : (p q : Part) (position : ℕ) (c d : Cell) → Listable p c → Listable q d → cell_line p position c ≡ cell_line q position d → (p ≡ q) × (c ≡ d)
unfolding cell_line
same-cell p q position c d r s e =
    let a = fill_left 5 (decimal position) in
    let b = fill 18 (ascii (name_of p c)) in
    let k = fill 18 (ascii (name_of q d)) in
    let t = same_pieces a (ascii "  ") (ascii "  ") (line_feed ∷ []) 18 b (hex (drop 1 c)) k (hex (drop 1 d)) (length_name p c r.0) (length_name q d s.0) e in
    let w = row-part p q c d r.0 s.0 (same_row p q c d r.0 s.0 t.0) in
    (w.0, drop-cons c 0 0 (omega arith) ∙ ap₂ (◌∷◌) w.1 (same-hex (drop 1 c) (drop 1 d) t.1) ∙ sym (drop-cons d 0 0 (omega arith)))
