-- Pages tell images apart: the lines of two accepted images give back their functions' names, instructions and events, these give back the
-- heads, and so all bytes.
use mathlib.Core.Path.{◌≡◌, refl, sym, ◌∙◌, ap, ap₂}
use mathlib.Core.Bool.{true}
use mathlib.Core.List.{List, [], ◌∷◌, ◌++◌, append_assoc, append_cancel_left, head-eq_of_cons-eq, tail-eq_of_cons-eq}
use Prim.Native.Nat.{ℕ, zero, suc, ◌+◌, ◌-◌, ◌/◌, ◌%◌, ◌≤◌, ◌<◌}
use native.Mathlib.Omega.{arith}
use borrow.Author.Tests.{ltb-true, eqb-true}
use lib.Dec.{eqb, ltb, leb}
use lib.ListN.{length, get_or, take, drop, length-append, take-append-drop}
use lib.Seq.{ext_get_or, get_or-drop}
use Rattle.cells.specs.Bytes.{byte, half, zeros}
use Rattle.cells.specs.Cells.{Cell, chunks, cells, flat}
use Rattle.cells.specs.Check.{max_instructions, max_events, code_count, event_count}
use Rattle.cells.specs.Functions.{Function, there, Counted, functions, cells_of, cells_of_all}
use Rattle.cells.specs.Lists.{All}
use Rattle.cells.specs.Table.{rows}
use Rattle.cells.specs.WellFormed.{WellFormed}
use Rattle.cells.specs.declared.walk.Part.{Part}
use Rattle.cells.specs.declared.walk.Part.TheVariants.{Code, Events}
use Rattle.cells.proofs.Cells.{flat-cells}
use Rattle.cells.proofs.Checks.{four_true}
use Rattle.cells.proofs.Facts.{by_test, and_true}
use Rattle.cells.proofs.Functions.{cells_of_functions}
use Rattle.cells.proofs.Lists.{all_append, all_at, all_parts}
use Rattle.image.specs.Image.{GoodFunction}
use Rattle.image.specs.SiteCheck.{SitesPass}
use Rattle.image.proofs.Again.{image_formed}
use Rattle.pages.specs.Apart.{Bytes, PagesTellApart, WrittenTellApart}
use Rattle.pages.specs.Pages.{Line, heading, cell_line, starts_page, new_page, entry_lines, part_lines, name_in, function_lines, all_lines, page_lines, pages_text}
use Rattle.pages.specs.Steps.{Listable, ListableFunction}
use Rattle.pages.proofs.Lines.{image_listable, whole_lines}
use Rattle.pages.proofs.Done.{laid_exactly, laid_text_lem}
use Rattle.pages.proofs.LinesApart.{same_lines, same-heading, heading_no_cell, same-cell}

-- ---- a function's cells in one list, each with its part

abbrev Entry : Type 0
Entry = Part × Cell

abbrev entries_of : Part → List Cell → List Entry
entries_of p [] = []
entries_of p (c ∷ cs) = (p, c) ∷ entries_of p cs

abbrev entries : Function → List Entry
entries f = entries_of Code f.code ++ entries_of Events f.events

-- their lines, the first of them at a position
abbrev lines_from : ℕ → ℕ → List Entry → List Line
lines_from name position [] = []
lines_from name position (x ∷ xs) = entry_lines x.0 name position x.1 ++ lines_from name (position + 1) xs

part_lines_lem : (p : Part) (name position : ℕ) (cs : List Cell) → lines_from name position (entries_of p cs) ≡ part_lines p name position cs
part_lines_lem p name position [] = refl
part_lines_lem p name position (c ∷ cs) = ap (λ (ls : List Line). entry_lines p name position c ++ ls) (part_lines_lem p name (position + 1) cs)

both_lines : (p q : Part) (name position end : ℕ) (cs ds : List Cell) → position + length cs ≡ end
    → lines_from name position (entries_of p cs ++ entries_of q ds) ≡ part_lines p name position cs ++ part_lines q name end ds
both_lines p q name position end [] ds e =
    let z : position ≡ end = omega arith in
    part_lines_lem q name position ds ∙ ap (λ (i : ℕ). part_lines q name i ds) z
both_lines p q name position end (c ∷ cs) ds e =
    ap (λ (ls : List Line). entry_lines p name position c ++ ls) (both_lines p q name (position + 1) end cs ds (omega arith))
    ∙ sym (append_assoc (entry_lines p name position c) (part_lines p name (position + 1) cs) (part_lines q name end ds))

function_lines_lem : (f : Function) → function_lines f ≡ heading (name_in f) 1 ∷ lines_from (name_in f) 0 (entries f)
function_lines_lem f = ap (◌∷◌ (heading (name_in f) 1)) (sym (both_lines Code Events (name_in f) 0 (length f.code) f.code f.events (omega arith)))

-- the two lists back again
abbrev put : Part → Cell → List Cell × List Cell → List Cell × List Cell
put Code c r = (c ∷ r.0, r.1)
put Events c r = (r.0, c ∷ r.1)

abbrev parted : List Entry → List Cell × List Cell
parted [] = ([], [])
parted (x ∷ xs) = put x.0 x.1 (parted xs)

parted_events : (es : List Cell) → parted (entries_of Events es) ≡ ([], es)
parted_events [] = refl
parted_events (e ∷ es) = ap (put Events e) (parted_events es)

parted_both : (cs es : List Cell) → parted (entries_of Code cs ++ entries_of Events es) ≡ (cs, es)
parted_both [] es = parted_events es
parted_both (c ∷ cs) es = ap (put Code c) (parted_both cs es)

same_parts : (f g : Function) → entries f ≡ entries g → (f.code ≡ g.code) × (f.events ≡ g.events)
same_parts f g e =
    let r = sym (parted_both f.code f.events) ∙ ap parted e ∙ parted_both g.code g.events in
    (ap (λ (x : List Cell × List Cell). x.0) r, ap (λ (x : List Cell × List Cell). x.1) r)

-- ---- what is known of a function of an accepted image of bytes

record Known (f : Function) : Type 0 where
  listable : ListableFunction f
  -- the head: F0, the name, two counts and zeros, in 16 bytes
  first : byte f.head 0 ≡ 0xf0
  counted : Counted f
  spare : zeros (drop 7 f.head) ≡ true
  long : length f.head ≡ 16
  bytes : Bytes f.head

known : (f : Function) → GoodFunction f → WellFormed f → ListableFunction f → Bytes f.head → Known f
unfolding rows
known f g w l b =
    let h = f.head in
    let t = four_true (eqb (byte h 0) 0xf0) (leb (code_count h) max_instructions) (leb (event_count h) max_events) (leb (code_count h + event_count h) (there f)) g.head in
    record { listable = l; first = eqb-true (byte h 0) 0xf0 t.0; spare = g.spare; counted = w.counted; long = w.full.0; bytes = b }

all_known : (fs : List Function) → All GoodFunction fs → All WellFormed fs → All ListableFunction fs → All Bytes (cells_of_all fs) → All Known fs
all_known [] g w l b = tt
all_known (f ∷ fs) g w l b =
    (known f g.0 w.0 l.0 b.0, all_known fs g.1 w.1 l.1 (all_parts Bytes (cells_of f) (cells_of_all fs) b).1)

-- cells of bytes (a law of cells/specs/Cells)
chunks-bytes : (n : ℕ) (s : List ℕ) → Bytes s → All Bytes (chunks n s)
chunks-bytes zero s b = tt
chunks-bytes (suc n) s b =
    let p = all_parts (λ (x : ℕ). x < 256) (take 16 s) (drop 16 s) (rw (take-append-drop 16 s) b) in
    (p.0, chunks-bytes n (drop 16 s) p.1)

image_known : (s : List ℕ) → Bytes s → SitesPass s → All Known (functions (cells s))
image_known s b g =
    all_known (functions (cells s)) g.image.all (image_formed s g.image) (image_listable s g.image)
    (rw (cells_of_functions (cells s)) (chunks-bytes (length s / 16) s b))

byte_small : (f : Function) → Known f → (i : ℕ) → i < 16 → byte f.head i < 256
byte_small f t i h = all_at (λ (x : ℕ). x < 256) 0 f.head i (omega (arith, t.long)) t.bytes

name_small : (f : Function) → Known f → name_in f < 65536
name_small f t = omega (arith, byte_small f t 1 (omega arith), byte_small f t 2 (omega arith))

-- ---- its head is known from its name and its cells

-- zeros from a byte on (laws of cells/specs/Bytes)
zero_at : (s : List ℕ) → zeros s ≡ true → (i : ℕ) → get_or s i 0 ≡ 0
zero_at [] z i = refl
zero_at (b ∷ s) z zero = eqb-true b 0 (and_true (eqb b 0) (zeros s) z).0
zero_at (b ∷ s) z (suc i) = zero_at s (and_true (eqb b 0) (zeros s) z).1 i

zeros_from : (n : ℕ) (s : List ℕ) → zeros (drop n s) ≡ true → (i : ℕ) → n ≤ i → get_or s i 0 ≡ 0
zeros_from n s z i h =
    let e : i ≡ n + (i - n) = omega arith in
    ap (λ (j : ℕ). get_or s j 0) e ∙ sym (get_or-drop n s (i - n) 0) ∙ zero_at (drop n s) z (i - n)

-- byte by byte: F0, three numbers of two bytes, zeros
module _ (f g : Function) (s : Known f) (t : Known g) where
  same_half : (i : ℕ) → i + 1 < 16 → half f.head i ≡ half g.head i → (byte f.head i ≡ byte g.head i) × (byte f.head (i + 1) ≡ byte g.head (i + 1))
  same_half i h e =
      let a = byte_small f s i (omega arith) in
      let b = byte_small g t i (omega arith) in
      (omega (arith, a, b, e), omega (arith, a, b, e))

  same_spare : (i : ℕ) → 7 ≤ i → byte f.head i ≡ byte g.head i
  same_spare i h = zeros_from 7 f.head s.spare i h ∙ sym (zeros_from 7 g.head t.spare i h)

  module _ (name : name_in f ≡ name_in g) (code : f.code ≡ g.code) (events : f.events ≡ g.events) where
    same-counts : (code_count f.head ≡ code_count g.head) × (event_count f.head ≡ event_count g.head)
    same-counts =
        (sym s.counted.0 ∙ ap length code ∙ t.counted.0, sym s.counted.1 ∙ ap length events ∙ t.counted.1)

    same_byte : (i : ℕ) → byte f.head i ≡ byte g.head i
    same_byte zero = s.first ∙ sym t.first
    same_byte (suc zero) = (same_half 1 (omega arith) name).0
    same_byte (suc (suc zero)) = (same_half 1 (omega arith) name).1
    same_byte (suc (suc (suc zero))) = (same_half 3 (omega arith) same-counts.0).0
    same_byte (suc (suc (suc (suc zero)))) = (same_half 3 (omega arith) same-counts.0).1
    same_byte (suc (suc (suc (suc (suc zero))))) = (same_half 5 (omega arith) same-counts.1).0
    same_byte (suc (suc (suc (suc (suc (suc zero)))))) = (same_half 5 (omega arith) same-counts.1).1
    same_byte (suc (suc (suc (suc (suc (suc (suc i))))))) = same_spare (suc (suc (suc (suc (suc (suc (suc i))))))) (omega arith)

    same_head : f.head ≡ g.head
    same_head = ext_get_or 0 f.head g.head (s.long ∙ sym t.long) (λ i h. same_byte i)

    same-cells : cells_of f ≡ cells_of g
    same-cells = ap₂ (◌∷◌) same_head (ap₂ (◌++◌) code events)

-- ---- the entries of a function, with the lines of other functions behind them

-- each has a line, and each position has at most four digits
abbrev Shown : List Entry → Type 0
Shown xs = All (λ (x : Entry). Listable x.0 x.1) xs

shown-part : (p : Part) (cs : List Cell) → All (Listable p) cs → Shown (entries_of p cs)
shown-part p [] a = tt
shown-part p (c ∷ cs) a = (a.0, shown-part p cs a.1)

count_part : (p : Part) (cs : List Cell) → length (entries_of p cs) ≡ length cs
count_part p [] = refl
count_part p (c ∷ cs) = ap suc (count_part p cs)

module _ (f : Function) (t : Known f) where
  shown : Shown (entries f)
  shown =
      all_append (λ (x : Entry). Listable x.0 x.1) (entries_of Code f.code) (entries_of Events f.events)
      (shown-part Code f.code t.listable.code) (shown-part Events f.events t.listable.events)

  few : 0 + length (entries f) ≤ 4096
  few =
      omega (
        arith,
        t.listable.few,
        length-append (entries_of Code f.code) (entries_of Events f.events),
        count_part Code f.code,
        count_part Events f.events,
      )

module _ (name : ℕ) (small : name < 65536) where
  -- a new page's heading perhaps, then the line of the first cell
  entry_first : (position : ℕ) (x : Entry) (ls ms : List Line)
      → entry_lines x.0 name position x.1 ++ ls ++ ms ≡ new_page name position ++ cell_line x.0 position x.1 ∷ (ls ++ ms)
  entry_first position x ls ms =
      append_assoc (entry_lines x.0 name position x.1) ls ms
      ∙ append_assoc (new_page name position) (cell_line x.0 position x.1 ∷ []) (ls ++ ms)

  -- where other functions begin, or nothing is left, no entry stands: its line is no heading, and a heading before it has a page above 1
  no_entry : (fs : List Function) → All Known fs → (position : ℕ) → position < 4096 → (x : Entry) (ls : List Line)
      → all_lines fs ≡ new_page name position ++ cell_line x.0 position x.1 ∷ ls → ⊥
  no_entry [] t position h x ls e =
      omega (arith, ap length e, length-append (new_page name position) (cell_line x.0 position x.1 ∷ ls))
  no_entry (f ∷ fs) t position h x ls e =
      by_test (starts_page position)
      (λ y.
      let z = and_true (ltb 0 position) (eqb (position % 49) 0) y in
      let q = same-heading (name_in f) name 1 (position / 49 + 1) (name_small f t.0) small (omega arith) (omega arith) (head-eq_of_cons-eq (rw y at e)) in
      omega (arith, q.1, ltb-true 0 position z.0, eqb-true (position % 49) 0 z.1))
      (λ y. heading_no_cell (name_in f) 1 x.0 position x.1 h (head-eq_of_cons-eq (rw y at e)))

  -- at one name and one position, the same lines are the same entries before the same lines
  same_entries : (position : ℕ) (xs ys : List Entry) (fs gs : List Function) → Shown xs → Shown ys → position + length xs ≤ 4096 → position + length ys ≤ 4096
      → All Known fs → All Known gs → lines_from name position xs ++ all_lines fs ≡ lines_from name position ys ++ all_lines gs
      → (xs ≡ ys) × (all_lines fs ≡ all_lines gs)
  same_entries position [] [] fs gs a b h l s t e = (refl, e)
  same_entries position [] (y ∷ ys) fs gs a b h l s t e =
      let ls = lines_from name (position + 1) ys in
      absurd (no_entry fs s position (omega arith) y (ls ++ all_lines gs) (e ∙ entry_first position y ls (all_lines gs)))
  same_entries position (x ∷ xs) [] fs gs a b h l s t e =
      let ls = lines_from name (position + 1) xs in
      absurd (no_entry gs t position (omega arith) x (ls ++ all_lines fs) (sym e ∙ entry_first position x ls (all_lines fs)))
  same_entries position (x ∷ xs) (y ∷ ys) fs gs a b h l s t e =
      let ls = lines_from name (position + 1) xs in
      let ms = lines_from name (position + 1) ys in
      let u = cell_line x.0 position x.1 ∷ (ls ++ all_lines fs) in
      let v = cell_line y.0 position y.1 ∷ (ms ++ all_lines gs) in
      let w = append_cancel_left (new_page name position) u v (sym (entry_first position x ls (all_lines fs)) ∙ e ∙ entry_first position y ms (all_lines gs)) in
      let q = same-cell x.0 y.0 position x.1 y.1 a.0 b.0 (head-eq_of_cons-eq w) in
      let r = same_entries (position + 1) xs ys fs gs a.1 b.1 (omega arith) (omega arith) s t (tail-eq_of_cons-eq w) in
      (ap₂ (◌∷◌) (ap₂ (λ (p : Part) (c : Cell). (p, c)) q.0 q.1) r.0, r.1)

-- ---- all functions

lines_first : (f : Function) (fs : List Function) → all_lines (f ∷ fs) ≡ heading (name_in f) 1 ∷ (lines_from (name_in f) 0 (entries f) ++ all_lines fs)
lines_first f fs = ap (λ (ls : List Line). ls ++ all_lines fs) (function_lines_lem f)

same-functions : (fs gs : List Function) → All Known fs → All Known gs → all_lines fs ≡ all_lines gs → cells_of_all fs ≡ cells_of_all gs
same-functions [] [] s t e = refl
same-functions [] (g ∷ gs) s t e = absurd (omega (arith, ap length e))
same-functions (f ∷ fs) [] s t e = absurd (omega (arith, ap length e))
same-functions (f ∷ fs) (g ∷ gs) s t e =
    let w = sym (lines_first f fs) ∙ e ∙ lines_first g gs in
    let small = name_small f s.0 in
    let n = (same-heading (name_in f) (name_in g) 1 1 small (name_small g t.0) (omega arith) (omega arith) (head-eq_of_cons-eq w)).0 in
    let z = tail-eq_of_cons-eq w ∙ ap (λ (m : ℕ). lines_from m 0 (entries g) ++ all_lines gs) (sym n) in
    let r = same_entries (name_in f) small 0 (entries f) (entries g) fs gs (shown f s.0) (shown g t.0) (few f s.0) (few g t.0) s.1 t.1 z in
    let p = same_parts f g r.0 in
    ap₂ (◌++◌) (same-cells f g s.0 t.0 n p.0 p.1) (same-functions fs gs s.1 t.1 r.1)

-- ---- the theorems

-- no two accepted images have the same pages
pub tell_apart : PagesTellApart
unfolding pages_text page_lines
tell_apart s t bs bt gs gt e =
    let l = same_lines (page_lines s) (page_lines t) (whole_lines s gs) (whole_lines t gt) e in
    let c = same-functions (functions (cells s)) (functions (cells t)) (image_known s bs gs) (image_known t bt gt) l in
    let d = sym (cells_of_functions (cells s)) ∙ c ∙ cells_of_functions (cells t) in
    sym (flat-cells s gs.image.even) ∙ ap flat d ∙ flat-cells t gt.image.even

-- the same of the operation: if it lays out both images and writes the same bytes, they are one image
pub written_tell_apart : WrittenTellApart
written_tell_apart s t u v bs bt es et e =
    tell_apart s t bs bt ((laid_exactly s (length u)).0 es).0 ((laid_exactly t (length v)).0 et).0 (sym (laid_text_lem s u es) ∙ e ∙ laid_text_lem t v et)
