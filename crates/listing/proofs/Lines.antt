-- Bytes as hexadecimal digits, and the lines of cells, written one after another.
use mathlib.Core.Path.{◌≡◌, refl, sym, ◌∙◌, ap, ap₂}
use mathlib.Core.List.{List, [], ◌∷◌, ◌++◌, append_assoc, append-nil, head-eq_of_cons-eq, tail-eq_of_cons-eq}
use Prim.Native.Nat.{ℕ, zero, suc, ◌+◌, ◌*◌, ◌/◌, ◌%◌, ◌≤◌, ◌<◌}
use native.Mathlib.Numerals.{add-one}
use native.Mathlib.Omega.{arith}
use borrow.Author.Tests.{ltb-true, ltb-false, lt-ltb, le-ltb}
use lib.Dec.{ltb}
use lib.ListN.{length, get_or, set, take, drop, length-append}
use lib.Seq.{take-suc, take_all}
use Rattle.std.proofs.lemmas.List.{get_or_default}
use Rattle.std.specs.Simd.{first_chunks}
use Rattle.cells.specs.Cells.{Cell, Full, chunks, cells, cell_at}
use Rattle.cells.proofs.Cells.{length-cells, cell_at_lem}
use Rattle.cells.proofs.Facts.{by_test}
use Rattle.listing.specs.Text.{hex_digit, hex, cell_line, cell_lines, line_feed}
use Rattle.listing.specs.Promises.{TextWritten}
use Rattle.listing.proofs.Pieces.{written_behind, written_next}

hex_snoc : (s : List ℕ) (b : ℕ) → hex (s ++ b ∷ []) ≡ (hex s ++ hex_digit (b / 16) ∷ []) ++ hex_digit (b % 16) ∷ []
hex_snoc [] b = refl
hex_snoc (c ∷ s) b = ap (λ (t : List ℕ). hex_digit (c / 16) ∷ hex_digit (c % 16) ∷ t) (hex_snoc s b)

pub length-hex : (s : List ℕ) → length (hex s) ≡ 2 * length s
length-hex [] = refl
length-hex (b ∷ s) = omega (arith, length-hex s)

-- ---- bytes are known by their digits

hex_small : (d : ℕ) → d < 10 → hex_digit d ≡ 48 + d
hex_small d h = rw (lt-ltb d 10 h)

hex_large : (d : ℕ) → 10 ≤ d → hex_digit d ≡ 55 + d
hex_large d h = rw (le-ltb d 10 h)

same-hex-digit : (m n : ℕ) → hex_digit m ≡ hex_digit n → m ≡ n
same-hex-digit m n e =
    by_test (ltb m 10)
    (λ s.
    let a = hex_small m (ltb-true m 10 s) in
    by_test (ltb n 10) (λ t. omega (arith, a, e, hex_small n (ltb-true n 10 t)))
    (λ t. omega (arith, a, e, hex_large n (ltb-false n 10 t), ltb-true m 10 s, ltb-false n 10 t)))
    (λ s.
    let a = hex_large m (ltb-false m 10 s) in
    by_test (ltb n 10) (λ t. omega (arith, a, e, hex_small n (ltb-true n 10 t), ltb-false m 10 s, ltb-true n 10 t))
    (λ t. omega (arith, a, e, hex_large n (ltb-false n 10 t))))

pub same-hex : (s t : List ℕ) → hex s ≡ hex t → s ≡ t
same-hex [] [] e = refl
same-hex [] (c ∷ t) e = absurd (omega (arith, ap length e))
same-hex (b ∷ s) [] e = absurd (omega (arith, ap length e))
same-hex (b ∷ s) (c ∷ t) e =
    let h = same-hex-digit (b / 16) (c / 16) (head-eq_of_cons-eq e) in
    let l = same-hex-digit (b % 16) (c % 16) (head-eq_of_cons-eq (tail-eq_of_cons-eq e)) in
    ap₂ (◌∷◌) (omega (arith, h, l)) (same-hex s t (tail-eq_of_cons-eq (tail-eq_of_cons-eq e)))

-- ---- lines

pub length-line : (c : Cell) → length c ≡ 16 → length (cell_line c) ≡ 33
length-line c e = omega (arith, length-append (hex c) (line_feed ∷ []), length-hex c)

pub length_lines : (cs : List Cell) → Full cs → length (cell_lines cs) ≡ 33 * length cs
length_lines [] f = refl
length_lines (c ∷ cs) f = omega (arith, length-append (cell_line c) (cell_lines cs), length-line c f.0, length_lines cs f.1)

lines_snoc : (cs : List Cell) (c : Cell) → cell_lines (cs ++ c ∷ []) ≡ cell_lines cs ++ cell_line c
lines_snoc [] c = append-nil (cell_line c)
lines_snoc (d ∷ cs) c = ap (λ (t : List ℕ). cell_line d ++ t) (lines_snoc cs c) ∙ sym (append_assoc (cell_line d) (cell_lines cs) (cell_line c))

-- a slice cut into arrays of 16 bytes has the cells
whole_cells : (k : ℕ) (s : List ℕ) → first_chunks 16 k s ≡ chunks k s
whole_cells zero s = refl
whole_cells (suc k) s = ap (λ (cs : List Cell). take 16 s ∷ cs) (whole_cells k (drop 16 s))

pub whole_cell : (s : List ℕ) {whole : List Cell} (d : Cell) (i : ℕ) → whole ≡ first_chunks 16 (length s / 16) s → i < length whole → get_or whole i d ≡ cell_at s i
whole_cell s {whole} d i e h =
    let w : whole ≡ cells s = e ∙ whole_cells (length s / 16) s in
    let l : i < length (cells s) = rw (← w) h in
    rw w (get_or_default (cells s) i d [] l ∙ cell_at_lem s i (omega (arith, length-cells s)))

-- one more byte of a cell, as two digits
pub written-hex : (start c : List ℕ) (i : ℕ) {before after : List ℕ} {at : ℕ} → TextWritten (start ++ hex (take i c)) before after at → i < length c → at + 1 < length before
    → TextWritten (start ++ hex (take (i + 1) c)) before (set (set after at (hex_digit (get_or c i 0 / 16))) (at + 1) (hex_digit (get_or c i 0 % 16))) (at + 1 + 1)
written-hex start c i {before} {after} {at} w h l =
    let m : at < length before = omega arith in
    let e : hex (take (i + 1) c) ≡ (hex (take i c) ++ hex_digit (get_or c i 0 / 16) ∷ []) ++ hex_digit (get_or c i 0 % 16) ∷ [] = rw (add-one i, take-suc c i 0) (hex_snoc (take i c) (get_or c i 0)) in
    rw e (written_behind start (hex (take i c) ++ hex_digit (get_or c i 0 / 16) ∷ []) (hex_digit (get_or c i 0 % 16)) (written_behind start (hex (take i c)) (hex_digit (get_or c i 0 / 16)) w m) l)

-- one more cell's line
pub written-line : (s : List ℕ) (i : ℕ) {before after last : List ℕ} {at r : ℕ} → TextWritten (cell_lines (take i (cells s))) before after at → i < length s / 16
    → TextWritten (take at after ++ cell_line (cell_at s i)) after last r → TextWritten (cell_lines (take (i + 1) (cells s))) before last r
written-line s i w h v =
    let m : i < length (cells s) = omega (arith, length-cells s) in
    let e : cell_lines (take (i + 1) (cells s)) ≡ cell_lines (take i (cells s)) ++ cell_line (cell_at s i) = rw (add-one i, take-suc (cells s) i [], cell_at_lem s i h) (lines_snoc (take i (cells s)) (cell_at s i)) in
    rw e (written_next w (cell_line (cell_at s i)) v)

pub all_lines_lem : (s : List ℕ) → cell_lines (take (length s / 16) (cells s)) ≡ cell_lines (cells s)
all_lines_lem s = ap cell_lines (take_all (length s / 16) (cells s) (omega (arith, length-cells s)))
