-- Whole texts: their lengths, and the answer for a buffer that is too short or long enough.
use mathlib.Core.Path.{◌≡◌, ◌∙◌, ap}
use mathlib.Core.List.{List, [], ◌∷◌, ◌++◌}
use Prim.Native.Nat.{ℕ, ◌+◌, ◌*◌, ◌/◌, ◌%◌, ◌≤◌, ◌<◌}
use native.Mathlib.Omega.{arith}
use borrow.Author.Tests.{le-leb, lt-leb}
use lib.ListN.{length, set, take, length-append}
use Rattle.cells.specs.Cells.{cells}
use Rattle.cells.proofs.Cells.{length-cells, full_cells}
use Rattle.listing.specs.Decimal.{digit, decimal}
use Rattle.listing.specs.Text.{line_feed, cell_lines, field, rewrites_line, rewritten_text, refused_text}
use Rattle.listing.specs.Promises.{listed, listed_over, Listing, TextWritten}
use Rattle.listing.proofs.Numerals.{decimal-one, length-one, length-decimal}
use Rattle.listing.proofs.Pieces.{written_start, written_byte}
use Rattle.listing.proofs.Lines.{length_lines}
use Rattle.std.specs.Prelude.{Some, None}

-- the numeral of a number below 10, written at a position
pub written_digit : (s : List ℕ) (at n d : ℕ) → n < 10 → d ≡ digit (n % 10) → at + length (decimal n) ≤ length s → TextWritten (take at s ++ decimal n) s (set s at d) (at + 1)
written_digit s at n d h e l =
    let m : n % 10 ≡ n = omega arith in
    let f : d ≡ digit n = e ∙ ap digit m in
    rw (decimal-one n h, f) (written_byte (written_start s at (omega arith)) (digit n) (omega (arith, length-one n h)))

pub length-field : (n end : ℕ) → length (field n end) ≤ 21
length-field n end = omega (arith, length-append (decimal n) (end ∷ []), length-decimal n)

pub length-rewrites : (count : ℕ) → length (rewrites_line count) ≤ 30
unfolding rewrites_line
length-rewrites count = omega (arith, length-field count line_feed)

pub length-refused : (number position detail : ℕ) → length (refused_text number position detail) ≤ 71
unfolding refused_text
length-refused number position detail = simp length-append (omega (arith, length-decimal number, length-decimal position, length-decimal detail))

pub length_rewritten : (s : List ℕ) (count : ℕ) → length (rewritten_text (cells s) count) ≡ 33 * (length s / 16) + length (rewrites_line count)
unfolding rewritten_text
length_rewritten s count = omega (arith, length-append (cell_lines (cells s)) (rewrites_line count), length_lines (cells s) (full_cells s), length-cells s)

module _ (text before : List ℕ) where
  pub listing_short : length before < length text → Listing text before before None
  unfolding listed listed_over
  listing_short h = record { answer = rw (lt-leb (length text) (length before) h); bytes = rw (lt-leb (length text) (length before) h) }

  pub listing_whole : {after : List ℕ} {r : ℕ} → length text ≤ length before → TextWritten text before after r → Listing text before after (Some r)
  unfolding listed listed_over
  listing_whole h w = record { answer = rw (le-leb (length text) (length before) h) (ap Some w.end); bytes = rw (le-leb (length text) (length before) h) w.bytes }
