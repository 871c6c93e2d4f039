-- Promise: what the functions that write text promise: the answer, and every byte of the lent buffer.
use Rattle.std.specs.Prelude.{◌≡◌, cond, List, ℕ, leb, length, Option, Some, None}
use Rattle.cells.specs.Cells.{over}

-- a text into a buffer of that many bytes
unfoldable pub listed : List ℕ → ℕ → Option ℕ
listed text room = cond (leb (length text) room) (Some (length text)) None

-- the buffer afterwards: the text over its start, or as it was
unfoldable pub listed_over : List ℕ → List ℕ → List ℕ
listed_over text before = cond (leb (length text) (length before)) (over text before) before

pub record Listing (text before after : List ℕ) (r : Option ℕ) : Type 0 where
  pub answer : r ≡ listed text (length before)
  pub bytes : after ≡ listed_over text before

-- a text that is known to fit: it stands over the start of the buffer, and `at` is its end. What a function appends at a position is
-- said so too: the text is then what stood before that position, and the piece
pub record TextWritten (text before after : List ℕ) (at : ℕ) : Type 0 where
  pub end : at ≡ length text
  pub bytes : after ≡ over text before
