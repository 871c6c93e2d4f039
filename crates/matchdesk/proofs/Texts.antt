-- A text that fits its buffer: its end, and where it stands.
use mathlib.Core.Path.{◌≡◌, refl, sym, ◌∙◌, ap}
use mathlib.Core.List.{List, ◌++◌}
use Prim.Native.Nat.{ℕ, ◌≤◌}
use native.Mathlib.Omega.{arith}
use borrow.Author.Tests.{le-leb}
use lib.ListN.{length, take, drop}
use lib.Seq.{length-take-le}
use Rattle.input.specs.Prefix.{IsPrefixLen}
use Rattle.cells.specs.Cells.{cells}
use Rattle.cells.specs.Check.{max_image}
use Rattle.cells.proofs.Over.{copied}
use Rattle.listing.specs.Text.{rewritten_text, refused_text, refusal_text, good_text, checked_text}
use Rattle.listing.specs.Promises.{listed, listed_over, Listing, TextWritten}
use Rattle.listing.proofs.Pieces.{written_none, written-length}
use Rattle.listing.proofs.Whole.{length-rewrites, length_rewritten, length-refused}
use Rattle.cells.specs.declared.refusal.Numbers.{Numbers}
use Rattle.packed.specs.Operations.{length_written, error_numbers as packing_numbers}
use Rattle.packed.specs.declared.PackingError.{PackingError}
use Rattle.packed.specs.declared.PackingError.TheVariants.{Refused as RefusedPacking, Ends}
use Rattle.sealing.specs.Promises.{error_numbers as sealing_numbers}
use Rattle.sealing.specs.declared.SealingError.{SealingError}
use Rattle.sealing.specs.declared.SealingError.TheVariants.{Refused as RefusedSealing, Repeated}
use Rattle.matchdesk.specs.Program.{on_output, on_error, sealed_text}
use Rattle.matchdesk.specs.Promises.{said_output, said_error, fault_text, Says}
use Rattle.std.specs.Prelude.{Option, unwrap_or, Result, Ok, Err}
use Rattle.cells.specs.Checked.{Checked}

-- what is said of an error is the line of its numbers
abbrev line_of : Numbers → List ℕ
line_of n = refused_text n.number n.position n.detail

pub no_length : (e : PackingError) → 0 ≡ length_written (Err e)
no_length (RefusedPacking x) = refl
no_length (Ends p d) = refl

pub fault_line : (e : PackingError) (n : Numbers) → n ≡ packing_numbers e → fault_text (Err e) ≡ line_of n
unfolding refusal_text
fault_line (RefusedPacking x) n h = rw h refl
fault_line (Ends p d) n h = rw h refl

pub sealed_line : (e : SealingError) (n : Numbers) → n ≡ sealing_numbers e → sealed_text (Err e) ≡ line_of n
unfolding refusal_text
sealed_line (RefusedSealing x) n h = rw h refl
sealed_line (Repeated w p d) n h = rw h refl

module _ {text before after : List ℕ} where
  written_fits : {l : Option ℕ} → Listing text before after l → length text ≤ length before → TextWritten text before after (unwrap_or l 0)
  unfolding listed listed_over
  written_fits w h = record {
    end = rw (w.answer, le-leb (length text) (length before) h);
    bytes = w.bytes ∙ rw (le-leb (length text) (length before) h);
  }

  pub counted : {r : ℕ} → TextWritten text before after r → length text ≤ length before → IsPrefixLen r after
  counted {r} w h =
      let e : length after ≡ length before = written-length w (omega (arith, w.end)) in
      let l : r ≤ length after = omega (arith, w.end) in
      (l, sym (length-take-le r after l))

  -- what is said of a text, from what the function that lists it promises
  pub shown : {l : Option ℕ} (whole : List ℕ) (r : ℕ) → r ≡ unwrap_or l 0 → whole ≡ text → Listing text before after l → length text ≤ length before
      → IsPrefixLen r after × TextWritten whole before after r
  shown whole r e t w h = rw (e, t) (counted (written_fits w h) h, written_fits w h)

pub none-counted : (s : List ℕ) → IsPrefixLen 0 s
none-counted s = (omega arith, refl)

-- bytes that were copied
pub copied_text : (s before after : List ℕ) (r : ℕ) → r ≡ length s → after ≡ take (length s) s ++ drop (length s) before → TextWritten s before after r
copied_text s before after r e f = record { end = e; bytes = f ∙ copied s before }

-- a text goes to one of the two, and nothing to the other
module _ {text before after : List ℕ} {r : ℕ} (w : TextWritten text before after r) (other : List ℕ) where
  pub only-output : Says (on_output text) before after other other (said_output r)
  only-output = record { on_output = w; on_error = written_none other }

  pub only_error : Says (on_error text) other other before after (said_error r)
  only_error = record { on_output = written_none other; on_error = w }

-- the longest texts
pub most_rewritten : (n : ℕ) (out : List ℕ) → n ≤ length out → n ≤ max_image → (count : ℕ) → length (rewritten_text (cells (take n out)) count) ≤ 242382
most_rewritten n out l m count =
    omega (arith, length-take-le n out l, length_rewritten (take n out) count, length-rewrites count)

-- the bytes themselves lie within a buffer that has room for their text
pub bytes_fit : (n : ℕ) (out output : List ℕ) → n ≤ length out → n ≤ max_image → 242382 ≤ length output → length (take n out) ≤ length output
bytes_fit n out output l m h = omega (arith, length-take-le n out l)

pub most_checked : (r : Checked) → length (checked_text r) ≤ 71
unfolding good_text refusal_text
most_checked (Ok tt) = omega arith
most_checked (Err x) = length-refused _ _ _
