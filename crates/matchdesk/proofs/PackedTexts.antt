-- What the contracts of `pack` and `unpack` give the program: the bytes, or the refusal; its buffer is never too short.
use mathlib.Core.Path.{◌≡◌, refl, ◌∙◌, ap}
use mathlib.Core.List.{List}
use Prim.Native.Nat.{ℕ, ◌≤◌}
use native.Mathlib.Omega.{arith}
use borrow.Author.Tests.{le-leb}
use lib.ListN.{length}
use Rattle.input.specs.Prefix.{IsPrefixLen}
use Rattle.cells.specs.Check.{max_image}
use Rattle.image.specs.Image.{image_answer}
use Rattle.image.proofs.Good.{image_good}
use Rattle.listing.specs.Promises.{TextWritten}
use Rattle.listing.proofs.Pieces.{written_none}
use Rattle.packed.specs.Form.{packed}
use Rattle.packed.specs.Reading.{Result, bytes, refused, ends, if_good, unpacked}
use Rattle.packed.specs.Operations.{pack_result, unpack_result, answer_of, output_of, length_written, Done}
use Rattle.packed.proofs.Lengths.{packed_shorter}
use Rattle.packed.proofs.Undo.{packed-unpacked}
use Rattle.matchdesk.specs.Program.{result_texts}
use Rattle.matchdesk.specs.Promises.{fault_text, Says}
use Rattle.matchdesk.specs.declared.Said.{Said}
use Rattle.matchdesk.proofs.Texts.{counted, none-counted}
use Rattle.std.specs.Prelude.{Ok, Err}
use Rattle.cells.specs.Checked.{Checked}
use Rattle.packed.specs.Answer.{Packing}

-- ---- the result is no longer than the longest image

abbrev pub Short : Result → Type 0
Short (bytes b) = length b ≤ max_image
Short (refused x) = Unit {0}
Short (ends p d) = Unit {0}

good_short : (s : List ℕ) (r : Checked) → image_answer s ≡ r → Short (if_good r (packed s))
good_short s (Ok tt) e = omega (arith, packed_shorter s, ((image_good s).0 e).short)
good_short s (Err x) e = tt

pub pack_short : (s : List ℕ) → Short (pack_result s)
unfolding pack_result
pack_short s = good_short s (image_answer s) refl

read_short : (s : List ℕ) (t : Result) → unpacked s ≡ t → Short t
read_short s (bytes b) e = (packed-unpacked s b e).0.short
read_short s (refused x) e = tt
read_short s (ends p d) e = tt

pub unpack_short : (s : List ℕ) → Short (unpack_result s)
unpack_short s = read_short s (unpacked s) refl

-- ---- what is said of it

-- what the function that says it promises
pub record Told (r : Packing) (error error' : List ℕ) (said : Said) : Type 0 where
  pub output : said.output ≡ length_written r
  pub error_text : TextWritten (fault_text r) error error' said.error

module _ {before after error error' : List ℕ} {r : Packing} {said : Said} where
  pub packing_said : (t : Result) → Short t → max_image ≤ length before → Done t before after r → Told r error error' said
      → IsPrefixLen said.output after × Says (result_texts t) before after error error' said
  unfolding answer_of output_of
  packing_said (bytes b) short room w v =
      let fits : length b ≤ length before = omega (arith, short) in
      let is : r ≡ Ok (length b) = w.answer ∙ rw (le-leb _ _ fits) in
      let text : TextWritten b before after said.output = record { end = v.output ∙ ap length_written is; bytes = w.bytes ∙ rw (le-leb _ _ fits) } in
      (counted text fits, record { on_output = text; on_error = rw is at v.error_text })
  packing_said (refused x) short room w v =
      let none : said.output ≡ 0 = v.output ∙ ap length_written w.answer in
      (rw none (none-counted after), record { on_output = rw (none, w.bytes) (written_none before); on_error = rw w.answer at v.error_text })
  packing_said (ends p d) short room w v =
      let none : said.output ≡ 0 = v.output ∙ ap length_written w.answer in
      (rw none (none-counted after), record { on_output = rw (none, w.bytes) (written_none before); on_error = rw w.answer at v.error_text })
