-- Promise: what `pack` and `unpack` promise (document 02, W8): s is what they are given, `before` and `after` are what the lent output holds at entry
-- and at exit, and r is the answer. `answer` and `bytes` say everything outright; the other fields say what follows.
use Rattle.std.specs.Prelude.{ℕ, ◌≤◌, ◌≡◌, ◌↔◌, List, Bool, true, false, cond, leb, length, take, Ok, Err}
use Rattle.cells.specs.Cells.{over}
use Rattle.cells.specs.Refusals.{numbered, numbers_of}
use Rattle.cells.specs.declared.refusal.Numbers.{Numbers}
use Rattle.cells.specs.declared.refusal.Refusal.TheVariants.{OutputTooShort}
use Rattle.image.specs.Image.{image_answer, GoodImage}
use Rattle.packed.specs.Form.{packed}
use Rattle.packed.specs.Reading.{Result, bytes, refused, ends, if_good, unpacked}
use Rattle.packed.specs.Answer.{Packing}
use Rattle.packed.specs.declared.PackingError.{PackingError}
use Rattle.packed.specs.declared.PackingError.TheVariants.{Refused, Ends}

-- ---- what each comes to, whatever is lent

-- 'export any image that the image check passes'; it 'refuses as the image check'
unfoldable pub pack_result : List ℕ → Result
pack_result s = if_good (image_answer s) (packed s)

abbrev pub unpack_result : List ℕ → Result
unpack_result s = unpacked s

-- ---- 'refusal 5, where the result doesn't fit the lent output, comes last in each. Success answers the length written'

-- the answer, where so many bytes are lent
unfoldable pub answer_of : Result → ℕ → Packing
answer_of (bytes b) room = cond (leb (length b) room) (Ok (length b)) (Err (Refused OutputTooShort))
answer_of (refused x) room = Err (Refused x)
answer_of (ends p d) room = Err (Ends p d)

-- what the output holds: the result over its start, and the rest stays; a refusal changes no byte
unfoldable pub output_of : Result → List ℕ → List ℕ
output_of (bytes b) before = cond (leb (length b) (length before)) (over b before) before
output_of (refused x) before = before
output_of (ends p d) before = before

-- ---- the contracts

-- what the documents say of each error
abbrev pub error_numbers : PackingError → Numbers
error_numbers (Refused x) = numbers_of x
error_numbers (Ends p d) = numbered 32 p d

-- an answer as the document sets it out: the length written; or number, position and detail
pub data Reply : Type 0 where
  success : ℕ → Reply
  refusal : Numbers → Reply

abbrev pub reply_of : Packing → Reply
reply_of (Ok n) = success n
reply_of (Err e) = refusal (error_numbers e)

abbrev pub is_written : Packing → Bool
is_written (Ok n) = true
is_written (Err (Refused x)) = false
is_written (Err (Ends p d)) = false

abbrev pub length_written : Packing → ℕ
length_written (Ok n) = n
length_written (Err (Refused x)) = 0
length_written (Err (Ends p d)) = 0

pub record Done (t : Result) (before after : List ℕ) (r : Packing) : Type 0 where
  -- the answer, and the same by the document's numbers
  pub answer : r ≡ answer_of t (length before)
  pub reply : reply_of r ≡ reply_of (answer_of t (length before))
  -- every byte of the output
  pub bytes : after ≡ output_of t before

pub record PackDone (s before after : List ℕ) (r : Packing) : Type 0 where
  pub done : Done (pack_result s) before after r
  -- success exactly if the image passes the image check and its packed form fits
  pub accepted : (is_written r ≡ true) ↔ (GoodImage s × (length (packed s) ≤ length before))
  -- what was written is no longer than the image, and unpacks to it
  pub shorter : length_written r ≤ length s
  pub back : is_written r ≡ true → unpack_result (take (length_written r) after) ≡ bytes s

-- s is the packed form of an image that passes the image check and has at most so many bytes
pub record PackedImage (s : List ℕ) (room : ℕ) : Type 0 where
  pub image : List ℕ
  pub good : GoodImage image
  pub packs : packed image ≡ s
  pub fits : length image ≤ room

pub record UnpackDone (s before after : List ℕ) (r : Packing) : Type 0 where
  pub done : Done (unpack_result s) before after r
  -- success exactly if what is given is the packed form of an image that passes the image check, and this fits
  pub accepted : (is_written r ≡ true) ↔ PackedImage s (length before)
  -- what was written passes the image check, and packs to what was given
  pub good : is_written r ≡ true → GoodImage (take (length_written r) after)
  pub back : is_written r ≡ true → pack_result (take (length_written r) after) ≡ bytes s
