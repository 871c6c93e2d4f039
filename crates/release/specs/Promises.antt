-- Promise: what `rewrite_release` promises (document 02, W9): s is the release, `out` and `out'` are what the lent output holds at entry and at exit,
-- `answers` and `answers'` the same of the buffer for the answers, and r is the answer. `answer`, `bytes` and `numbers` say everything outright; the
-- other fields say what follows.
use Rattle.std.specs.Prelude.{ℕ, ◌*◌, ◌≤◌, ◌<◌, ◌≡◌, ◌↔◌, Bool, true, false, List, [], length, take, drop, get_or, Option, Some, None}
use Rattle.cells.specs.Cells.{cells}
use Rattle.cells.specs.Functions.{functions}
use Rattle.cells.specs.Refusals.{numbered}
use Rattle.cells.specs.declared.refusal.Numbers.{Numbers}
use Rattle.crystalfold.specs.Rules.{rules_of}
use Rattle.crystalfold.specs.declared.rules.RuleSet.TheVariants.{Default}
use Rattle.rewrite.specs.Claim.{Rewritten}
use Rattle.passes.specs.Promises.{Each, RewriteDone, is_written as is_written_alone, length_written as length_alone}
use Rattle.passes.specs.Passes.{pass_answer, pass_output}
use Rattle.passes.specs.declared.Pass.TheVariants.{Both}
use Rattle.release.specs.Frames.{Image, framed}
use Rattle.release.specs.Release.{numbers_as, three_numbers, release_answer, release_output, release_answers}
use Rattle.passes.specs.Rewrite.{Rewrite}

-- an answer as the document sets it out: the length written to the output; or number, position and detail. 33 has neither position nor detail
pub data Reply : Type 0 where
  success : ℕ → Reply
  refusal : Numbers → Reply

abbrev pub reply_of : Option ℕ → Reply
reply_of (Some n) = success n
reply_of None = refusal (numbered 33 0 0)

abbrev pub is_written : Option ℕ → Bool
is_written (Some n) = true
is_written None = false

abbrev pub length_written : Option ℕ → ℕ
length_written (Some n) = n
length_written None = 0

-- s is images behind their lengths, up to its end; the output, of m bytes, is as long as s, and the other buffer has 12 bytes an image among its k
pub record Admissible (s : List ℕ) (m k : ℕ) : Type 0 where
  pub images : List Image
  pub framing : s ≡ framed images
  pub room : length s ≤ m
  pub answers : 12 * length images ≤ k

-- what calling the default rewrite on the image i alone answers and leaves in `lent`
abbrev pub answer_alone : Image → List ℕ → Rewrite
answer_alone i lent = pass_answer (Both Default) i (length lent)

abbrev pub output_alone : Image → List ℕ → List ℕ
output_alone i lent = pass_output (Both Default) i lent

-- an image i of a release, the image that is handed back for it and its bytes in the answers: as of that call
pub record AsAlone (i back answer lent : List ℕ) : Type 0 where
  -- all that the default rewrite promises
  pub done : RewriteDone Default i lent (output_alone i lent) (answer_alone i lent)
  -- its numbers
  pub numbers : answer ≡ three_numbers (numbers_as (answer_alone i lent))
  -- what it wrote, of a refused image nothing
  pub bytes : back ≡ take (length_alone (answer_alone i lent)) (output_alone i lent)
  -- demand 3: each function handed back records what the one sent at its position does
  pub records : is_written_alone (answer_alone i lent) ≡ true → Each (Rewritten (rules_of Default)) (functions (cells i)) (functions (cells back))

-- the images of a release and what was written to the two buffers: as many are handed back, each behind its length, and each image's part is its own,
-- whatever is lent to the rewrite of it alone, as long as the image or longer
pub record HandedBack (is : List Image) (written answers : List ℕ) : Type 0 where
  pub backs : List Image
  pub framing : written ≡ framed backs
  pub count : length backs ≡ length is
  pub each : (k : ℕ) → k < length is → (lent : List ℕ) → length (get_or is k []) ≤ length lent
      → AsAlone (get_or is k []) (get_or backs k []) (take 12 (drop (12 * k) answers)) lent

pub record ReleaseDone (s out out' answers answers' : List ℕ) (r : Option ℕ) : Type 0 where
  -- the answer, and the same by the document's numbers
  pub answer : r ≡ release_answer s (length out) (length answers)
  pub reply : reply_of r ≡ reply_of (release_answer s (length out) (length answers))
  -- every byte of the output, and of the answers
  pub bytes : out' ≡ release_output s out (length answers)
  pub numbers : answers' ≡ release_answers s (length out) answers
  -- success exactly if the framing is good and both buffers have room
  pub accepted : (is_written r ≡ true) ↔ Admissible s (length out) (length answers)
  -- what was written to the output is no longer than the release
  pub shorter : length_written r ≤ length s
  -- image by image, in order
  pub images : is_written r ≡ true → (is : List Image) → s ≡ framed is → HandedBack is (take (length_written r) out') answers'
