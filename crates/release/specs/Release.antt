-- Promise: a whole release in one call (document 02, W9): what is answered of the release s, and what the two lent buffers then hold. Each image is
-- rewritten as if it were alone.
use Rattle.std.specs.Prelude.{ℕ, ◌*◌, cond, List, [], ◌∷◌, ◌++◌, map, leb, length, Option, Some, None, Ok, Err}
use Rattle.cells.specs.Bytes.{bytes}
use Rattle.cells.specs.Cells.{over}
use Rattle.cells.specs.Refusals.{numbered, numbers_of}
use Rattle.cells.specs.declared.refusal.Numbers.{Numbers}
use Rattle.crystalfold.specs.declared.rules.RuleSet.TheVariants.{Default}
use Rattle.passes.specs.Passes.{pass_answer, pass_bytes}
use Rattle.passes.specs.declared.Pass.TheVariants.{Both}
use Rattle.release.specs.Frames.{Image, framed, images_of}
use Rattle.passes.specs.Rewrite.{Rewrite}

-- ---- one image

-- "the outcome equals calling the default rewrite on each image alone", with an output as long as the image
abbrev pub outcome : Image → Rewrite
outcome i = pass_answer (Both Default) i (length i)

-- the image that is handed back: "a refused image leaves length 0"
abbrev pub back_as : Rewrite → Image → Image
back_as (Ok written) i = pass_bytes (Both Default) i
back_as (Err x) i = []

abbrev pub handed_back : Image → Image
handed_back i = back_as (outcome i) i

-- "refusal number or 0, then position and detail, or on success rewrite count and 0"
abbrev pub numbers_as : Rewrite → Numbers
numbers_as (Ok written) = numbered 0 written.report.num_rewrites 0
numbers_as (Err x) = numbers_of x

-- "three 4-byte numbers an image"
abbrev pub three_numbers : Numbers → List ℕ
three_numbers x = bytes 4 x.number ++ (bytes 4 x.position ++ bytes 4 x.detail)

abbrev pub answer_to : Image → List ℕ
answer_to i = three_numbers (numbers_as (outcome i))

-- ---- all of them

-- "the output has the same framing, in order"
abbrev pub released : List Image → List ℕ
released is = framed (map handed_back is)

abbrev pub answers_to : List Image → List ℕ
answers_to [] = []
answers_to (i ∷ is) = answer_to i ++ answers_to is

-- ---- the operation, lent an output of m bytes and k bytes for the answers

-- "it refuses 33, before writing, for a length or image past the end, an output shorter than the input, or fewer than 12 bytes an image": the images
-- that are rewritten, where it doesn't
abbrev pub with_room : ℕ → Option (List Image) → Option (List Image)
with_room k None = None
with_room k (Some is) = cond (leb (12 * length is) k) (Some is) None

unfoldable pub admitted : List ℕ → ℕ → ℕ → Option (List Image)
admitted s m k = cond (leb (length s) m) (with_room k (images_of s)) None

-- "success answers the length written to the output"
abbrev pub answer_as : Option (List Image) → Option ℕ
answer_as None = None
answer_as (Some is) = Some (length (released is))

unfoldable pub release_answer : List ℕ → ℕ → ℕ → Option ℕ
release_answer s m k = answer_as (admitted s m k)

-- what is written stands over the start of a buffer: "bytes past the written part stay"; a refusal changes none
abbrev pub buffer_as : Option (List Image) → (List Image → List ℕ) → List ℕ → List ℕ
buffer_as None written before = before
buffer_as (Some is) written before = over (written is) before

-- the output, which held `before`
unfoldable pub release_output : List ℕ → List ℕ → ℕ → List ℕ
release_output s before k = buffer_as (admitted s (length before) k) released before

-- the answers, which held `before`
unfoldable pub release_answers : List ℕ → ℕ → List ℕ → List ℕ
release_answers s m before = buffer_as (admitted s m (length before)) answers_to before
