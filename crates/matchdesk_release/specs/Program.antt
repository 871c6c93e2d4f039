-- Promise: what `./matchdesk release` writes to standard output and to standard error (document 02, W9): the framed output, and a line an image; or
-- 33 alone. Its buffers are always long enough, so that only the framing and the length of the input decide.
use Rattle.std.specs.Prelude.{◌≡◌, cond, List, [], ◌∷◌, ◌++◌, ℕ, suc, ◌<◌, eqb, leb, length, Option, None, Some}
use Rattle.cells.specs.declared.refusal.Numbers.{Numbers}
use Rattle.listing.specs.Places.{ascii}
use Rattle.listing.specs.Text.{line_feed, blank, field, rewrites_line, refused_text}
use Rattle.release.specs.Frames.{Image, frame, images_of}
use Rattle.release.specs.Release.{outcome, handed_back, numbers_as, released}

-- the longest input, of which every byte counts
abbrev pub max_release : ℕ
max_release = 4194304

-- what goes to standard output and to standard error
pub record Texts : Type 0 where
  pub output : List ℕ
  pub error : List ℕ

abbrev pub texts : List ℕ → List ℕ → Texts
texts output error = record { output = output; error = error }

-- ---- of one image, at its place from 0

-- by its three numbers: `rewrites` and the count where the first is 0, else `refused` and all three
abbrev pub answer_text : Numbers → List ℕ
answer_text x = cond (eqb x.number 0) (rewrites_line x.position) (refused_text x.number x.position x.detail)

unfoldable pub image_line : ℕ → Numbers → List ℕ
image_line place x = field place blank ++ answer_text x

unfoldable pub image_texts : ℕ → Image → Texts
image_texts place i = texts (frame (handed_back i)) (image_line place (numbers_as (outcome i)))

-- ---- of all of them, the first at a place

abbrev pub images_texts : ℕ → List Image → Texts
images_texts place [] = texts [] []
images_texts place (i ∷ is) =
    texts ((image_texts place i).output ++ (images_texts (suc place) is).output) ((image_texts place i).error ++ (images_texts (suc place) is).error)

-- ---- of the input

abbrev pub refused_texts : Texts
refused_texts = texts [] (ascii "refused 33" ++ line_feed ∷ [])

abbrev pub texts_as : Option (List Image) → Texts
texts_as None = refused_texts
texts_as (Some is) = images_texts 0 is

unfoldable pub program_texts : List ℕ → Texts
program_texts s = cond (leb (length s) max_release) (texts_as (images_of s)) refused_texts

-- the theorem `output-released` of proofs/Whole: what goes to standard output is what `rewrite_release` writes to its output
abbrev pub OutputReleased : Type 0
OutputReleased = (place : ℕ) (is : List Image) → (images_texts place is).output ≡ released is

-- the theorem `long_inputs` of proofs/Whole: of an input past the longest one the program keeps the first 4,194,304 bytes and that there are more. What
-- it writes for what it kept is what it writes for the whole input
abbrev pub LongInputs : Type 0
LongInputs = (input kept : List ℕ) → max_release < length input → max_release < length kept → program_texts kept ≡ program_texts input
