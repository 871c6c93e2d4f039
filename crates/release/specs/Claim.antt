-- Promise: what a buyer reads of a release (document 02, W9) beside the operation's contract: how it is read and framed, and that its images don't lean
-- on each other. The theorems speak of the definitions by which the contract says every byte of both buffers.
use Rattle.std.specs.Prelude.{ℕ, ◌<◌, ◌≡◌, List, ◌∷◌, ◌++◌, Err, Some}
use Rattle.cells.specs.Lists.{All}
use Rattle.cells.specs.declared.refusal.Refusal.TheVariants.{OutputTooShort}
use Rattle.release.specs.Frames.{Image, frame, framed, images_of}
use Rattle.release.specs.Release.{outcome, handed_back, answer_to, released, answers_to}

-- the theorem `read_back` of proofs/Frames: framed images are read as they are, whatever their bytes and lengths
abbrev pub ReadBack : Type 0
ReadBack = (is : List Image) → images_of (framed is) ≡ Some is

-- the theorem `only-framed` of proofs/Frames: nothing else is read as images. A release has bytes, where the definitions read any numbers
abbrev pub OnlyFramed : Type 0
OnlyFramed = (s : List ℕ) (is : List Image) → All (λ (b : ℕ). b < 256) s → images_of s ≡ Some is → s ≡ framed is

-- the theorem `neighbours` of proofs/Done: "one bad image changes nothing in its neighbours". Whatever the image x is, what stands for those before it
-- and for those behind it, in both buffers, is the same
pub record Neighbours (is : List Image) (x : Image) (js : List Image) : Type 0 where
  pub bytes : released (is ++ x ∷ js) ≡ released is ++ (frame (handed_back x) ++ released js)
  pub numbers : answers_to (is ++ x ∷ js) ≡ answers_to is ++ (answer_to x ++ answers_to js)

abbrev pub NeighboursStay : Type 0
NeighboursStay = (is : List Image) (x : Image) (js : List Image) → Neighbours is x js

-- the theorem `releases-join` of proofs/Done: of two releases, one behind the other, all is both, one behind the other
pub record ReleasesJoined (is js : List Image) : Type 0 where
  pub framing : framed (is ++ js) ≡ framed is ++ framed js
  pub bytes : released (is ++ js) ≡ released is ++ released js
  pub numbers : answers_to (is ++ js) ≡ answers_to is ++ answers_to js

abbrev pub ReleasesJoin : Type 0
ReleasesJoin = (is js : List Image) → ReleasesJoined is js

-- the theorem `never_five` of proofs/Alone: no image of a release is refused for want of an output
abbrev pub NeverFive : Type 0
NeverFive = (i : Image) → All (λ (b : ℕ). b < 256) i → outcome i ≡ Err OutputTooShort → ⊥
