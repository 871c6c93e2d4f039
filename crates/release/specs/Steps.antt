-- Inner: what the inner functions say: one image in its place, and all of them.
use Rattle.std.specs.Prelude.{ℕ, ◌+◌, ◌*◌, ◌≤◌, ◌<◌, min, ◌≡◌, List, length, Some}
use Rattle.cells.specs.Cells.{over}
use Rattle.cells.specs.Check.{max_image}
use Rattle.cells.specs.declared.refusal.Numbers.{Numbers}
use Rattle.release.specs.Frames.{Image, frame, images_of}
use Rattle.release.specs.Release.{handed_back, answer_to}

-- each number has room in 4 bytes
pub record Small (x : Numbers) : Type 0 where
  pub number : x.number < 4294967296
  pub position : x.position < 4294967296
  pub detail : x.detail < 4294967296

-- an image's place in the output and among the answers. One that is longer than any image is refused, and takes a length of 0
pub record Place (i out answer : List ℕ) : Type 0 where
  pub room : 4 + min (length i) max_image ≤ length out
  pub numbers : 12 ≤ length answer

pub record Placed (i out out' answer answer' : List ℕ) (r : ℕ) : Type 0 where
  pub bytes : out' ≡ over (frame (handed_back i)) out
  pub numbers : answer' ≡ over (answer_to i) answer
  pub count : r ≡ length (frame (handed_back i))

-- all images have their places
pub record Ready (s out answers : List ℕ) : Type 0 where
  pub images : List Image
  pub read : images_of s ≡ Some images
  pub room : length s ≤ length out
  pub numbers : 12 * length images ≤ length answers
