-- Inner: what the program's functions say to each other.
use Rattle.std.specs.Prelude.{◌≡◌, Bool, true, false, cond, List, ℕ, leb, length, Option, None, Some}
use Rattle.listing.specs.Promises.{TextWritten}
use Rattle.release.specs.Frames.{Image, images_of}
use Rattle.matchdesk_release.specs.Program.{Texts, max_release}
use Rattle.matchdesk_release.specs.declared.Said.{Said}

-- the input is refused
abbrev pub is_none : Option (List Image) → Bool
is_none None = true
is_none (Some is) = false

unfoldable pub is_refused : List ℕ → Bool
is_refused s = cond (leb (length s) max_release) (is_none (images_of s)) true

-- it is images behind their lengths
abbrev pub Framed : List ℕ → Type 0
Framed s = (is : List Image) × (images_of s ≡ Some is)

-- the texts stand over the start of the two buffers, each with its end
pub record Says (t : Texts) (output output' error error' : List ℕ) (r : Said) : Type 0 where
  pub on_output : TextWritten t.output output output' r.output
  pub on_error : TextWritten t.error error error' r.error
