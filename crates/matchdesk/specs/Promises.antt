-- Inner: what the program's functions say to each other: room in the buffers, and where the texts stand.
use Rattle.std.specs.Prelude.{◌≡◌, List, [], ℕ, ◌≤◌, length, Ok, Err}
use Rattle.cells.specs.Check.{max_image}
use Rattle.listing.specs.Promises.{TextWritten}
use Rattle.listing.specs.Text.{refused_text, refusal_text}
use Rattle.passes.specs.Promises.{length_written}
use Rattle.matchdesk.specs.Program.{Texts}
use Rattle.matchdesk.specs.declared.Said.{Said}
use Rattle.packed.specs.Answer.{Packing}
use Rattle.packed.specs.declared.PackingError.TheVariants.{Refused, Ends}
use Rattle.passes.specs.Rewrite.{Rewrite}

-- what is said on one of the two alone
abbrev pub said_output : ℕ → Said
said_output n = record { output = n; error = 0 }

abbrev pub said_error : ℕ → Said
said_error n = record { output = 0; error = n }

pub record Room (work output error : List ℕ) : Type 0 where
  pub for_work : length work ≡ max_image
  -- the longest pages, which are longer than 4,096 lines of cells and the line of the count
  pub for_output : 242382 ≤ length output
  -- the line of a refusal
  pub for_error : 71 ≤ length error

-- a rewrite's answer lies within the output that it was lent, and its text within a buffer
pub record Fits (reply : Rewrite) (work output : List ℕ) : Type 0 where
  pub within : length_written reply ≤ length work
  pub most : length_written reply ≤ max_image
  pub room : 242382 ≤ length output

-- what is said on standard error of an answer about a packed form
abbrev pub fault_text : Packing → List ℕ
fault_text (Ok n) = []
fault_text (Err (Refused x)) = refusal_text x
fault_text (Err (Ends position detail)) = refused_text 32 position detail

-- the texts stand over the start of the two buffers, each with its end
pub record Says (t : Texts) (output output' error error' : List ℕ) (r : Said) : Type 0 where
  pub on_output : TextWritten t.output output output' r.output
  pub on_error : TextWritten t.error error error' r.error
