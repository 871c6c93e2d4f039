-- Promise: the answers of the operations as numbers: three, 0 and what a success holds, or the document's number of the refusal, the function's
-- position and the detail; of a factor two.
use Rattle.std.specs.Prelude.{ℕ, ℤ, pos, Option, Some, None, Ok, Err}
use Rattle.cells.specs.Refusals.{numbers_of}
use Rattle.cells.specs.declared.refusal.Refusal.{Refusal}
use Rattle.sealing.specs.Promises.{repeat_number}
use Rattle.capi.specs.declared.FactorReply.{FactorReply}
use Rattle.capi.specs.declared.Reply.{Reply}
use Rattle.cells.specs.Checked.{Checked}
use Rattle.passes.specs.Rewrite.{Rewrite}
use Rattle.sealing.specs.Answer.{Sealing}
use Rattle.sealing.specs.declared.SealingError.TheVariants.{Refused as RefusedSealing, Repeated}
use Rattle.pages.specs.Answer.{Paged}
use Rattle.pages.specs.declared.PagesError.TheVariants.{Refused as RefusedPages, TooShort}
use Rattle.packed.specs.Answer.{Packing}
use Rattle.packed.specs.declared.PackingError.TheVariants.{Refused as RefusedPacking, Ends}

abbrev pub three : ℕ → ℕ → ℕ → Reply
three n a b = record { number = n; first = a; second = b }

abbrev pub refusal_reply : Refusal → Reply
refusal_reply x = three (numbers_of x).number (numbers_of x).position (numbers_of x).detail

-- a check's success holds nothing
abbrev pub check_reply : Checked → Reply
check_reply (Ok tt) = three 0 0 0
check_reply (Err x) = refusal_reply x

-- and so does the sealing check's; 34 or 35, the function's position and its number, where it repeats one of an earlier function (document 02, W13)
abbrev pub sealing_reply : Sealing → Reply
sealing_reply (Ok tt) = three 0 0 0
sealing_reply (Err (RefusedSealing x)) = refusal_reply x
sealing_reply (Err (Repeated w p x)) = three (repeat_number w) p x

-- the length written and the count of rewrites; `changed` is whether the count isn't 0
abbrev pub rewrite_reply : Rewrite → Reply
rewrite_reply (Ok w) = three 0 w.length w.report.num_rewrites
rewrite_reply (Err x) = refusal_reply x

-- the length written to the output, and 0; 33 where a length or an image goes past the release's end, the output is shorter than the release, or
-- there are fewer than 12 bytes an image for the answers (document 02, W9)
abbrev pub release_reply : Option ℕ → Reply
release_reply (Some n) = three 0 n 0
release_reply None = three 33 0 0

-- the length written, and 0; 30 where the buffer is shorter than the pages (document 02, W1)
abbrev pub pages_reply : Paged → Reply
pages_reply (Ok n) = three 0 n 0
pages_reply (Err (RefusedPages x)) = refusal_reply x
pages_reply (Err TooShort) = three 30 0 0

-- the length written, and 0; 32, the function's position and the cell's, where packed bytes end inside a cell or before a promised one (document 02,
-- W8)
abbrev pub packing_reply : Packing → Reply
packing_reply (Ok n) = three 0 n 0
packing_reply (Err (RefusedPacking x)) = refusal_reply x
packing_reply (Err (Ends p d)) = three 32 p d

-- the factor; 36, and 0, where no factor gives the wanted value (document 02, W14)
abbrev pub two : ℕ → ℤ → FactorReply
two n x = record { number = n; other = x }

abbrev pub factor_reply : Option ℤ → FactorReply
factor_reply (Some x) = two 0 x
factor_reply None = two 36 (pos 0)
