-- Promise: what each refusal is by document 01 ('Answers of the operations'): its number, the function's position and a detail. The detail is the
-- cell's position in the image for 2 to 4, the site for 11 to 13, 21, 22, 24 to 26, else 0.
use Rattle.std.specs.Prelude.{ℕ, Ok, Err, Option, None, Some}
use Rattle.cells.specs.declared.refusal.Refusal.{Refusal}
use Rattle.cells.specs.declared.refusal.Refusal.TheVariants.{Length, Head, UnknownCommand, Operand, OutputTooShort, ActivationSiteRepeated, ActivationSiteOnWrite, ActivationSiteClaimedTwice, ActivationSitesDiffer, WriteSiteRepeated, WriteSiteOnBorrow, WriteWithoutSite, WriteSiteUnclaimed, StoreVarSiteClaimedTwice, WriteSiteUnknown}
use Rattle.cells.specs.declared.refusal.Numbers.{Numbers}
use Rattle.cells.specs.Checked.{Checked}

abbrev pub numbered : ℕ → ℕ → ℕ → Numbers
numbered n p d = record { number = n; position = p; detail = d }

abbrev pub numbers_of : Refusal → Numbers
numbers_of Length = numbered 1 0 0
numbers_of (Head p d) = numbered 2 p d
numbers_of (UnknownCommand p d) = numbered 3 p d
numbers_of (Operand p d) = numbered 4 p d
numbers_of OutputTooShort = numbered 5 0 0
numbers_of (ActivationSiteRepeated p d) = numbered 11 p d
numbers_of (ActivationSiteOnWrite p d) = numbered 12 p d
numbers_of (ActivationSiteClaimedTwice p d) = numbered 13 p d
numbers_of (ActivationSitesDiffer p) = numbered 14 p 0
numbers_of (WriteSiteRepeated p d) = numbered 21 p d
numbers_of (WriteSiteOnBorrow p d) = numbered 22 p d
numbers_of (WriteWithoutSite p) = numbered 23 p 0
numbers_of (WriteSiteUnclaimed p d) = numbered 24 p d
numbers_of (StoreVarSiteClaimedTwice p d) = numbered 25 p d
numbers_of (WriteSiteUnknown p d) = numbered 26 p d

-- an answer by the document: nothing refused, or a refusal's number, position and detail
abbrev pub numbers_in : Checked → Option Numbers
numbers_in (Ok tt) = None
numbers_in (Err x) = Some (numbers_of x)
