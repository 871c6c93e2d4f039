-- Promise: the two checks of images joined (document 02, W12): what they answer of s ++ t, where the image check passes s and both together are within
-- the limit. A refusal of t is t's own, moved on by the functions and the cells of s: it tells whose function is at fault.
use Rattle.std.specs.Prelude.{ℕ, ◌+◌, ◌/◌, ◌≤◌, ◌≡◌, List, ◌++◌, length, take, Ok, Err}
use Rattle.cells.specs.Answers.{or_else}
use Rattle.cells.specs.Cells.{cells, flat}
use Rattle.cells.specs.Check.{max_image}
use Rattle.cells.specs.Functions.{functions, cells_of_all}
use Rattle.cells.specs.declared.refusal.Refusal.{Refusal}
use Rattle.cells.specs.declared.refusal.Refusal.TheVariants.{Length, Head, UnknownCommand, Operand, OutputTooShort, ActivationSiteRepeated, ActivationSiteOnWrite, ActivationSiteClaimedTwice, ActivationSitesDiffer, WriteSiteRepeated, WriteSiteOnBorrow, WriteWithoutSite, WriteSiteUnclaimed, StoreVarSiteClaimedTwice, WriteSiteUnknown}
use Rattle.image.specs.Image.{image_answer}
use Rattle.image.specs.SiteCheck.{site_answer}
use Rattle.cells.specs.Checked.{Checked}

-- a refusal with p functions of d cells, heads among them, before the image: the function's position moves on, and where the detail is a cell's
-- position (2 to 4) it does too; a site stays, and so do 1 and 5, which name no function
abbrev pub moved : ℕ → ℕ → Refusal → Refusal
moved p d Length = Length
moved p d (Head q e) = Head (p + q) (d + e)
moved p d (UnknownCommand q e) = UnknownCommand (p + q) (d + e)
moved p d (Operand q e) = Operand (p + q) (d + e)
moved p d OutputTooShort = OutputTooShort
moved p d (ActivationSiteRepeated q x) = ActivationSiteRepeated (p + q) x
moved p d (ActivationSiteOnWrite q x) = ActivationSiteOnWrite (p + q) x
moved p d (ActivationSiteClaimedTwice q x) = ActivationSiteClaimedTwice (p + q) x
moved p d (ActivationSitesDiffer q) = ActivationSitesDiffer (p + q)
moved p d (WriteSiteRepeated q x) = WriteSiteRepeated (p + q) x
moved p d (WriteSiteOnBorrow q x) = WriteSiteOnBorrow (p + q) x
moved p d (WriteWithoutSite q) = WriteWithoutSite (p + q)
moved p d (WriteSiteUnclaimed q x) = WriteSiteUnclaimed (p + q) x
moved p d (StoreVarSiteClaimedTwice q x) = StoreVarSiteClaimedTwice (p + q) x
moved p d (WriteSiteUnknown q x) = WriteSiteUnknown (p + q) x

abbrev pub moved_answer : ℕ → ℕ → Checked → Checked
moved_answer p d (Ok tt) = Ok tt
moved_answer p d (Err x) = Err (moved p d x)

-- a refusal, and an answer, as they read where the image s stands before
abbrev pub refusal_behind : List ℕ → Refusal → Refusal
refusal_behind s x = moved (length (functions (cells s))) (length s / 16) x

abbrev pub answer_behind : List ℕ → Checked → Checked
answer_behind s a = moved_answer (length (functions (cells s))) (length s / 16) a

pub record ChecksJoined (s t : List ℕ) : Type 0 where
  -- the functions are those of both
  pub functions_of : functions (cells (s ++ t)) ≡ functions (cells s) ++ functions (cells t)
  -- the image check answers what it answers of t
  pub image : image_answer (s ++ t) ≡ answer_behind s (image_answer t)
  -- the site check: first the image check of t; then the validators on s, then those on t
  pub sites : site_answer (s ++ t) ≡ or_else (answer_behind s (image_answer t)) (or_else (site_answer s) (answer_behind s (site_answer t)))
  -- so where it passes s it answers what it answers of t
  pub behind_good : site_answer s ≡ Ok tt → site_answer (s ++ t) ≡ answer_behind s (site_answer t)

-- the theorem `checks_joined` of proofs/JoinedChecks
abbrev pub ChecksJoin : Type 0
ChecksJoin = (s t : List ℕ) → image_answer s ≡ Ok tt → length s + length t ≤ max_image → ChecksJoined s t

-- s ends where a function of s ++ t ends: it is the first k of these functions
abbrev pub EndsFunction : List ℕ → List ℕ → Type 0
EndsFunction s t = (k : ℕ) × (s ≡ flat (cells_of_all (take k (functions (cells (s ++ t))))))
