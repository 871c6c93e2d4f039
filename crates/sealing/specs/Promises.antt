-- Promise: what `sealing_check` promises of its answer r on the image s. It is lent nothing to write to. `answer` says everything outright; the other
-- fields say what follows, and when each answer is given, without the walk by which it is defined.
use Rattle.std.specs.Prelude.{ℕ, ◌≤◌, ◌≡◌, ◌↔◌, List, ◌∷◌, ◌++◌, length, Ok, Err, Option, None, Some}
use Rattle.cells.specs.Cells.{cells}
use Rattle.cells.specs.Functions.{Function, functions}
use Rattle.cells.specs.Lists.{All}
use Rattle.cells.specs.Refusals.{numbered, numbers_of}
use Rattle.cells.specs.declared.refusal.Numbers.{Numbers}
use Rattle.cells.specs.declared.refusal.Refusal.{Refusal}
use Rattle.sites.specs.declared.Which.{Which}
use Rattle.sites.specs.declared.Which.TheVariants.{Activation, Write}
use Rattle.image.specs.SiteCheck.{site_answer, SitesPass}
use Rattle.sealing.specs.Sealing.{numbers_on, functions_with, sealing_answer}
use Rattle.sealing.specs.Answer.{Sealing}
use Rattle.sealing.specs.declared.SealingError.{SealingError}
use Rattle.sealing.specs.declared.SealingError.TheVariants.{Refused, Repeated}

-- what the documents say of each error
abbrev pub repeat_number : Which → ℕ
repeat_number Activation = 34
repeat_number Write = 35

abbrev pub error_numbers : SealingError → Numbers
error_numbers (Refused x) = numbers_of x
error_numbers (Repeated w position x) = numbered (repeat_number w) position x

-- an answer as the documents set it out: nothing refused, or number, position and detail
abbrev pub sealing_numbers : Sealing → Option Numbers
sealing_numbers (Ok tt) = None
sealing_numbers (Err e) = Some (error_numbers e)

abbrev pub sealing_reply : List ℕ → Option Numbers
sealing_reply s = sealing_numbers (sealing_answer s)

-- "an activation number may stand in one function only, and likewise a write number, over all functions together"
abbrev pub InOneFunction : Which → List Function → Type 0
InOneFunction w fs = (x : ℕ) → functions_with w x fs ≤ 1

pub record SealingPass (s : List ℕ) : Type 0 where
  pub sites : SitesPass s
  pub activation : InOneFunction Activation (functions (cells s))
  pub write : InOneFunction Write (functions (cells s))

-- of the functions fs, the one at the position p is the first to repeat a number of an earlier one, and x is its first such number
pub record FirstRepeat (w : Which) (fs : List Function) (p x : ℕ) : Type 0 where
  pub earlier : List Function
  pub this : Function
  pub later : List Function
  pub parts : fs ≡ earlier ++ this ∷ later
  pub place : p ≡ length earlier
  -- the earlier ones repeat none among themselves
  pub apart : InOneFunction w earlier
  -- its numbers, in instruction order: those before x stand in no earlier function, x stands in one
  pub before : List ℕ
  pub behind : List ℕ
  pub numbers : numbers_on w this ≡ before ++ x ∷ behind
  pub fresh : All (λ (y : ℕ). functions_with w y earlier ≡ 0) before
  pub repeats : functions_with w x earlier ≡ 1

pub record SealingChecked (s : List ℕ) (r : Sealing) : Type 0 where
  pub answer : r ≡ sealing_answer s
  pub reply : sealing_numbers r ≡ sealing_reply s
  -- good exactly if the site check is good and each number stands in one function only
  pub accepted : (r ≡ Ok tt) ↔ SealingPass s
  -- a refusal of the site check exactly if that refuses, whatever numbers there are
  pub refused : (x : Refusal) → (r ≡ Err (Refused x)) ↔ (site_answer s ≡ Err x)
  -- 34 exactly by the first function that repeats an activation number; 35 in the same way, where there is no 34
  pub activation_repeated : (p x : ℕ) → (r ≡ Err (Repeated Activation p x)) ↔ (SitesPass s × FirstRepeat Activation (functions (cells s)) p x)
  pub write_repeated : (p x : ℕ) → (r ≡ Err (Repeated Write p x)) ↔ (SitesPass s × InOneFunction Activation (functions (cells s)) × FirstRepeat Write (functions (cells s)) p x)
