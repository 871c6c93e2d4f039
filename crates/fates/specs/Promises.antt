-- Promise: what `cell_fate` promises of its answer r on the image s and a cell's position. It is lent nothing to write to. `answer` says everything
-- outright; the other fields say what follows, and what the fate means, without the way by which it is defined.
use Rattle.std.specs.Prelude.{ℕ, ◌+◌, ◌/◌, ◌≤◌, ◌<◌, ◌≡◌, ◌↔◌, ◌⊎◌, List, [], ◌∷◌, ◌++◌, length, get_or, Ok, Err}
use Rattle.cells.specs.Cells.{cells}
use Rattle.cells.specs.Functions.{Function, functions, cells_of_all}
use Rattle.cells.specs.Refusals.{numbered, numbers_of}
use Rattle.cells.specs.declared.refusal.Numbers.{Numbers}
use Rattle.cells.specs.declared.refusal.Refusal.{Refusal}
use Rattle.image.specs.SiteCheck.{site_answer, SitesPass}
use Rattle.fates.specs.Answer.{fate_answer}
use Rattle.fates.specs.Claim.{CodeTrue, EventTrue, GivesBack}
use Rattle.fates.specs.declared.Fate.{Fate}
use Rattle.fates.specs.declared.Fate.TheVariants.{RepeatedLabel, Unreachable, JumpToNext, LoadOverwritten, Folded, EventGone, Kept}
use Rattle.fates.specs.declared.Reason.{Reason}
use Rattle.fates.specs.declared.Reason.TheVariants.{Nothing, LeftUnknown, RightUnknown, Unfit, DivisorZero, OutOfRange}
use Rattle.fates.specs.Told.{CellFate}
use Rattle.fates.specs.declared.FateError.TheVariants.{Refused, NothingToTell}

-- ---- an answer by numbers: three for a fate; or number, position and detail of a refusal

pub data Reply : Type 0 where
  success : ℕ → ℕ → ℕ → Reply
  refusal : Numbers → Reply

abbrev pub reason_number : Reason → ℕ
reason_number Nothing = 0
reason_number LeftUnknown = 1
reason_number RightUnknown = 2
reason_number Unfit = 3
reason_number DivisorZero = 4
reason_number OutOfRange = 5

abbrev pub fate_reply : Fate → Reply
fate_reply RepeatedLabel = success 1 0 0
fate_reply (Unreachable end) = success 2 end 0
fate_reply JumpToNext = success 3 0 0
fate_reply LoadOverwritten = success 4 0 0
fate_reply (Folded command bits) = success 5 command bits
fate_reply EventGone = success 6 0 0
fate_reply (Kept r) = success 7 (reason_number r) 0

-- "then 31 for those two"
abbrev pub reply_of : CellFate → Reply
reply_of (Ok x) = fate_reply x
reply_of (Err (Refused x)) = refusal (numbers_of x)
reply_of (Err NothingToTell) = refusal (numbered 31 0 0)

-- ---- where a cell stands

-- the head of a function: behind all cells of the earlier ones
pub record HeadAt (s : List ℕ) (cell : ℕ) : Type 0 where
  pub earlier : List Function
  pub this : Function
  pub later : List Function
  pub parts : functions (cells s) ≡ earlier ++ this ∷ later
  pub is : cell ≡ length (cells_of_all earlier)

-- a cell of a function behind its head: `place` counts its instruction cells and then its event cells
pub record CellAt (s : List ℕ) (cell : ℕ) : Type 0 where
  pub earlier : List Function
  pub this : Function
  pub later : List Function
  pub parts : functions (cells s) ≡ earlier ++ this ∷ later
  pub place : ℕ
  pub is : cell ≡ length (cells_of_all earlier) + 1 + place
  pub inside : place < length this.code + length this.events

-- the fate x is true of the cell at a place of the function f, whose first cell is the cell `first` of the image (Claim.antt)
pub record TrueOf (first : ℕ) (f : Function) (place : ℕ) (x : Fate) : Type 0 where
  pub instruction : place < length f.code → CodeTrue first f.code place x
  pub event : (i : ℕ) → place ≡ length f.code + i → EventTrue f.code f.events (get_or f.events i []) x

pub record FateTold (s : List ℕ) (cell : ℕ) (r : CellFate) : Type 0 where
  pub answer : r ≡ fate_answer s cell
  pub reply : reply_of r ≡ reply_of (fate_answer s cell)
  -- a refusal of the site check exactly if that refuses, and the same one, whatever the position
  pub refused : (x : Refusal) → (r ≡ Err (Refused x)) ↔ (site_answer s ≡ Err x)
  -- 31 exactly if the site check passes and the position is a head's or past the end
  pub nothing : (r ≡ Err NothingToTell) ↔ (SitesPass s × (HeadAt s cell ⊎ (length s / 16 ≤ cell)))
  -- every other cell of an image that passes has a fate, and only one, since r is one answer; it is true of the rewrite's definition, wherever the
  -- cell is said to stand
  pub every_cell : SitesPass s → CellAt s cell → (x : Fate) × (r ≡ Ok x)
  pub true_fate : (x : Fate) → r ≡ Ok x → SitesPass s × CellAt s cell × ((c : CellAt s cell) → TrueOf (length (cells_of_all c.earlier) + 1) c.this c.place x)
  -- and the fates of a function's cells together give back what the default rewrite makes of it, with its count
  pub gives_back : (c : CellAt s cell) → GivesBack (length (cells_of_all c.earlier) + 1) c.this
