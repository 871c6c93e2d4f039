-- Promise: the sealing check (document 02, W13), "one numbering for a whole image": as the site check, then 34 and 35 over all functions together. An
-- activation or write number is a site on a command, StoreVar's or MakeRecord's (sites/specs/Sites); those on events are the same ones
-- (`EventsAlike`, Claim.antt).
use Rattle.std.specs.Prelude.{ℕ, List, [], ◌∷◌, ◌++◌, Bool, length, Ok, Err}
use Rattle.cells.specs.Cells.{cells}
use Rattle.cells.specs.Functions.{Function, functions}
use Rattle.cells.specs.Lists.{any, tally, only}
use Rattle.sites.specs.Sites.{site_of, stands, sites_on}
use Rattle.sites.specs.declared.Which.{Which}
use Rattle.sites.specs.declared.Which.TheVariants.{Activation, Write}
use Rattle.image.specs.SiteCheck.{site_answer}
use Rattle.cells.specs.Checked.{Checked}
use Rattle.sealing.specs.Answer.{Sealing}
use Rattle.sealing.specs.declared.SealingError.TheVariants.{Refused, Repeated}

-- ---- numbers

-- a function's numbers, in instruction order; unreachable commands have theirs too
abbrev pub numbers_on : Which → Function → List ℕ
numbers_on w f = sites_on (site_of w) f.code

-- the number x stands in the function; in how many of some functions
abbrev pub stands_in : Which → ℕ → Function → Bool
stands_in w x f = stands (site_of w) x f.code

abbrev pub functions_with : Which → ℕ → List Function → ℕ
functions_with w x fs = tally (stands_in w x) fs

-- ---- "34 for the first function, in order, that repeats an earlier one's activation number, then 35 in the same way for write numbers"

-- those of a function's numbers that stand in an earlier one, in instruction order
abbrev pub repeated_numbers : Which → List Function → Function → List ℕ
repeated_numbers w earlier f = only (λ (x : ℕ). any (stands_in w x) earlier) (numbers_on w f)

-- "that function's first such number in instruction order is the detail, and its place among the functions the position"; where it has none, what is
-- said of the functions behind it
abbrev pub repeated_or : Which → ℕ → List ℕ → Sealing → Sealing
repeated_or w position [] behind = behind
repeated_or w position (x ∷ xs) behind = Err (Repeated w position x)

-- the functions fs in order, each with those before it, which are `earlier` at the start. A function's place is how many stand before it, whether
-- they have numbers or not
abbrev pub numbering_from : Which → List Function → List Function → Sealing
numbering_from w earlier [] = Ok tt
numbering_from w earlier (f ∷ fs) = repeated_or w (length earlier) (repeated_numbers w earlier f) (numbering_from w (earlier ++ f ∷ []) fs)

unfoldable pub numbering_answer : Which → List Function → Sealing
numbering_answer w fs = numbering_from w [] fs

-- ---- the check

-- the first of two answers that refuses
abbrev pub or_next : Sealing → Sealing → Sealing
or_next (Ok tt) next = next
or_next (Err x) next = Err x

-- "It refuses as the site check"
abbrev pub as_checked : Checked → Sealing
as_checked (Ok tt) = Ok tt
as_checked (Err x) = Err (Refused x)

-- the site check of the whole image first; 35 only where no function has 34
unfoldable pub sealing_answer : List ℕ → Sealing
sealing_answer s =
    or_next (as_checked (site_answer s)) (or_next (numbering_answer Activation (functions (cells s))) (numbering_answer Write (functions (cells s))))
