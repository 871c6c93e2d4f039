-- Inner: what the loops of the code run on: the numbers of functions one after another, as one list.
use Rattle.std.specs.Prelude.{ℕ, ◌+◌, List, [], ◌∷◌, ◌++◌, take, Ok, Err}
use Rattle.cells.specs.Functions.{Function}
use Rattle.cells.specs.Lists.{only}
use Rattle.sites.specs.Numbered.{one_of}
use Rattle.sites.specs.declared.Which.{Which}
use Rattle.sealing.specs.Sealing.{numbers_on, repeated_or}
use Rattle.sealing.specs.Answer.{Sealing}
use Rattle.sealing.specs.declared.SealingError.TheVariants.{Refused, Repeated}

abbrev pub numbers_of_all : Which → List Function → List ℕ
numbers_of_all w [] = []
numbers_of_all w (f ∷ fs) = numbers_on w f ++ numbers_of_all w fs

-- the function at a position by its own numbers and those of the earlier functions
abbrev pub repeat_among : Which → ℕ → List ℕ → List ℕ → Sealing
repeat_among w position earlier own = repeated_or w position (only (λ (x : ℕ). one_of x earlier) own) (Ok tt)

-- the numbers that were gathered when the answer was found: those of the functions up to the one that repeats, or of all
abbrev pub gathered : Which → Sealing → List Function → List ℕ
gathered w (Ok tt) fs = numbers_of_all w fs
gathered w (Err (Refused x)) fs = numbers_of_all w fs
gathered w (Err (Repeated v position x)) fs = numbers_of_all w (take (position + 1) fs)
