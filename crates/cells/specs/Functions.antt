-- Promise: the functions of an image: each a head cell, its instruction cells, its event cells (document 01, 'The cell image').
use Rattle.std.specs.Prelude.{ℕ, zero, suc, ◌+◌, ◌/◌, ◌%◌, ◌≡◌, List, [], ◌∷◌, ◌++◌, length, get_or, take, drop, set}
use Rattle.cells.specs.Cells.{Cell, cells}
use Rattle.cells.specs.Check.{code_count, event_count}

pub record Function : Type 0 where
  pub head : Cell
  pub code : List Cell
  pub events : List Cell

-- a function by the bytes of its head and of its two parts
abbrev pub function_of : List ℕ → List ℕ → List ℕ → Function
function_of h code evs = record { head = h; code = cells code; events = cells evs }

-- the function that a head starts, and the cells behind it
abbrev pub function_at : Cell → List Cell → Function
function_at h cs = record { head = h; code = take (code_count h) cs; events = take (event_count h) (drop (code_count h) cs) }

-- how many of the function's cells are there: fewer than the head's counts only where the image ends before
abbrev pub there : Function → ℕ
there f = length f.code + length f.events

-- they are as many as the head says
abbrev pub Counted : Function → Type 0
Counted f = (length f.code ≡ code_count f.head) × (length f.events ≡ event_count f.head)

-- the function whose head is the cell at
abbrev pub function_from : List Cell → ℕ → Function
function_from cs at = function_at (get_or cs at []) (drop (at + 1) cs)

abbrev pub behind : Cell → List Cell → List Cell
behind h cs = drop (code_count h + event_count h) cs

-- at most n functions; as many as there are cells are always enough
abbrev pub split : ℕ → List Cell → List Function
split zero cs = []
split (suc n) [] = []
split (suc n) (h ∷ cs) = function_at h cs ∷ split n (behind h cs)

unfoldable pub functions : List Cell → List Function
functions cs = split (length cs) cs

-- a head with other counts
abbrev pub new_head : Cell → ℕ → ℕ → Cell
new_head h n m = set (set (set (set h 3 (n % 256)) 4 (n / 256)) 5 (m % 256)) 6 (m / 256)

-- a function's cells as they stand in an image
abbrev pub cells_of : Function → List Cell
cells_of f = f.head ∷ (f.code ++ f.events)

abbrev pub cells_of_all : List Function → List Cell
cells_of_all [] = []
cells_of_all (f ∷ fs) = cells_of f ++ cells_of_all fs
