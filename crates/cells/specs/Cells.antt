-- Promise: a list of bytes as cells of 16, and cells as bytes. What is left of a list that does not come out even is no cell.
use Rattle.std.specs.Prelude.{ℕ, zero, suc, ◌*◌, ◌/◌, ◌≡◌, List, [], ◌∷◌, ◌++◌, length, take, drop}
use Rattle.cells.specs.Lists.{All}

-- a cell by its bytes
abbrev pub Cell : Type 0
Cell = List ℕ

abbrev pub chunks : ℕ → List ℕ → List Cell
chunks zero s = []
chunks (suc n) s = take 16 s ∷ chunks n (drop 16 s)

abbrev pub cells : List ℕ → List Cell
cells s = chunks (length s / 16) s

-- the cell at a position
abbrev pub cell_at : List ℕ → ℕ → Cell
cell_at s k = take 16 (drop (16 * k) s)

-- each has its 16 bytes
abbrev pub Full : List Cell → Type 0
Full cs = All (λ (c : Cell). length c ≡ 16) cs

-- cells one after another
abbrev pub flat : List Cell → List ℕ
flat [] = []
flat (c ∷ cs) = c ++ flat cs

module _ {A : Type 0} where
  -- xs written over the start of ys; the rest of ys stays
  unfoldable pub over : List A → List A → List A
  over xs ys = xs ++ drop (length xs) ys

-- numbers written over the start of a list, and how many
pub record Put (xs before after : List ℕ) (r : ℕ) : Type 0 where
  pub list : after ≡ over xs before
  pub count : r ≡ length xs
