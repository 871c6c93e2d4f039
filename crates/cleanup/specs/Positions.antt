-- Inner: the sweeps over the positions of a function's instruction cells, as the code has them.
use Rattle.std.specs.Prelude.{◌≡◌, List, [], ◌∷◌, ℕ, zero, suc, ◌+◌, ◌/◌, ◌<◌, length}
use Rattle.cells.specs.Cells.{cell_at, over}
use Rattle.cells.specs.Ins.{Ins}
use Rattle.cells.specs.Lists.{All}
use Rattle.cells.specs.View.{view}
use Rattle.cleanup.specs.Sweeps.{remove_duplicate_consecutive_labels, remove_unreachable_until_label, remove_noop_jumps, remove_redundant_consecutive_loads}

-- what the cell at a position is
abbrev pub see_at : List ℕ → ℕ → Ins
see_at s k = view (cell_at s k)

-- n positions from k on
abbrev pub up_from : ℕ → ℕ → List ℕ
up_from k zero = []
up_from k (suc n) = k ∷ up_from (k + 1) n

abbrev pub AllBelow : ℕ → List ℕ → Type 0
AllBelow m ks = All (λ (k : ℕ). k < m) ks

-- all positions, and those that each sweep leaves
abbrev pub every : List ℕ → List ℕ
every s = up_from 0 (length s / 16)

abbrev pub left₁ : List ℕ → List ℕ
left₁ s = remove_duplicate_consecutive_labels (see_at s) (every s)

abbrev pub left₂ : List ℕ → List ℕ
left₂ s = remove_unreachable_until_label (see_at s) (left₁ s)

abbrev pub left₃ : List ℕ → List ℕ
left₃ s = remove_noop_jumps (see_at s) (left₂ s)

abbrev pub left₄ : List ℕ → List ℕ
left₄ s = remove_redundant_consecutive_loads (see_at s) (left₃ s)

-- each is written over the start of the list as the one before left it
abbrev pub swept_list : List ℕ → List ℕ → List ℕ
swept_list s l = over (left₄ s) (over (left₃ s) (over (left₂ s) (over (left₁ s) (over (every s) l))))

pub record Survive (code before after : List ℕ) (r : ℕ) : Type 0 where
  pub list : after ≡ swept_list code before
  pub count : r ≡ length (left₄ code)
