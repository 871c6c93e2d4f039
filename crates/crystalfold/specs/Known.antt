-- Inner: what is known of each register, by values, and the list of registers written since the last barrier: at every other nothing is known.
use Rattle.std.specs.Prelude.{◌≡◌, ◌⊎◌, List, ℕ, ◌<◌, ◌≤◌, ◌/◌, length, slice_index, slice_index_or}
use Rattle.leaves.specs.declared.constant.ConstVal.{ConstVal}
use Rattle.leaves.specs.declared.constant.ConstVal.TheVariants.{Unknown}
use Rattle.cells.specs.Check.{registers}

-- of no register
pub record NothingKnown (values : List ConstVal) : Type 0 where
  pub at : (r : ℕ) → slice_index_or values r Unknown ≡ Unknown

-- r is the register at one of the places from i up to n
abbrev pub ListedFrom : ℕ → ℕ → List ℕ → ℕ → Type 0
ListedFrom i n list r = (j : ℕ) × (i ≤ j) × (j < n) × (slice_index list j ≡ r)

-- nothing is known of a register that is not listed from i up to n
pub record KnownFrom (i n : ℕ) (list : List ℕ) (values : List ConstVal) : Type 0 where
  pub at : (r : ℕ) → (slice_index_or values r Unknown ≡ Unknown) ⊎ ListedFrom i n list r

-- a list of which n places are taken, for a quarter of the registers. A full one says nothing
pub record Since (list : List ℕ) (n : ℕ) (values : List ConstVal) : Type 0 where
  pub size : registers ≤ length values
  pub few : n ≤ registers / 4
  pub within : (j : ℕ) → j < n → slice_index list j < registers
  pub rest : n < registers / 4 → KnownFrom 0 n list values
