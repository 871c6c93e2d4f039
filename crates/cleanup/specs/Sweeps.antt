-- Promise: cleanup's four sweeps, each from left to right (document 01, module 4), over cells of any form: `see` says what a cell is. The code has them
-- at positions, an image at 16 bytes, and the runs at `Ins` itself.
use Rattle.std.specs.Prelude.{Bool, false, cond, ◌&&◌, not, List, [], ◌∷◌, ℕ, Option, None}
use Rattle.cells.specs.Ins.{Ins, label_of, alike}
use Rattle.cleanup.specs.Marks.{terminal, is_there, jump_of, removable_load}

-- a sweep: a cell goes by a state, by what it is and by the cells behind it; each cell that stays sets the state
module _ {C S : Type 0} (goes : S → C → List C → Bool) (after : C → S) where
  -- what stays
  abbrev pub remaining : S → List C → List C
  remaining s [] = []
  remaining s (c ∷ p) = cond (goes s c p) (remaining s p) (c ∷ remaining (after c) p)

  -- what goes
  abbrev pub removing : S → List C → List C
  removing s [] = []
  removing s (c ∷ p) = cond (goes s c p) (c ∷ removing s p) (removing (after c) p)

module _ {C : Type 0} (see : C → Ins) where
  -- ---- 1. "a label equal to the one just kept goes": the state is the label just kept, where the cell just kept is one

  abbrev pub same_label : Option ℕ → C → List C → Bool
  same_label k c p = alike k (label_of (see c))

  abbrev pub dedupe : Option ℕ → List C → List C
  dedupe k p = remaining same_label (λ (c : C). label_of (see c)) k p

  abbrev pub remove_duplicate_consecutive_labels : List C → List C
  remove_duplicate_consecutive_labels p = dedupe None p

  abbrev pub duplicate_labels : List C → List C
  duplicate_labels p = removing same_label (λ (c : C). label_of (see c)) None p

  -- ---- 2. "after Ret or Jmp everything up to the next label goes": the state is whether the cell just kept is a Ret or Jmp

  abbrev pub cut_off : Bool → C → Bool
  cut_off b c = b && not (is_there (label_of (see c)))

  abbrev pub reach : Bool → List C → List C
  reach b p = remaining (λ (t : Bool) (c : C) (_ : List C). cut_off t c) (λ (c : C). terminal (see c)) b p

  abbrev pub unreached : Bool → List C → List C
  unreached b p = removing (λ (t : Bool) (c : C) (_ : List C). cut_off t c) (λ (c : C). terminal (see c)) b p

  abbrev pub remove_unreachable_until_label : List C → List C
  remove_unreachable_until_label p = reach false p

  abbrev pub unreachable_cells : List C → List C
  unreachable_cells p = unreached false p

  -- ---- 3 and 4 have no state: a cell goes if f finds a number in it, and g the same number in the next cell

  abbrev pub next : (Ins → Option ℕ) → List C → Option ℕ
  next g [] = None
  next g (c ∷ p) = g (see c)

  abbrev pub same_next : (Ins → Option ℕ) → (Ins → Option ℕ) → Unit {0} → C → List C → Bool
  same_next f g _ c p = alike (f (see c)) (next g p)

  abbrev pub sweep : (Ins → Option ℕ) → (Ins → Option ℕ) → List C → List C
  sweep f g p = remaining (same_next f g) (λ (_ : C). tt) tt p

  abbrev pub swept : (Ins → Option ℕ) → (Ins → Option ℕ) → List C → List C
  swept f g p = removing (same_next f g) (λ (_ : C). tt) tt p

  -- 3. "a Jmp whose next cell is its own label goes"
  abbrev pub remove_noop_jumps : List C → List C
  remove_noop_jumps p = sweep jump_of label_of p

  abbrev pub noop_jumps : List C → List C
  noop_jumps p = swept jump_of label_of p

  -- 4. "a load whose next cell is a load into the same register goes"
  abbrev pub remove_redundant_consecutive_loads : List C → List C
  remove_redundant_consecutive_loads p = sweep removable_load removable_load p

  abbrev pub redundant_loads : List C → List C
  redundant_loads p = swept removable_load removable_load p

  -- all four, in the Rust's order
  abbrev pub cleanup : List C → List C
  cleanup p = remove_redundant_consecutive_loads (remove_noop_jumps (remove_unreachable_until_label (remove_duplicate_consecutive_labels p)))

  -- the cells that the second sweep removes
  abbrev pub removed : List C → List C
  removed p = unreachable_cells (remove_duplicate_consecutive_labels p)
