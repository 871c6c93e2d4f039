-- Laws of the check of one cell: what the code's tests say, and what a good cell is.
use mathlib.Core.Path.{◌≡◌, refl}
use mathlib.Core.Logic.{◌↔◌}
use mathlib.Core.List.{List}
use mathlib.Core.Bool.{Bool, true, false, false≢true, cond, ◌&&◌}
use Prim.Native.Nat.{ℕ, ◌+◌, ◌≤◌, ◌<◌}
use native.Mathlib.Omega.{arith}
use native.Mathlib.Numerals.{add-one}
use lib.Dec.{eqb, leb}
use lib.ListN.{length, get_or, drop}
use lib.Seq.{drop-cons}
use borrow.Author.Tests.{lt-ltb, lt-leb, le-leb, ne_eqb, leb-true}
use Rattle.cells.specs.Bytes.{byte, zeros}
use Rattle.cells.specs.Cells.{Cell}
use Rattle.cells.specs.Answers.{unless}
use Rattle.cells.specs.Table.{rows, event_row, head_row}
use Rattle.cells.specs.Check.{row_ok, is_command, is_event_kind, is_head, instruction_check, event_check, head_check, code_count, event_count, max_instructions, max_events}
use Rattle.cells.specs.declared.refusal.Refusal.{Refusal}
use Rattle.cells.specs.declared.refusal.Refusal.TheVariants.{Head, UnknownCommand, Operand}
use Rattle.cells.proofs.Answers.{test_good, unless-good}
use Rattle.std.specs.Prelude.{Ok, Err}

-- the zeros from i on: the byte at i, and the zeros behind it
pub zeros-step : (c : List ℕ) (i : ℕ) → i < length c → zeros (drop i c) ≡ (eqb (get_or c i 0) 0 && zeros (drop (i + 1) c))
zeros-step c i h = rw (add-one, drop-cons c i 0)

-- ---- by what the code tested

module _ (p d : ℕ) (c : Cell) where
  pub instruction_none : byte c 0 ≡ 0 → Err (UnknownCommand p d) ≡ instruction_check p d c
  unfolding instruction_check
  instruction_none e = simp e

  pub instruction_many : 81 < byte c 0 → Err (UnknownCommand p d) ≡ instruction_check p d c
  unfolding instruction_check
  instruction_many h =
      let n : 0 < byte c 0 = omega arith in
      simp (lt-ltb _ _ n, lt-leb _ _ h)

  pub instruction_row : (b : Bool) → (byte c 0 ≡ 0 → ⊥) → byte c 0 ≤ 81 → b ≡ row_ok (byte c 0) c → unless b (Operand p d) ≡ instruction_check p d c
  unfolding instruction_check
  instruction_row b some small e =
      let n : 0 < byte c 0 = omega arith in
      simp (lt-ltb _ _ n, le-leb _ _ small, e)

  pub event_kind : 1 < byte c 0 → Err (UnknownCommand p d) ≡ event_check p d c
  unfolding event_check
  event_kind h = simp (lt-leb _ _ h)

  pub event_row_lem : (b : Bool) → byte c 0 ≤ 1 → b ≡ row_ok event_row c → unless b (Operand p d) ≡ event_check p d c
  unfolding event_check
  event_row_lem b h e = simp (le-leb _ _ h, e)

  module _ (after : ℕ) where
    pub head_first : (byte c 0 ≡ 0xf0 → ⊥) → Err (Head p d) ≡ head_check p d after c
    unfolding head_check
    head_first h = simp (ne_eqb _ _ h)

    module _ (f : byte c 0 ≡ 0xf0) where
      pub head_code : max_instructions < code_count c → Err (Head p d) ≡ head_check p d after c
      unfolding head_check
      head_code h = simp (f, lt-leb _ _ h)

      pub head_events : code_count c ≤ max_instructions → max_events < event_count c → Err (Head p d) ≡ head_check p d after c
      unfolding head_check
      head_events h k = simp (f, le-leb _ _ h, lt-leb _ _ k)

      pub head_past : code_count c ≤ max_instructions → event_count c ≤ max_events → after < code_count c + event_count c → Err (Head p d) ≡ head_check p d after c
      unfolding head_check
      head_past h k l = simp (f, le-leb _ _ h, le-leb _ _ k, lt-leb _ _ l)

      pub head-row : (b : Bool) → code_count c ≤ max_instructions → event_count c ≤ max_events → code_count c + event_count c ≤ after
          → b ≡ zeros (drop 7 c) → unless b (Operand p d) ≡ head_check p d after c
      unfolding head_check rows
      head-row b h k l e = simp (f, le-leb _ _ h, le-leb _ _ k, le-leb _ _ l, e)

-- ---- what a good cell is, whatever its position

good-cell : (t r : Bool) (x y : Refusal) → (cond t (unless r x) (Err y) ≡ Ok tt) ↔ ((t ≡ true) × (r ≡ true))
good-cell t r x y = (
  (λ e. let g = test_good t (unless r x) y e in (g.0, unless-good r x g.1)),
  (λ e. rw (e.0, e.1)),
)

pub instruction_good : (p d : ℕ) (c : Cell) → (instruction_check p d c ≡ Ok tt) ↔ ((is_command c ≡ true) × (row_ok (byte c 0) c ≡ true))
unfolding instruction_check
instruction_good p d c = good-cell (is_command c) (row_ok (byte c 0) c) (Operand p d) (UnknownCommand p d)

pub event_good : (p d : ℕ) (c : Cell) → (event_check p d c ≡ Ok tt) ↔ ((is_event_kind c ≡ true) × (row_ok event_row c ≡ true))
unfolding event_check
event_good p d c = good-cell (is_event_kind c) (row_ok event_row c) (Operand p d) (UnknownCommand p d)

pub head-good : (p d after : ℕ) (c : Cell) → (head_check p d after c ≡ Ok tt) ↔ ((is_head after c ≡ true) × (row_ok head_row c ≡ true))
unfolding head_check
head-good p d after c = good-cell (is_head after c) (row_ok head_row c) (Operand p d) (Head p d)

-- a good head's counts are within the limits and within the cells behind it
pub four_true : (a b c d : Bool) → (a && b && c && d) ≡ true → (a ≡ true) × (b ≡ true) × (c ≡ true) × (d ≡ true)
four_true true true true d e = (refl, refl, refl, e)
four_true true true false d e = absurd (false≢true e)
four_true true false c d e = absurd (false≢true e)
four_true false b c d e = absurd (false≢true e)

pub head_fits : (p d after : ℕ) (c : Cell) → head_check p d after c ≡ Ok tt
    → (code_count c ≤ max_instructions) × (event_count c ≤ max_events) × (code_count c + event_count c ≤ after)
head_fits p d after c g =
    let t = four_true (eqb (byte c 0) 0xf0) (leb (code_count c) max_instructions) (leb (event_count c) max_events) (leb (code_count c + event_count c) after) ((head-good p d after c).0 g).0 in
    (leb-true _ _ t.1, leb-true _ _ t.2, leb-true _ _ t.3)

-- a head is as right with so many cells behind it as with so many more or fewer, if its own cells have room in both or in neither
pub head_room : (p d : ℕ) (c : Cell) (a b : ℕ) → leb (code_count c + event_count c) a ≡ leb (code_count c + event_count c) b → head_check p d a c ≡ head_check p d b c
unfolding head_check
head_room p d c a b e = rw e
