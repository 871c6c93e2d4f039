-- Cells that pass the check: at one position as at any; a load's cell; a head with other counts.
use mathlib.Core.Path.{◌≡◌, refl, sym, ◌∙◌}
use mathlib.Core.Bool.{Bool, true, false}
use mathlib.Core.List.{[], ◌∷◌}
use Prim.Native.Nat.{ℕ, ◌+◌, ◌*◌, ◌/◌, ◌%◌, ◌≤◌, ◌<◌}
use native.Mathlib.Omega.{arith}
use borrow.Author.Tests.{lt-ltb, le-leb}
use lib.Dec.{eqb, ltb, leb}
use lib.ListN.{length, drop}
use Rattle.leaves.specs.Quads.{number_of}
use Rattle.leaves.specs.declared.quad.Quad.{Quad}
use Rattle.leaves.specs.declared.quad.Quad.TheVariants.{N, F, T, S}
use Rattle.cells.specs.Bytes.{byte}
use Rattle.cells.specs.Cells.{Cell}
use Rattle.cells.specs.Check.{registers, max_instructions, max_events, instruction_check, event_check, code_count, event_count, head_check}
use Rattle.cells.specs.Functions.{new_head}
use Rattle.cells.specs.Ins.{Const, quad, bool, f64, i32, u32, fx}
use Rattle.cells.specs.Table.{rows}
use Rattle.cells.specs.View.{bool_number, load_cell}
use Rattle.cells.specs.WellFormed.{InstructionGood, EventGood}
use Rattle.cells.proofs.Checks.{instruction_good, event_good, head-good, four_true, head_fits, head_room}
use Rattle.cells.proofs.Functions.{new_head-counts}
use Rattle.std.specs.Prelude.{Ok}

-- whether a cell passes has nothing to do with its position
pub instruction_anywhere : (p d : ℕ) (c : Cell) → instruction_check p d c ≡ Ok tt → InstructionGood c
instruction_anywhere p d c g q e = (instruction_good q e c).1 ((instruction_good p d c).0 g)

pub event_anywhere : (p d : ℕ) (c : Cell) → event_check p d c ≡ Ok tt → EventGood c
event_anywhere p d c g q e = (event_good q e c).1 ((event_good p d c).0 g)

pub head_anywhere : (p d after : ℕ) (c : Cell) → head_check p d after c ≡ Ok tt → (q e : ℕ) → head_check q e after c ≡ Ok tt
head_anywhere p d after c g q e = (head-good q e after c).1 ((head-good p d after c).0 g)

-- the cell that loads a constant into a register passes, and has 16 bytes
two_bytes : (d : ℕ) → d % 256 + 256 * (d / 256) ≡ d
two_bytes d = omega arith

flag_small : (b : Bool) → ltb (bool_number b) 2 ≡ true
flag_small true = refl
flag_small false = refl

quad_small : (q : Quad) → ltb (number_of q) 4 ≡ true
quad_small N = refl
quad_small F = refl
quad_small T = refl
quad_small S = refl

pub load_good : (d : ℕ) (v : Const) → d < registers → InstructionGood (load_cell d v)
unfolding load_cell instruction_check rows
load_good d (quad q) l p e = rw (two_bytes d, lt-ltb d registers l, quad_small q)
load_good d (bool b) l p e = rw (two_bytes d, lt-ltb d registers l, flag_small b)
load_good d (f64 n) l p e = rw (two_bytes d, lt-ltb d registers l)
load_good d (i32 n) l p e = rw (two_bytes d, lt-ltb d registers l)
load_good d (u32 n) l p e = rw (two_bytes d, lt-ltb d registers l)
load_good d (fx n) l p e = rw (two_bytes d, lt-ltb d registers l)

pub load_length : (d : ℕ) (v : Const) → length (load_cell d v) ≡ 16
unfolding load_cell
load_length d (quad q) = refl
load_length d (bool b) = refl
load_length d (f64 n) = refl
load_length d (i32 n) = refl
load_length d (u32 n) = refl
load_length d (fx n) = refl

-- a head with other counts keeps its first bytes and its spare ones
new_head-kept : (h : Cell) (n m : ℕ) → 7 ≤ length h → (byte (new_head h n m) 0 ≡ byte h 0) × (drop 7 (new_head h n m) ≡ drop 7 h)
new_head-kept [] n m l = absurd (omega arith)
new_head-kept (a ∷ []) n m l = absurd (omega arith)
new_head-kept (a ∷ b ∷ []) n m l = absurd (omega arith)
new_head-kept (a ∷ b ∷ c ∷ []) n m l = absurd (omega arith)
new_head-kept (a ∷ b ∷ c ∷ d ∷ []) n m l = absurd (omega arith)
new_head-kept (a ∷ b ∷ c ∷ d ∷ e ∷ []) n m l = absurd (omega arith)
new_head-kept (a ∷ b ∷ c ∷ d ∷ e ∷ f ∷ []) n m l = absurd (omega arith)
new_head-kept (a ∷ b ∷ c ∷ d ∷ e ∷ f ∷ g ∷ t) n m l = (refl, refl)

-- it passes with room for as many cells, if the counts are within the limits
pub new_head-good : (p d after : ℕ) (h : Cell) → head_check p d after h ≡ Ok tt → 7 ≤ length h → (n m : ℕ) → n ≤ max_instructions → m ≤ max_events
    → (room : ℕ) → n + m ≤ room → (q e : ℕ) → head_check q e room (new_head h n m) ≡ Ok tt
unfolding rows
new_head-good p d after h g l n m u v room r q e =
    let w = (head-good p d after h).0 g in
    let t = four_true (eqb (byte h 0) 0xf0) (leb (code_count h) max_instructions) (leb (event_count h) max_events) (leb (code_count h + event_count h) after) w.0 in
    let (b, s) = new_head-kept h n m l in
    let (x, y) = new_head-counts h n m l in
    (head-good q e room (new_head h n m)).1 (rw (b, x, y, t.0, le-leb n max_instructions u, le-leb m max_events v, le-leb (n + m) room r), rw s w.1)

-- a head that passes does so with more room
pub head_wider : (p d after more : ℕ) (h : Cell) → head_check p d after h ≡ Ok tt → after ≤ more → head_check p d more h ≡ Ok tt
head_wider p d after more h g l =
    let n : ℕ = code_count h + event_count h in
    let (u, v, r) = head_fits p d after h g in
    let s : n ≤ more = omega arith in
    sym (head_room p d h after more (le-leb n after r ∙ sym (le-leb n more s))) ∙ g
