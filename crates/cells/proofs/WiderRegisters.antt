-- The check of an instruction cell with the limit of registers as a parameter. At today's limit it is today's check; below a lower one, as
-- document 01's 256, it answers as today, or refused 4.
use mathlib.Core.Path.{◌≡◌, refl, sym, ap, ap₂, ◌∙◌}
use mathlib.Core.Logic.{◌⊎◌, inl, inr}
use mathlib.Core.Bool.{Bool, true, false, cond, ◌&&◌}
use mathlib.Core.List.{List, [], ◌∷◌}
use Prim.Native.Nat.{ℕ, ◌+◌, ◌≤◌}
use native.Mathlib.Omega.{arith}
use borrow.Author.Tests.{ltb-true, lt-ltb}
use lib.Dec.{ltb}
use lib.ListN.{drop}
use Rattle.cells.specs.Answers.{or_else, unless}
use Rattle.cells.specs.Bytes.{byte, half, zeros}
use Rattle.cells.specs.Cells.{Cell}
use Rattle.cells.specs.Check.{registers, present, operand_ok, operands_ok, is_command, instruction_check}
use Rattle.cells.specs.Table.{row_of, width_of}
use Rattle.cells.specs.declared.table.Kind.{Kind}
use Rattle.cells.specs.declared.table.Kind.TheVariants.{Reg, OptReg, Flag, Quad, Two, Four, Eight, Site}
use Rattle.cells.specs.declared.refusal.Refusal.{Refusal}
use Rattle.cells.specs.declared.refusal.Refusal.TheVariants.{UnknownCommand, Operand}
use Rattle.cells.proofs.Answers.{refused-good}
use Rattle.cells.proofs.Facts.{by_test, and_true}
use Rattle.std.specs.Prelude.{Ok, Err}
use Rattle.cells.specs.Checked.{Checked}

-- ---- with a limit

abbrev pub operand_below : ℕ → Kind → Cell → ℕ → Bool
operand_below limit Reg c at = ltb (half c at) limit
operand_below limit OptReg c at = present (byte c at) (half c (at + 1)) && ltb (half c (at + 1)) limit
operand_below limit Flag c at = operand_ok Flag c at
operand_below limit Quad c at = operand_ok Quad c at
operand_below limit Two c at = operand_ok Two c at
operand_below limit Four c at = operand_ok Four c at
operand_below limit Eight c at = operand_ok Eight c at
operand_below limit Site c at = operand_ok Site c at

abbrev pub operands_below : ℕ → List Kind → Cell → ℕ → Bool
operands_below limit [] c at = zeros (drop at c)
operands_below limit (k ∷ ks) c at = operand_below limit k c at && operands_below limit ks c (at + width_of k)

abbrev pub instruction_below : ℕ → ℕ → ℕ → Cell → Checked
instruction_below limit position d c =
    cond (is_command c) (unless (operands_below limit (row_of (byte c 0)) c 1) (Operand position d)) (Err (UnknownCommand position d))

-- ---- at today's

operand_today : (k : Kind) (c : Cell) (at : ℕ) → operand_below registers k c at ≡ operand_ok k c at
operand_today Reg c at = refl
operand_today OptReg c at = refl
operand_today Flag c at = refl
operand_today Quad c at = refl
operand_today Two c at = refl
operand_today Four c at = refl
operand_today Eight c at = refl
operand_today Site c at = refl

operands_today : (ks : List Kind) (c : Cell) (at : ℕ) → operands_below registers ks c at ≡ operands_ok ks c at
operands_today [] c at = refl
operands_today (k ∷ ks) c at = ap₂ (λ (a b : Bool). a && b) (operand_today k c at) (operands_today ks c (at + width_of k))

pub instruction_today : (position d : ℕ) (c : Cell) → instruction_below registers position d c ≡ instruction_check position d c
unfolding instruction_check
instruction_today position d c = ap (λ (b : Bool). cond (is_command c) (unless b (Operand position d)) (Err (UnknownCommand position d))) (operands_today (row_of (byte c 0)) c 1)

-- ---- below a lower one

-- the same answer, or 4 before
abbrev pub AsBefore : Checked → Checked → Type 0
AsBefore before now = (before ≡ now) ⊎ ((position : ℕ) × (d : ℕ) × (before ≡ Err (Operand position d)))

-- of two checks one after another
pub or_as_before : (a a' b b' : Checked) → AsBefore a a' → AsBefore b b' → AsBefore (or_else a b) (or_else a' b')
or_as_before (Ok tt) a' b b' (inl e) (inl g) = inl (g ∙ ap (λ (r : Checked). or_else r b') e)
or_as_before (Ok tt) a' b b' (inl e) (inr q) = inr q
or_as_before (Ok tt) a' b b' (inr (p, d, e)) h = absurd (refused-good (sym e))
or_as_before (Err x) a' b b' (inl e) h = inl (ap (λ (r : Checked). or_else r b') e)
or_as_before (Err x) a' b b' (inr q) h = inr q

-- behind a test
pub test_as_before : (t : Bool) (a a' : Checked) (x : Refusal) → AsBefore a a' → AsBefore (cond t a (Err x)) (cond t a' (Err x))
test_as_before true a a' x h = h
test_as_before false a a' x h = inl refl

module _ (limit : ℕ) (lower : limit ≤ registers) where
  operand_wider : (k : Kind) (c : Cell) (at : ℕ) → operand_below limit k c at ≡ true → operand_ok k c at ≡ true
  operand_wider Reg c at e = lt-ltb (half c at) registers (omega (arith, ltb-true (half c at) limit e, lower))
  operand_wider OptReg c at e =
      let t = and_true (present (byte c at) (half c (at + 1))) (ltb (half c (at + 1)) limit) e in
      rw t.0 (lt-ltb (half c (at + 1)) registers (omega (arith, ltb-true (half c (at + 1)) limit t.1, lower)))
  operand_wider Flag c at e = e
  operand_wider Quad c at e = e
  operand_wider Two c at e = e
  operand_wider Four c at e = e
  operand_wider Eight c at e = e
  operand_wider Site c at e = e

  operands_wider : (ks : List Kind) (c : Cell) (at : ℕ) → operands_below limit ks c at ≡ true → operands_ok ks c at ≡ true
  operands_wider [] c at e = e
  operands_wider (k ∷ ks) c at e =
      let t = and_true (operand_below limit k c at) (operands_below limit ks c (at + width_of k)) e in
      rw (operand_wider k c at t.0, operands_wider ks c (at + width_of k) t.1)

  pub instruction_as_before : (position d : ℕ) (c : Cell) → AsBefore (instruction_below limit position d c) (instruction_check position d c)
  unfolding instruction_check
  instruction_as_before position d c = by_test (is_command c)
      (λ y. by_test (operands_below limit (row_of (byte c 0)) c 1)
      (λ z. inl (rw (y, z, operands_wider (row_of (byte c 0)) c 1 z)))
      (λ z. inr (position, d, rw (y, z))))
      (λ y. inl (rw y))
