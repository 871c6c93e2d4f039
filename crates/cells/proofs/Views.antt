-- Laws of the view of a cell: the cell that loads a constant is viewed as that load, the registers of a good cell are below the limit, and a good
-- head or event is viewed as a barrier.
use mathlib.Core.Path.{◌≡◌, refl, ap, ap₂, sym, ◌∙◌}
use mathlib.Core.Bool.{Bool, true, false, false≢true, cond, ◌&&◌}
use mathlib.Core.List.{List, [], ◌∷◌}
use Prim.Native.Nat.{ℕ, zero, suc, ◌+◌, ◌*◌, ◌/◌, ◌%◌, ◌≤◌, ◌<◌}
use native.Mathlib.Omega.{arith}
use borrow.Author.Tests.{ltb-true, leb-true, eqb-true}
use lib.Dec.{eqb, ltb, leb}
use Rattle.leaves.specs.Quads.{quad_of}
use Rattle.leaves.specs.declared.quad.Quad.TheVariants.{N, F, T, S}
use Rattle.cells.specs.Bytes.{byte, half}
use Rattle.cells.specs.Cells.{Cell}
use Rattle.cells.specs.Check.{registers, present, operand_ok, operands_ok, instruction_check, event_check, head_check, code_count, event_count, max_instructions, max_events}
use Rattle.cells.specs.Ins.{Const, quad, bool, f64, i32, u32, fx, load, act}
use Rattle.cells.specs.View.{optional, view_as, view, load_cell, Below, Registers}
use Rattle.cells.specs.Table.{Row, row, rows, row_at, row_of, class_of, width_of}
use Rattle.cells.specs.RowNumbers.{kind_of}
use Rattle.cells.specs.RowNumbers.{kind_number}
use Rattle.cells.specs.declared.table.Kind.{Kind}
use Rattle.cells.specs.declared.table.Kind.TheVariants.{Reg, OptReg}
use Rattle.cells.specs.declared.table.Class.{Class}
use Rattle.cells.specs.declared.table.Class.TheVariants.{NoCommand, LoadQ, LoadBool, LoadF64, LoadI32, LoadU32, LoadFx, Unary, Binary, Label, Jmp, JmpIf, Ret, Act, ActDst, ActOptDst}
use Rattle.cells.proofs.Every.{at_any}
use Rattle.cells.proofs.Facts.{and_true, of_T}
use Rattle.cells.proofs.Rows.{kind_of_number, no_class}
use Rattle.cells.proofs.Checks.{instruction_good, event_good, head-good, four_true}
use Rattle.std.specs.Prelude.{Ok, None, Some}

-- ---- a load cell

-- the bytes of a number read back as it
two_back : (n : ℕ) → n % 256 + 256 * (n / 256) ≡ n
two_back n = omega arith

four_back : (n : ℕ) → n % 256 + 256 * (n / 256 % 256) + 65536 * (n / 256 / 256 % 256 + 256 * (n / 256 / 256 / 256)) ≡ n
four_back n = omega arith

pub view_load : (d : ℕ) (v : Const) → view (load_cell d v) ≡ load d v
unfolding view load_cell class_of rows quad_of
view_load d (quad N) = ap (λ (e : ℕ). load e (quad N)) (two_back d)
view_load d (quad F) = ap (λ (e : ℕ). load e (quad F)) (two_back d)
view_load d (quad T) = ap (λ (e : ℕ). load e (quad T)) (two_back d)
view_load d (quad S) = ap (λ (e : ℕ). load e (quad S)) (two_back d)
view_load d (bool true) = ap (λ (e : ℕ). load e (bool true)) (two_back d)
view_load d (bool false) = ap (λ (e : ℕ). load e (bool false)) (two_back d)
view_load d (f64 n) = ap₂ (λ (e m : ℕ). load e (f64 m)) (two_back d) (omega arith)
view_load d (i32 n) = ap₂ (λ (e m : ℕ). load e (i32 m)) (two_back d) (four_back n)
view_load d (u32 n) = ap₂ (λ (e m : ℕ). load e (u32 m)) (two_back d) (four_back n)
view_load d (fx n) = ap₂ (λ (e m : ℕ). load e (fx m)) (two_back d) (four_back n)

-- ---- the registers of a good cell

-- the operands with which a class's rows start: those that its view reads as registers
registers_of : Class → List Kind
registers_of NoCommand = []
registers_of LoadQ = Reg ∷ []
registers_of LoadBool = Reg ∷ []
registers_of LoadF64 = Reg ∷ []
registers_of LoadI32 = Reg ∷ []
registers_of LoadU32 = Reg ∷ []
registers_of LoadFx = Reg ∷ []
registers_of Unary = Reg ∷ Reg ∷ []
registers_of Binary = Reg ∷ Reg ∷ Reg ∷ []
registers_of Label = []
registers_of Jmp = []
registers_of JmpIf = Reg ∷ []
registers_of Ret = OptReg ∷ []
registers_of Act = []
registers_of ActDst = Reg ∷ []
registers_of ActOptDst = OptReg ∷ []

starts : List Kind → List Kind → Bool
starts [] ls = true
starts (k ∷ ks) [] = false
starts (k ∷ ks) (l ∷ ls) = eqb (kind_number k) (kind_number l) && starts ks ls

-- the operands one after another, each right
Right : List Kind → Cell → ℕ → Type 0
Right [] c at = Unit {0}
Right (k ∷ ks) c at = (operand_ok k c at ≡ true) × Right ks c (at + width_of k)

same_kind : (k l : Kind) → eqb (kind_number k) (kind_number l) ≡ true → l ≡ k
same_kind k l e = sym (kind_of_number l) ∙ ap kind_of (sym (eqb-true _ _ e)) ∙ kind_of_number k

starts_right : (ks ls : List Kind) (c : Cell) (at : ℕ) → starts ks ls ≡ true → operands_ok ls c at ≡ true → Right ks c at
unfolding starts Right
starts_right [] ls c at s o = tt
starts_right (k ∷ ks) [] c at s o = absurd (false≢true s)
starts_right (k ∷ ks) (l ∷ ls) c at s o =
    let t = and_true (eqb (kind_number k) (kind_number l)) (starts ks ls) s in
    let e = same_kind k l t.0 in
    let q = and_true (operand_ok l c at) (operands_ok ls c (at + width_of l)) o in (
      ap (λ (m : Kind). operand_ok m c at) (sym e) ∙ q.0,
      starts_right ks ls c (at + width_of k) t.1 (ap (λ (m : Kind). operands_ok ls c (at + width_of m)) (sym e) ∙ q.1),
    )

-- every row starts so
row_starts : ℕ → Row → Bool
row_starts n r = starts (registers_of r.class) r.operands

rows_start : (n : ℕ) → n < 84 → starts (registers_of (class_of n)) (row_of n) ≡ true
unfolding rows row_starts class_of starts registers_of
rows_start n h = of_T (starts (registers_of (row_at n).class) (row_of n)) (at_any (row NoCommand []) row_starts rows tt n h)

below_some : (t : Bool) (r : ℕ) → r < registers → Below (cond t None (Some r))
below_some true r h = tt
below_some false r h = h

below_optional : (c : Cell) → Right (OptReg ∷ []) c 1 → Below (optional c)
unfolding Right
below_optional c r =
    let h : half c 2 < registers = ltb-true _ _ (and_true (present (byte c 1) (half c 2)) (ltb (half c 2) registers) r.0).1 in
    below_some (eqb (byte c 1) 0) (half c 2) h

class_registers : (k : Class) (c : Cell) → Right (registers_of k) c 1 → Registers (view_as k c)
unfolding Right registers_of
class_registers NoCommand c r = tt
class_registers LoadQ c r = ltb-true _ _ r.0
class_registers LoadBool c r = ltb-true _ _ r.0
class_registers LoadF64 c r = ltb-true _ _ r.0
class_registers LoadI32 c r = ltb-true _ _ r.0
class_registers LoadU32 c r = ltb-true _ _ r.0
class_registers LoadFx c r = ltb-true _ _ r.0
class_registers Unary c r = (ltb-true _ _ r.0, ltb-true _ _ r.1.0, ltb-true _ _ r.1.0)
class_registers Binary c r = (ltb-true _ _ r.0, ltb-true _ _ r.1.0, ltb-true _ _ r.1.1.0)
class_registers Label c r = tt
class_registers Jmp c r = tt
class_registers JmpIf c r = ltb-true _ _ r.0
class_registers Ret c r = below_optional c r
class_registers Act c r = tt
class_registers ActDst c r = ltb-true _ _ r.0
class_registers ActOptDst c r = below_optional c r

pub view-registers : (p d : ℕ) (c : Cell) → instruction_check p d c ≡ Ok tt → Registers (view c)
unfolding view
view-registers p d c g =
    let w = (instruction_good p d c).0 g in
    let n : byte c 0 ≤ 0x51 = leb-true _ _ (and_true (ltb 0 (byte c 0)) (leb (byte c 0) 0x51) w.0).1 in
    let h : byte c 0 < 84 = omega arith in
    class_registers (class_of (byte c 0)) c (starts_right (registers_of (class_of (byte c 0))) (row_of (byte c 0)) c 1 (rows_start (byte c 0) h) w.1)

-- ---- heads and events

of_class : (c : Cell) {k : Class} → class_of (byte c 0) ≡ k → view c ≡ view_as k c
unfolding view
of_class c e = ap (λ (k : Class). view_as k c) e

pub head-view : (p d after : ℕ) (c : Cell) → head_check p d after c ≡ Ok tt → view c ≡ act c None true
head-view p d after c g =
    let t = four_true (eqb (byte c 0) 0xf0) (leb (code_count c) max_instructions) (leb (event_count c) max_events) (leb (code_count c + event_count c) after) ((head-good p d after c).0 g).0 in
    let e : byte c 0 ≡ 0xf0 = eqb-true _ _ t.0 in
    of_class c (ap class_of e ∙ no_class 0xf0 (omega arith))

-- a Borrow event's kind is no command, a Write event's is the number of Assert
pub event_view : (p d : ℕ) (c : Cell) → event_check p d c ≡ Ok tt → view c ≡ act c None true
unfolding class_of rows
event_view p d c g = by_kind (byte c 0) refl (leb-true _ _ ((event_good p d c).0 g).0)
  where
    by_kind : (n : ℕ) → byte c 0 ≡ n → n ≤ 1 → view c ≡ act c None true
    by_kind zero e l = of_class c (ap class_of e)
    by_kind (suc zero) e l = of_class c (ap class_of e) ∙ ap (λ (n : ℕ). act c None (leb n 0x10)) e
    by_kind (suc (suc n)) e l = absurd (omega arith)
