-- Laws of the table of commands: a row's number gives its class and its operands back, and its operands fit a cell.
use mathlib.Core.Path.{◌≡◌, refl, ap, ◌∙◌}
use mathlib.Core.List.{List, [], ◌∷◌}
use mathlib.Core.Bool.{Bool}
use Prim.Native.Nat.{ℕ, zero, suc, ◌+◌, ◌-◌, ◌/◌, ◌%◌, ◌≤◌, ◌<◌}
use native.Mathlib.Omega.{arith}
use lib.Dec.{leb, leb→le}
use lib.ListN.{get_or-eq_default}
use Rattle.cells.specs.Table.{Row, row, rows, row_at, row_of, class_of, total}
use Rattle.cells.specs.RowNumbers.{row_number}
use Rattle.cells.specs.RowNumbers.{class_at}
use Rattle.cells.specs.RowNumbers.{class_number}
use Rattle.cells.specs.RowNumbers.{packed}
use Rattle.cells.specs.RowNumbers.{kind_of}
use Rattle.cells.specs.RowNumbers.{kind_number}
use Rattle.cells.proofs.Every.{at_any}
use Rattle.cells.specs.declared.table.Kind.{Kind}
use Rattle.cells.specs.declared.table.Kind.TheVariants.{Reg, OptReg, Flag, Quad, Two, Four, Eight, Site}
use Rattle.cells.specs.declared.table.Class.{Class}
use Rattle.cells.specs.declared.table.Class.TheVariants.{NoCommand, LoadQ, LoadBool, LoadF64, LoadI32, LoadU32, LoadFx, Unary, Binary, Label, Jmp, JmpIf, Ret, Act, ActDst, ActOptDst}

-- a class's number stands for it, and is 0 to 15
pub class_of_number : (k : Class) → class_at (class_number k) ≡ k
unfolding class_at
class_of_number NoCommand = refl
class_of_number LoadQ = refl
class_of_number LoadBool = refl
class_of_number LoadF64 = refl
class_of_number LoadI32 = refl
class_of_number LoadU32 = refl
class_of_number LoadFx = refl
class_of_number Unary = refl
class_of_number Binary = refl
class_of_number Label = refl
class_of_number Jmp = refl
class_of_number JmpIf = refl
class_of_number Ret = refl
class_of_number Act = refl
class_of_number ActDst = refl
class_of_number ActOptDst = refl

pub class_range : (k : Class) → class_number k ≤ 15
class_range NoCommand = omega arith
class_range LoadQ = omega arith
class_range LoadBool = omega arith
class_range LoadF64 = omega arith
class_range LoadI32 = omega arith
class_range LoadU32 = omega arith
class_range LoadFx = omega arith
class_range Unary = omega arith
class_range Binary = omega arith
class_range Label = omega arith
class_range Jmp = omega arith
class_range JmpIf = omega arith
class_range Ret = omega arith
class_range Act = omega arith
class_range ActDst = omega arith
class_range ActOptDst = omega arith

-- the class and the operands of a row's number
pub row_class : (r : Row) → class_at (row_number r % 16) ≡ r.class
row_class r =
    let h = class_range r.class in
    let e : row_number r % 16 ≡ class_number r.class = omega arith in
    ap class_at e ∙ class_of_number r.class

pub row_operands : (r : Row) → row_number r / 16 ≡ packed r.operands
row_operands r =
    let h = class_range r.class in
    omega arith

pub class_is : (n : ℕ) → class_at (row_number (row_at n) % 16) ≡ class_of n
unfolding class_of
class_is n = row_class (row_at n)

-- no byte above 51 is a command
no_row : (m : ℕ) → class_of (82 + m) ≡ NoCommand
unfolding class_of rows
no_row zero = refl
no_row (suc zero) = refl
no_row (suc (suc m)) =
    let h : 84 ≤ 82 + suc (suc m) = omega arith in
    ap (λ (r : Row). r.class) (get_or-eq_default rows (row NoCommand []) h)

pub no_class : (n : ℕ) → 82 ≤ n → class_of n ≡ NoCommand
no_class n h =
    let e : n ≡ 82 + (n - 82) = omega arith in
    ap class_of e ∙ no_row (n - 82)

-- a kind's number stands for it, and is 1 to 15
pub kind_of_number : (k : Kind) → kind_of (kind_number k) ≡ k
unfolding kind_of
kind_of_number Reg = refl
kind_of_number OptReg = refl
kind_of_number Flag = refl
kind_of_number Quad = refl
kind_of_number Two = refl
kind_of_number Four = refl
kind_of_number Eight = refl
kind_of_number Site = refl

pub kind_range : (k : Kind) → (1 ≤ kind_number k) × (kind_number k ≤ 15)
kind_range Reg = omega arith
kind_range OptReg = omega arith
kind_range Flag = omega arith
kind_range Quad = omega arith
kind_range Two = omega arith
kind_range Four = omega arith
kind_range Eight = omega arith
kind_range Site = omega arith

-- the first operand of packed ones, and the rest of them
pub packed-first : (k : Kind) (ks : List Kind) → kind_of (packed (k ∷ ks) % 16) ≡ k
packed-first k ks =
    let r = kind_range k in
    let e : packed (k ∷ ks) % 16 ≡ kind_number k = omega arith in
    ap kind_of e ∙ kind_of_number k

pub packed-rest : (k : Kind) (ks : List Kind) → packed (k ∷ ks) / 16 ≡ packed ks
packed-rest k ks =
    let r = kind_range k in
    omega arith

pub packed_some : (k : Kind) (ks : List Kind) → packed (k ∷ ks) ≡ 0 → ⊥
packed_some k ks e =
    let r = kind_range k in
    omega arith

-- every row's operands fit a cell behind its first byte
fits_row : ℕ → Row → Bool
fits_row k r = leb (1 + total r.operands) 16

pub row_fits : (k : ℕ) → k < 84 → 1 + total (row_of k) ≤ 16
unfolding rows fits_row
row_fits k h = leb→le (1 + total (row_of k)) 16 (at_any (row NoCommand []) fits_row rows tt k h)
