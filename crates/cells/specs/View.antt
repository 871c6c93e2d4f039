-- Promise: what an instruction cell is, by the table of commands; and the cell that loads a constant.
use Rattle.std.specs.Prelude.{Bool, true, false, cond, not, ◌∷◌, ◌++◌, ℕ, ◌-◌, ◌<◌, eqb, leb, replicate, Option, Some, None}
use Rattle.leaves.specs.Quads.{number_of, quad_of}
use Rattle.leaves.specs.declared.quad.Quad.{Quad}
use Rattle.leaves.specs.declared.quad.Quad.TheVariants.{S}
use Rattle.cells.specs.Bytes.{byte, half, word, long, bytes}
use Rattle.cells.specs.Cells.{Cell}
use Rattle.cells.specs.Ins.{Const, quad, bool, f64, i32, u32, fx, Ins, load, comp, label, jmp, jmp_if, ret, act}
use Rattle.cells.specs.Table.{class_of}
use Rattle.cells.specs.Check.{registers}
use Rattle.cells.specs.declared.table.Class.{Class}
use Rattle.cells.specs.declared.table.Class.TheVariants.{NoCommand, LoadQ, LoadBool, LoadF64, LoadI32, LoadU32, LoadFx, Unary, Binary, Label, Jmp, JmpIf, Ret, Act, ActDst, ActOptDst}

-- a quad by its number; a number above 3, which the cell check refuses, is read as S
abbrev pub read_quad : Option Quad → Quad
read_quad (Some q) = q
read_quad None = S

-- the register behind a presence byte
abbrev pub optional : Cell → Option ℕ
optional c = cond (eqb (byte c 1) 0) None (Some (half c 2))

-- commands 01 to 10 are the barriers
abbrev pub barrier : Cell → Bool
barrier c = leb (byte c 0) 0x10

-- What is no command never passes the check of an instruction cell. It is read as a barrier: so a fold over all cells of an image leaves its
-- heads and events as they are, and knows nothing behind a head
abbrev pub view_as : Class → Cell → Ins
view_as NoCommand c = act c None true
view_as LoadQ c = load (half c 1) (quad (read_quad (quad_of (byte c 3))))
view_as LoadBool c = load (half c 1) (bool (not (eqb (byte c 3) 0)))
view_as LoadF64 c = load (half c 1) (f64 (long c 3))
view_as LoadI32 c = load (half c 1) (i32 (word c 3))
view_as LoadU32 c = load (half c 1) (u32 (word c 3))
view_as LoadFx c = load (half c 1) (fx (word c 3))
view_as Unary c = comp c (byte c 0) (half c 1) (half c 3) (half c 3)
view_as Binary c = comp c (byte c 0) (half c 1) (half c 3) (half c 5)
view_as Label c = label (half c 1)
view_as Jmp c = jmp (half c 1)
view_as JmpIf c = jmp_if (half c 1) (half c 3)
view_as Ret c = ret (optional c)
view_as Act c = act c None (barrier c)
view_as ActDst c = act c (Some (half c 1)) (barrier c)
view_as ActOptDst c = act c (optional c) (barrier c)

-- what a cell is
unfoldable pub view : Cell → Ins
view c = view_as (class_of (byte c 0)) c

-- ---- the cell that loads a constant

abbrev pub bool_number : Bool → ℕ
bool_number true = 1
bool_number false = 0

-- a command, dst in 2 bytes, a number in w bytes, and zeros
abbrev pub load_bytes : ℕ → ℕ → ℕ → ℕ → Cell
load_bytes command d w n = command ∷ bytes 2 d ++ bytes w n ++ replicate (13 - w) 0

unfoldable pub load_cell : ℕ → Const → Cell
load_cell d (quad q) = load_bytes 0x2C d 1 (number_of q)
load_cell d (bool b) = load_bytes 0x28 d 1 (bool_number b)
load_cell d (f64 n) = load_bytes 0x29 d 8 n
load_cell d (i32 n) = load_bytes 0x2B d 4 n
load_cell d (u32 n) = load_bytes 0x2E d 4 n
load_cell d (fx n) = load_bytes 0x2A d 4 n

-- ---- the registers that a cell names are below the limit

abbrev pub Below : Option ℕ → Type 0
Below None = Unit {0}
Below (Some r) = r < registers

abbrev pub Registers : Ins → Type 0
Registers (load d v) = d < registers
Registers (comp c o d a b) = (d < registers) × (a < registers) × (b < registers)
Registers (label l) = Unit {0}
Registers (jmp l) = Unit {0}
Registers (jmp_if c l) = c < registers
Registers (ret s) = Below s
Registers (act c d b) = Below d
