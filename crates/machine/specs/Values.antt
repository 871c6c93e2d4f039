-- Promise: what registers hold (document 01, 'How a function runs'): "Registers hold one of the six constant kinds, an f64 as its bits, or "other" with
-- 64 bits; records are compared by kind and bits". Every number is allowed as bits, so what is claimed of all registers covers more than there
-- are.
use Rattle.std.specs.Prelude.{cond, List, [], ◌∷◌, ℕ, zero, suc, eqb, Option, None, Some}
use Rattle.std.specs.Int.{w32}
use Rattle.std.proofs.Common.{to_z, of_z}
use Rattle.leaves.specs.Float.{float_of, bits_of}
use Rattle.leaves.specs.declared.constant.ConstVal.{ConstVal}
use Rattle.leaves.specs.declared.constant.ConstVal.TheVariants.{Unknown, Quad as QuadV, Bool as BoolV, F64, I32, U32, Fx}
use Rattle.cells.specs.Check.{registers}
use Rattle.cells.specs.Ins.{Const, quad, bool, f64, i32, u32, fx}

pub data Value : Type 0 where
  con : Const → Value
  other : ℕ → Value

-- what each register holds
abbrev pub Regs : Type 0
Regs = ℕ → Value

-- the same with v in register d; "other registers stay"
unfoldable pub set : ℕ → Value → Regs → Regs
set d v r = λ x. cond (eqb x d) v (r x)

-- the same with v in dst, where there is one
unfoldable pub put : Option ℕ → Value → Regs → Regs
put None v r = r
put (Some d) v r = set d v r

-- n registers from x on
abbrev pub registers_from : ℕ → ℕ → Regs → List Value
registers_from x zero r = []
registers_from x (suc n) r = r x ∷ registers_from (suc x) n r

-- "all registers", as an entry of the record shows them: 0 to 1,023
unfoldable pub shown : Regs → List Value
shown r = registers_from 0 registers r

-- the value whose bits a constant has: an i32 or Fx by two's complement, an f64 by IEEE 754, every NaN pattern being the one NaN
abbrev pub value_of : Const → ConstVal
value_of (quad q) = QuadV q
value_of (bool b) = BoolV b
value_of (f64 n) = F64 (float_of n)
value_of (i32 n) = I32 (to_z w32 n)
value_of (u32 n) = U32 n
value_of (fx n) = Fx (to_z w32 n)

-- what a command reads of a register: no value of the six kinds where it holds "other"
abbrev pub operand : Value → ConstVal
operand (con k) = value_of k
operand (other n) = Unknown

-- a value by its bits, as a register holds it and a load writes it; none of a value that isn't known
abbrev pub written_of : ConstVal → Option Const
written_of Unknown = None
written_of (QuadV q) = Some (quad q)
written_of (BoolV b) = Some (bool b)
written_of (F64 x) = Some (f64 (bits_of x))
written_of (I32 z) = Some (i32 (of_z w32 z))
written_of (U32 n) = Some (u32 n)
written_of (Fx z) = Some (fx (of_z w32 z))
