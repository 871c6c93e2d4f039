-- Promise: an instruction cell by what its run and the passes need of it.
use Rattle.std.specs.Prelude.{Bool, false, ℕ, eqb, Option, None, Some}
use Rattle.leaves.specs.declared.quad.Quad.{Quad}
use Rattle.cells.specs.Cells.{Cell}

-- a constant of one of the six kinds; f64, i32, u32 and Fx by their bits
pub data Const : Type 0 where
  quad : Quad → Const
  bool : Bool → Const
  f64 : ℕ → Const
  i32 : ℕ → Const
  u32 : ℕ → Const
  fx : ℕ → Const

-- load dst val · comp cell command dst lhs rhs, a computed command (rhs is lhs where there is one operand only) · label name · jmp label ·
-- jmp_if cond label · ret src · act cell dst barrier, an outside action. What may act outside keeps its cell, which a record shows
pub data Ins : Type 0 where
  load : ℕ → Const → Ins
  comp : Cell → ℕ → ℕ → ℕ → ℕ → Ins
  label : ℕ → Ins
  jmp : ℕ → Ins
  jmp_if : ℕ → ℕ → Ins
  ret : Option ℕ → Ins
  act : Cell → Option ℕ → Bool → Ins

-- the name of a Label
abbrev pub label_of : Ins → Option ℕ
label_of (load d v) = None
label_of (comp c o d a b) = None
label_of (label l) = Some l
label_of (jmp l) = None
label_of (jmp_if c l) = None
label_of (ret s) = None
label_of (act c d b) = None

-- two numbers are there, and equal
abbrev pub alike : Option ℕ → Option ℕ → Bool
alike None m = false
alike (Some k) None = false
alike (Some k) (Some l) = eqb k l
