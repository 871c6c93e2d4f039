-- Promise: what cleanup's four sweeps read of an instruction (document 01, module 4).
use Rattle.std.specs.Prelude.{Bool, true, false, ℕ, Option, None, Some}
use Rattle.cells.specs.Ins.{Const, quad, bool, f64, i32, u32, fx, Ins, load, comp, label, jmp, jmp_if, ret, act}

-- Ret or Jmp: the run does not go on to the next cell
abbrev pub terminal : Ins → Bool
terminal (load d v) = false
terminal (comp c o d a b) = false
terminal (label l) = false
terminal (jmp l) = true
terminal (jmp_if c l) = false
terminal (ret s) = true
terminal (act c d b) = false

abbrev pub is_there : Option ℕ → Bool
is_there None = false
is_there (Some l) = true

-- the label that a Jmp goes to
abbrev pub jump_of : Ins → Option ℕ
jump_of (load d v) = None
jump_of (comp c o d a b) = None
jump_of (label l) = None
jump_of (jmp l) = Some l
jump_of (jmp_if c l) = None
jump_of (ret s) = None
jump_of (act c d b) = None

-- the register of a load that may go: of LoadQ, LoadBool, LoadI32, LoadF64 and LoadFx only, with any payload
abbrev pub removable : ℕ → Const → Option ℕ
removable d (quad n) = Some d
removable d (bool b) = Some d
removable d (f64 n) = Some d
removable d (i32 n) = Some d
removable d (u32 n) = None
removable d (fx n) = Some d

abbrev pub removable_load : Ins → Option ℕ
removable_load (load d v) = removable d v
removable_load (comp c o d a b) = None
removable_load (label l) = None
removable_load (jmp l) = None
removable_load (jmp_if c l) = None
removable_load (ret s) = None
removable_load (act c d b) = None
