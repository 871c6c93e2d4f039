-- What a cell does to the fold, by its command.
use Rattle.std.specs.Prelude.{None, Some}
use mathlib.Core.Path.{◌≡◌, refl, ap}
use mathlib.Core.Bool.{Bool, true, false, cond}
use Prim.Native.Nat.{ℕ, ◌<◌}
use Rattle.cells.specs.Bytes.{byte}
use Rattle.cells.specs.Cells.{Cell}
use Rattle.cells.specs.Table.{class_of}
use Rattle.cells.specs.Check.{registers}
use Rattle.cells.specs.Ins.{Const, Ins, load, comp, label, jmp, jmp_if, ret, act}
use Rattle.cells.specs.View.{view, view_as, Registers}
use Rattle.cells.specs.declared.table.Class.{Class}
use Rattle.machine.specs.Values.{value_of}
use Rattle.crystalfold.specs.Rules.{Rules, fold₂}
use Rattle.crystalfold.specs.Fold.{Table, unknown, note, folded_to, dst_of, known_after}
use Rattle.crystalfold.specs.declared.command.Command.{Command}
use Rattle.crystalfold.specs.declared.command.Command.TheVariants.{Barrier, Load, Compute, Forget, Other}
use Rattle.crystalfold.specs.Commands.{command_in, command_of, forgetting}

pub by_class : (c : Cell) {k : Class} → k ≡ class_of (byte c 0) → command_in (view_as k c) ≡ command_of c
unfolding command_of view
by_class c e = ap (λ (k : Class). command_in (view_as k c)) e

pub forget-optional : (t : Bool) (d : ℕ) → forgetting (cond t None (Some d)) ≡ cond t Other (Forget d)
forget-optional true d = refl
forget-optional false d = refl

-- what an instruction of a command is folded to, and what is known after it
abbrev pub Effect : Rules → Table → Ins → Command → Type 0
Effect f t i Barrier = (folded_to f t i ≡ None) × (known_after f t i ≡ unknown)
Effect f t i (Load d v) = (folded_to f t i ≡ None) × ((k : Const) × (value_of k ≡ v) × (known_after f t i ≡ note d (Some k) t))
Effect f t i (Compute o d a b) = (folded_to f t i ≡ fold₂ (f o) (t a) (t b)) × (dst_of i ≡ d) × (known_after f t i ≡ note d (fold₂ (f o) (t a) (t b)) t)
Effect f t i (Forget d) = (folded_to f t i ≡ None) × (known_after f t i ≡ note d None t)
Effect f t i Other = (folded_to f t i ≡ None) × (known_after f t i ≡ t)

pub effect : (f : Rules) (t : Table) (i : Ins) → Effect f t i (command_in i)
effect f t (load d v) = (refl, (v, refl, refl))
effect f t (comp c o d a b) = (refl, refl, refl)
effect f t (label l) = (refl, refl)
effect f t (jmp l) = (refl, refl)
effect f t (jmp_if c l) = (refl, refl)
effect f t (ret s) = (refl, refl)
effect f t (act c None true) = (refl, refl)
effect f t (act c None false) = (refl, refl)
effect f t (act c (Some d) true) = (refl, refl)
effect f t (act c (Some d) false) = (refl, refl)

-- a command's registers are in the table
abbrev pub Within : Command → Type 0
Within Barrier = Unit {0}
Within (Load d v) = d < registers
Within (Compute o d a b) = (d < registers) × (a < registers) × (b < registers)
Within (Forget d) = d < registers
Within Other = Unit {0}

pub within : (i : Ins) → Registers i → Within (command_in i)
within (load d v) h = h
within (comp c o d a b) h = h
within (label l) h = tt
within (jmp l) h = tt
within (jmp_if c l) h = tt
within (ret s) h = tt
within (act c None true) h = tt
within (act c None false) h = tt
within (act c (Some d) true) h = tt
within (act c (Some d) false) h = h
