-- Inner: what an instruction is to the fold, with its constants as values: a barrier, a load, a computed command, a command that only writes a
-- register, any other.
use Rattle.std.specs.Prelude.{Bool, cond, ℕ, eqb, Option, None, Some}
use Rattle.cells.specs.Cells.{Cell}
use Rattle.cells.specs.Ins.{Ins, load, comp, label, jmp, jmp_if, ret, act}
use Rattle.cells.specs.View.{view}
use Rattle.machine.specs.Values.{value_of}
use Rattle.crystalfold.specs.declared.command.Command.{Command}
use Rattle.crystalfold.specs.declared.command.Command.TheVariants.{Barrier, Load, Compute, Forget, Other}

-- an outside action: a barrier, or what it does otherwise
abbrev pub acting : Bool → Command → Command
acting b c = cond b Barrier c

abbrev pub forgetting : Option ℕ → Command
forgetting None = Other
forgetting (Some d) = Forget d

-- the same by the presence byte
abbrev pub optional_dst : ℕ → ℕ → Command
optional_dst p d = cond (eqb p 0) Other (Forget d)

abbrev pub command_in : Ins → Command
command_in (load d v) = Load d (value_of v)
command_in (comp c o d a b) = Compute o d a b
command_in (label l) = Barrier
command_in (jmp l) = Barrier
command_in (jmp_if c l) = Barrier
command_in (ret s) = Barrier
command_in (act c d b) = acting b (forgetting d)

unfoldable pub command_of : Cell → Command
command_of c = command_in (view c)
