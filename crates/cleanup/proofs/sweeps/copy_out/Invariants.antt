-- `cleanup::sweeps::copy_out` meets its contract.
use mathlib.Core.List.{map}
use lib.ListN.{take}
use Rattle.cells.specs.Cells.{cell_at}
use Rattle.cleanup.proofs.Writing.{Writing}
use Rattle.cleanup.proofs.sweeps.copy_out.Given as goal

abbrev pub invariant-loop-i : goal.invariant-loop-i
invariant-loop-i l = Writing l.initial.out l.out (map (cell_at l.code) (take l.i l.list)) l.i
