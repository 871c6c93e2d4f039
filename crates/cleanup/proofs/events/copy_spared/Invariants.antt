-- `cleanup::events::copy_spared` meets its contract.
use Rattle.cleanup.proofs.Writing.{Sorting}
use Rattle.cleanup.specs.Receipts.{spared}
use Rattle.cleanup.proofs.events.copy_spared.Given as goal

abbrev pub invariant-loop-i : goal.invariant-loop-i
invariant-loop-i l = Sorting (spared l.activations l.writes) l.events l.initial.out l.out l.i l.kept
