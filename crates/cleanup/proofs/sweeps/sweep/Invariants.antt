-- `cleanup::sweeps::sweep` meets its contract.
use mathlib.Core.Path.{◌≡◌}
use lib.ListN.{length, drop}
use Rattle.cells.proofs.Going.{Going}
use Rattle.cleanup.specs.ByState.{seen_next, stays_by}
use Rattle.cleanup.specs.Reading.{seen_at}
use Rattle.cleanup.proofs.sweeps.sweep.Given as goal

abbrev pub invariant-loop-i : goal.invariant-loop-i
invariant-loop-i g l =
    let stays = stays_by (seen_at l.code) g.S.Rule.goes_of g.S.Rule.after_of in
    Going l.initial.list (length l.initial.list) (stays l.fn.rule l.initial.list) (stays l.rule (drop l.i l.initial.list)) l.list l.i l.kept
    × (l.here ≡ seen_next (seen_at l.code) (drop l.i l.initial.list))
