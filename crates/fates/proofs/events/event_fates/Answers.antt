-- `events::event_fates` meets its contract.
use mathlib.Core.Path.{ap, ◌∙◌}
use mathlib.Core.List.{List}
use Rattle.fates.specs.declared.Fate.{Fate}
use native.Mathlib.Omega.{arith}
use lib.ListN.{length-take}
use Rattle.cells.specs.Cells.{cells, over}
use Rattle.cells.proofs.Going.{put_first, put_room}
use Rattle.fates.proofs.Sparing.{by-gathered}
use Rattle.fates.proofs.events.event_fates.Goals as goal

pub slice_bounds-activations-end : goal.slice_bounds-activations-end
slice_bounds-activations-end c = put_room c.removed_sites-a.ensures

pub slice_bounds-by_sites-end : goal.slice_bounds-by_sites-end
slice_bounds-by_sites-end c = omega (arith, put_room c.removed_sites-a.ensures, length-take c.removed_sites-a.result c.removed_sites-a.new.list)

pub slice_bounds-writes-end : goal.slice_bounds-writes-end
slice_bounds-writes-end c = put_room c.removed_sites-w.ensures

pub slice_bounds-by_sites-end-2 : goal.slice_bounds-by_sites-end-2
slice_bounds-by_sites-end-2 c = omega (arith, put_room c.removed_sites-w.ensures, length-take c.removed_sites-w.result c.removed_sites-w.new.list)

pub returns : goal.returns
returns c =
    let q = c.args in
    c.by_sites.ensures ∙ ap (λ (xs : List Fate). over xs q.fates.now) (by-gathered (cells q.code.now) (cells q.events.now) (put_first c.removed_sites-a.ensures) (put_first c.removed_sites-w.ensures))
