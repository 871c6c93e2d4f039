-- `sweeps::sweep_marked` meets its contract.
use mathlib.Core.Path.{◌∙◌, ap}
use mathlib.Core.List.{List}
use Prim.Native.Nat.{ℕ}
use native.Mathlib.Omega.{arith}
use lib.ListN.{length, length-take}
use Rattle.cells.proofs.Going.{put_first, put_room}
use Rattle.cleanup.specs.Reading.{seen_at}
use Rattle.fates.specs.Steps.{marked}
use Rattle.fates.proofs.Marking.{sweep_below}
use Rattle.fates.proofs.sweeps.sweep_marked.Goals as goal

pub mark-requires : goal.mark-requires
mark-requires g c =
    sweep_below (seen_at c.args.code.now) g.S.Rule.goes_of g.S.Rule.after_of c.args.rule (length c.args.fates.now) c.requires.0 c.requires.1 c.sweep-left.ensures

pub slice_bounds-mark-end : goal.slice_bounds-mark-end
slice_bounds-mark-end g c = put_room c.sweep-left.ensures

pub slice_bounds-mark-end-2 : goal.slice_bounds-mark-end-2
slice_bounds-mark-end-2 g c = omega (arith, put_room c.sweep-left.ensures, length-take c.sweep-left.result c.sweep-left.new.list)

pub returns : goal.returns
returns g c =
    record { put = c.sweep-left.ensures; fates_after = c.mark.ensures ∙ ap (λ (p : List ℕ). marked c.args.fate p c.args.fates.now) (put_first c.sweep-left.ensures) }
