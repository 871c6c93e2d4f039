-- The records theorem of cleanup.
use Rattle.std.specs.Prelude.{None}
use mathlib.Core.Path.{◌≡◌}
use mathlib.Core.Bool.{false}
use mathlib.Core.List.{List, map}
use Rattle.cells.specs.Cells.{Cell}
use Rattle.cells.specs.Ins.{Ins, label_of}
use Rattle.cells.specs.View.{view}
use Rattle.machine.specs.Records.{SameRecords}
use Rattle.machine.proofs.Growth.{same_trans}
use Rattle.machine.proofs.Jumps.{plain}
use Rattle.cleanup.specs.Marks.{jump_of}
use Rattle.cleanup.specs.Sweeps.{dedupe, reach, sweep, cleanup}
use Rattle.cleanup.specs.Cleanup.{clean_code}
use Rattle.cleanup.specs.Premise.{OnePlace}
use Rattle.cleanup.proofs.Natural.{map-cleanup}
use Rattle.cleanup.proofs.DuplicateLabels.{duplicate_labels-same}
use Rattle.cleanup.proofs.Unreachable.{unreachable-same}
use Rattle.cleanup.proofs.NoopJumps.{noop_jumps-same}
use Rattle.cleanup.proofs.RedundantLoads.{redundant_loads-same}
use Rattle.cleanup.proofs.LabelPlaces.{once}

-- the four sweeps, one after the other
cleanup-same : (P : List Ins) → OnePlace P → SameRecords P (cleanup plain P)
cleanup-same P o =
    let P₁ : List Ins = dedupe plain None P in
    let P₂ : List Ins = reach plain false P₁ in
    let P₃ : List Ins = sweep plain jump_of label_of P₂ in
    same_trans P P₁ (cleanup plain P) (duplicate_labels-same P)
    (same_trans P₁ P₂ (cleanup plain P) (unreachable-same P₁)
    (same_trans P₂ P₃ (cleanup plain P) (noop_jumps-same P₂ (once P o)) (redundant_loads-same P₃)))

-- of a function's cells
pub view_clean : (cs : List Cell) → map view (clean_code cs) ≡ cleanup plain (map view cs)
unfolding clean_code
view_clean cs = map-cleanup plain view cs

pub cleanup_records : (cs : List Cell) → OnePlace (map view cs) → SameRecords (map view cs) (map view (clean_code cs))
cleanup_records cs o = rw (view_clean cs) (cleanup-same (map view cs) o)
