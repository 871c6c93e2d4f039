-- Cleanup's count, and the lengths of what it leaves.
use Rattle.std.specs.Prelude.{None}
use mathlib.Core.Path.{◌≡◌}
use mathlib.Core.Bool.{false}
use mathlib.Core.List.{List}
use Prim.Native.Nat.{◌+◌, ◌≤◌}
use native.Mathlib.Omega.{arith}
use lib.ListN.{length}
use Rattle.cells.specs.Cells.{Cell}
use Rattle.cells.specs.Ins.{label_of}
use Rattle.cells.specs.View.{view}
use Rattle.cells.proofs.Lists.{sub_length}
use Rattle.cleanup.specs.Marks.{jump_of, removable_load}
use Rattle.cleanup.specs.Sweeps.{remove_duplicate_consecutive_labels, remove_unreachable_until_label, remove_noop_jumps}
use Rattle.cleanup.specs.Cleanup.{clean_code, clean_events, clean_count}
use Rattle.cleanup.proofs.Sweeping.{sub_dedupe, sub_reach, sub_sweep}
use Rattle.cleanup.proofs.EachLeft.{sub_code, sub_events}

-- cleanup's count is the number of cells removed
pub clean_count_lem : (p : List Cell) → clean_count p + length (clean_code p) ≡ length p
unfolding clean_count clean_code
clean_count_lem p =
    let p₁ : List Cell = remove_duplicate_consecutive_labels view p in
    let p₂ : List Cell = remove_unreachable_until_label view p₁ in
    let p₃ : List Cell = remove_noop_jumps view p₂ in
    omega (arith, sub_length (sub_dedupe view None p), sub_length (sub_reach view false p₁), sub_length (sub_sweep view jump_of label_of p₂), sub_length (sub_sweep view removable_load removable_load p₃))

-- nothing grows
pub shorter : (cs : List Cell) → length (clean_code cs) ≤ length cs
shorter cs = sub_length (sub_code cs)

pub events_fewer : (cs es : List Cell) → length (clean_events cs es) ≤ length es
events_fewer cs es = sub_length (sub_events cs es)
