-- Cleanup leaves some of a function's cells and events, and none of its cells only if it was sent empty.
use mathlib.Core.Path.{◌≡◌, refl, ap}
use mathlib.Core.List.{List, [], ◌∷◌}
use Prim.Native.Nat.{◌≤◌}
use native.Mathlib.Omega.{arith}
use lib.ListN.{length}
use Rattle.cells.specs.Cells.{Cell}
use Rattle.cells.specs.Ins.{label_of}
use Rattle.cells.specs.View.{view}
use Rattle.cells.proofs.Lists.{Sub, sub_only}
use Rattle.cleanup.specs.Marks.{jump_of, removable_load}
use Rattle.cleanup.specs.Sweeps.{remove_duplicate_consecutive_labels, remove_unreachable_until_label, remove_noop_jumps, removed}
use Rattle.cleanup.specs.Cleanup.{stays, clean_code, clean_events}
use Rattle.cleanup.proofs.Sweeping.{sub_cleanup}
use Rattle.cleanup.proofs.SweepLaws.{some_swept}

-- the cells and the events that are left are some of those sent
pub sub_code : (cs : List Cell) → Sub (clean_code cs) cs
unfolding clean_code
sub_code cs = sub_cleanup view cs

pub sub_events : (cs es : List Cell) → Sub (clean_events cs es) es
unfolding clean_events
sub_events cs es = sub_only (stays (removed view cs)) es

-- a cell is left: the first, of the first two sweeps; the last, of the others
some_left : (c : Cell) (p : List Cell) → 1 ≤ length (clean_code (c ∷ p))
unfolding clean_code
some_left c p =
    let p₂ : List Cell = remove_unreachable_until_label view (remove_duplicate_consecutive_labels view (c ∷ p)) in
    some_swept removable_load removable_load view (remove_noop_jumps view p₂) (some_swept jump_of label_of view p₂ (omega arith))

pub empty_clean : (cs : List Cell) → clean_code cs ≡ [] → cs ≡ []
empty_clean [] e = refl
empty_clean (c ∷ cs) e = absurd (omega (arith, ap length e, some_left c cs))
