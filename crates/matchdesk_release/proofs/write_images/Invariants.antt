use Prim.Native.Nat.{◌-◌}
use lib.ListN.{length}
use Rattle.matchdesk_release.proofs.Whole.{Writing}
use Rattle.matchdesk_release.proofs.write_images.Given as goal

abbrev pub invariant-loop-at : goal.invariant-loop-at
invariant-loop-at g l = Writing l.release l.frame l.line l.at l.place

abbrev pub decreases-loop-at : goal.decreases-loop-at
decreases-loop-at g l = length l.release - l.at
