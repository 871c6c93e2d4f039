-- `release::count_images` meets its contract.
use lib.ListN.{length}
use Rattle.release.proofs.Frames.{Counted}
use Rattle.release.proofs.count_images.Given as goal

abbrev pub invariant-loop-left : goal.invariant-loop-left
invariant-loop-left l = Counted l.release l.left l.n

abbrev pub decreases-loop-left : goal.decreases-loop-left
decreases-loop-left l = length l.left
