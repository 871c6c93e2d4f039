-- `release::rewrite_images` meets its contract.
use Prim.Native.Nat.{◌-◌}
use lib.ListN.{length}
use Rattle.release.proofs.Images.{Rewriting}
use Rattle.release.proofs.rewrite_images.Given as goal

abbrev pub invariant-loop-at : goal.invariant-loop-at
invariant-loop-at l = Rewriting l.release l.initial.out l.initial.answers l.out l.answers l.at l.to l.k

abbrev pub decreases-loop-at : goal.decreases-loop-at
decreases-loop-at l = length l.release - l.at
