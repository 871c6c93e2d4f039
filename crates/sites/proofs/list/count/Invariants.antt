-- `sites::list::count` meets its contract.
use mathlib.Core.Path.{◌≡◌}
use Prim.Native.Nat.{◌≤◌}
use lib.ListN.{take}
use Rattle.sites.specs.Numbered.{count_in}
use Rattle.sites.proofs.list.count.Given as goal

abbrev pub invariant-loop-y : goal.invariant-loop-y
invariant-loop-y l = (l.found ≤ l.y-index) × (l.found ≡ count_in (take l.y-index l.list) l.x)
