-- `cleanup::events::removed_sites` meets its contract.
use Prim.Native.Nat.{◌/◌}
use lib.ListN.{length}
use Rattle.cells.specs.Cells.{cells}
use Rattle.cells.specs.View.{view}
use Rattle.cells.proofs.Going.{Going}
use Rattle.cleanup.proofs.GoneSites.{gone}
use Rattle.cleanup.specs.Sweeps.{removed}
use Rattle.sites.specs.Sites.{site_of, sites_on}
use Rattle.cleanup.proofs.events.removed_sites.Given as goal

abbrev pub invariant-loop-k : goal.invariant-loop-k
invariant-loop-k l = Going l.initial.list (length l.code / 16) (sites_on (site_of l.which) (removed view (cells l.code))) (gone l.which l.code l.rule.ended l.k) l.list l.k l.found
