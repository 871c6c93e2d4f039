-- `sites::list::collect` meets its contract.
use mathlib.Core.Path.{◌≡◌}
use Prim.Native.Nat.{◌*◌, ◌/◌}
use lib.ListN.{length, drop}
use Rattle.cells.specs.Cells.{cells}
use Rattle.cells.proofs.Going.{Going}
use Rattle.sites.specs.Sites.{site_by, sites_on}
use Rattle.sites.proofs.list.collect.Given as goal

abbrev pub invariant-loop-cell : goal.invariant-loop-cell
invariant-loop-cell l =
    (l.cell-iterator.size ≡ 16) × (l.cell-iterator.rest.now ≡ drop (16 * length l.yielded) l.s)
    × Going l.initial.list (length l.s / 16) (sites_on (site_by l.p l.w) (cells l.s)) (sites_on (site_by l.p l.w) (drop (length l.yielded) (cells l.s))) l.list (length l.yielded) l.found
