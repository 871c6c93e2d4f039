-- `sites::repeats::check_repeat` meets its contract.
use mathlib.Core.Path.{◌≡◌}
use mathlib.Core.Bool.{false}
use Rattle.std.specs.Prelude.{Ok}
use Prim.Native.Nat.{◌*◌}
use lib.ListN.{length, take, drop}
use Rattle.cells.specs.Cells.{cells}
use Rattle.cells.proofs.Answers.{Left}
use Rattle.sites.specs.Sites.{site_by, sites_on}
use Rattle.sites.specs.Numbered.{one_of, judge_repeat, fresh_answer}
use Rattle.sites.proofs.repeats.check_repeat.Given as goal

abbrev pub invariant-loop-earlier : goal.invariant-loop-earlier
invariant-loop-earlier l = (l.answer ≡ Ok tt) × (one_of l.x (take l.earlier-index l.sites) ≡ false)

abbrev pub invariant-sites : goal.invariant-sites
invariant-sites l =
    (l.cell-iterator.size ≡ 16) × (l.cell-iterator.rest.now ≡ drop (16 * length l.yielded) l.part)
    × (length (sites_on (site_by l.p l.w) (take (length l.yielded) (cells l.part))) ≡ l.met)
    × Left (judge_repeat l.p l.w l.position) (cells l.part) (fresh_answer l.p l.w l.position (cells l.part)) (length l.yielded)
    × (l.answer ≡ Ok tt)
