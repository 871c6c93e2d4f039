-- `cleanup::cleanup_within` meets its contract: the instruction cells, then the events behind them.
use mathlib.Core.Path.{◌∙◌, ap}
use mathlib.Core.List.{List}
use Prim.Native.Nat.{◌+◌, ◌*◌, ◌≤◌}
use native.Mathlib.Omega.{arith}
use lib.ListN.{length, length-take, length-drop}
use Rattle.cells.specs.Cells.{Cell, cells, flat, over}
use Rattle.cleanup.proofs.Whole.{AfterSweeps, after_sweeps, removed_count}
use Rattle.cleanup.proofs.Writing.{joined}
use Rattle.cleanup.specs.Cleanup.{clean_code, clean_events}
use Rattle.cleanup.proofs.cleanup_within.Goals as goal
use Rattle.cleanup.proofs.cleanup_within.Goals.{After-survivors-n}

-- the list of positions after the sweeps; what is left fits into the output
module _ (g : _) (d : After-survivors-n g) where
  after : AfterSweeps d.args.code.now d.survivors-n.new.list d.survivors-n.result
  after = after_sweeps d.args.code.now _ d.survivors-n.new.list d.survivors-n.result d.survivors-n.ensures

  fits : 16 * d.survivors-n.result + length d.args.events.now ≤ length d.args.out.now
  fits = omega (arith, after.few, d.requires.0.room)

pub shared_whole_as_front-copy_out : goal.shared_whole_as_front-copy_out
shared_whole_as_front-copy_out g c = (omega (arith, (after g (goal.at.shared_whole_as_front-copy_out g c).After-survivors-n).few, c.requires.1), omega (arith, c.requires.2))

pub copy_out-requires-clause-below : goal.copy_out-requires-clause-below
copy_out-requires-clause-below g c = (after g (goal.at.copy_out-requires-clause-below g c).After-survivors-n).below

pub copy_out-requires-clause-room : goal.copy_out-requires-clause-room
copy_out-requires-clause-room g c = simp length-take (omega (arith, fits g (goal.at.copy_out-requires-clause-room g c).After-survivors-n))

pub slice_bounds-retain_events-count : goal.slice_bounds-retain_events-count
slice_bounds-retain_events-count g c = omega (arith, fits g (goal.at.slice_bounds-retain_events-count g c).After-survivors-n)

pub slice_bounds-retain_events-start : goal.slice_bounds-retain_events-start
slice_bounds-retain_events-start g c = omega (arith, fits g (goal.at.slice_bounds-retain_events-start g c).After-survivors-n)

pub retain_events-m-requires : goal.retain_events-m-requires
retain_events-m-requires g c = (c.requires.0.few_instructions, simp (length-take, length-drop) (omega (arith, fits g (goal.at.retain_events-m-requires g c).After-survivors-n)))

pub overflow_sub-result : goal.overflow_sub-result
overflow_sub-result g c = omega (arith, (after g (goal.at.overflow_sub-result g c).After-survivors-n).few)

pub returns : goal.returns
returns g c =
    let d = (goal.at.returns g c).After-survivors-n in
    let z = after g d in
    let a = c.args in
    let cs = cells a.code.now in
    let es = cells a.events.now in
    let w = c.copy_out.ensures ∙ ap (λ (t : List Cell). over (flat t) a.out.now) z.first in
    record {
      bytes = joined (clean_code cs) (clean_events cs es) a.out.now c.copy_out.new.out _ (16 * c.survivors-n.result) z.size (omega (arith, fits g d)) w c.retain_events-m.ensures.bytes;
      instructions = z.count;
      events = c.retain_events-m.ensures.count;
      rewrites = removed_count a.code.now c.survivors-n.result z.count;
    }
