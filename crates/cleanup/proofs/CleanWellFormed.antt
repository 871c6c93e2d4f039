-- Cleanup of a well-formed function is well-formed, and has no more cells.
use mathlib.Core.Path.{◌≡◌, sym, ◌∙◌}
use mathlib.Core.List.{List}
use Prim.Native.Nat.{◌+◌, ◌≤◌}
use native.Mathlib.Omega.{arith}
use lib.ListN.{length, length-append}
use Rattle.cells.specs.Cells.{Cell}
use Rattle.cells.specs.Functions.{Function, there, cells_of}
use Rattle.cells.specs.WellFormed.{InstructionGood, EventGood, WellFormed}
use Rattle.cells.proofs.Checks.{head_fits}
use Rattle.cells.proofs.Functions.{new_head-length, new_head-counts}
use Rattle.cells.proofs.GoodCells.{new_head-good}
use Rattle.cells.proofs.Lists.{all_append, all_parts, sub_all}
use Rattle.cleanup.specs.Cleanup.{clean_code, clean_events, clean_function}
use Rattle.cleanup.proofs.CleanupCounts.{shorter, events_fewer}
use Rattle.cleanup.proofs.EachLeft.{sub_code, sub_events}

pub clean_well_formed : (g : Function) → WellFormed g → WellFormed (clean_function g)
unfolding clean_function
clean_well_formed g w =
    let cs : List Cell = clean_code g.code in
    let es : List Cell = clean_events g.code g.events in
    let s = all_parts (λ c. length c ≡ 16) g.code g.events w.full.1 in
    let l : 7 ≤ length g.head = omega (arith, w.full.0) in
    let (u, v, r) = head_fits 0 0 (there g) g.head (w.head 0 0) in
    let n = new_head-counts g.head (length cs) (length es) l in
    record {
      head = new_head-good 0 0 (there g) g.head (w.head 0 0) l (length cs) (length es)
          (omega (arith, w.counted.0, shorter g.code))
          (omega (arith, w.counted.1, events_fewer g.code g.events))
          (length cs + length es) (omega arith);
      code = sub_all InstructionGood (sub_code g.code) w.code;
      events = sub_all EventGood (sub_events g.code g.events) w.events;
      counted = (sym n.0, sym n.1);
      full = (
        new_head-length g.head (length cs) (length es) ∙ w.full.0,
        all_append (λ c. length c ≡ 16) cs es (sub_all (λ c. length c ≡ 16) (sub_code g.code) s.0) (sub_all (λ c. length c ≡ 16) (sub_events g.code g.events) s.1),
      );
    }

pub clean_cells-fewer : (g : Function) → length (cells_of (clean_function g)) ≤ length (cells_of g)
unfolding clean_function
clean_cells-fewer g =
    let cs : List Cell = clean_code g.code in
    let es : List Cell = clean_events g.code g.events in
    omega (arith, length-append cs es, length-append g.code g.events, shorter g.code, events_fewer g.code g.events)
