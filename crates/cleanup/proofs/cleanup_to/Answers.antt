-- `cleanup::cleanup_to` meets its contract.
use mathlib.Core.Path.{refl, ◌∙◌, ap}
use mathlib.Core.List.{List}
use Prim.Native.Nat.{ℕ, ◌/◌, ◌%◌}
use native.Mathlib.Omega.{arith}
use lib.ListN.{length, set, length-set, length-take, length-drop, length-append}
use Rattle.cells.proofs.Cells.{length-cells, length-cell_at}
use Rattle.cleanup.proofs.Heads.{counts_few, written-function}
use Rattle.cleanup.proofs.cleanup_to.Goals as goal

pub cleanup_function-r-requires : goal.cleanup_function-r-requires
cleanup_function-r-requires c =
    let p = c.requires.2 in
    record {
      code_even = p.code_even;
      events_even = p.events_even;
      few_instructions = p.few_instructions;
      few_events = p.few_events;
      room = simp length-take (omega (arith, length-drop 16 c.args.out.now, p.room));
    }

pub put_half-requires : goal.put_half-requires
put_half-requires c =
    let f = c in
    let a = f.args in
    let k = counts_few f.cleanup_function-r.ensures in
    let u = simp length-append at (ap length c.put_cell.ensures) in
    (omega (arith, u, length-cell_at a.head.now 0 (omega arith)), omega (arith, k.0, k.1, length-cells a.code.now, length-cells a.events.now, f.requires.2.few_instructions, f.requires.2.few_events))

pub put_half-requires-2 : goal.put_half-requires-2
put_half-requires-2 c =
    let f = c in
    let a = f.args in
    let k = counts_few f.cleanup_function-r.ensures in
    let u = simp length-append at (ap length c.put_cell.ensures) in
    let v = simp length-set at (ap length c.put_half.ensures) in
    (omega (arith, u, v, length-cell_at a.head.now 0 (omega arith)), omega (arith, k.0, k.1, length-cells a.code.now, length-cells a.events.now, f.requires.2.few_instructions, f.requires.2.few_events))

pub returns : goal.returns
returns c =
    let f = c in
    let a = f.args in
    let r = f.cleanup_function-r.result in
    let m = r.events in
    let e = c.put_half-2.ensures ∙ ap (λ (u : List ℕ). set (set u 5 (m % 256)) 6 (m / 256)) c.put_half.ensures in
    written-function a.head.now a.code.now a.events.now a.out.now f.cleanup_function-r.new.out _ _ _ r f.requires.0 f.requires.1
    f.cleanup_function-r.ensures refl c.put_cell.ensures e
