-- `packed::unpack` meets its contract.
use Rattle.std.proofs.lemmas.Result.{err_from_is_err_and}
use mathlib.Core.Path.{◌≡◌, refl, sym, ◌∙◌}
use Prim.Native.Nat.{◌≤◌}
use native.Mathlib.Omega.{arith}
use lib.ListN.{length}
use Rattle.packed.specs.Reading.{unpacked}
use Rattle.packed.specs.Steps.{counted}
use Rattle.packed.proofs.Turns.{not-bytes}
use Rattle.packed.proofs.Undo.{unpack_refused, unpack_too_long, unpack_written}
use Rattle.packed.proofs.unpack.Goals as goal
use Rattle.packed.proofs.unpack.Goals.{After-restore_cells-arg-1}
use Rattle.std.specs.Prelude.{Ok}

pub returns-in_err-n : goal.returns-in_err-n
returns-in_err-n c =
    let a = c.args in
    let p = err_from_is_err_and c.from_residual.result c.from_residual.ensures.1 in
    rw (p.1, p.2) (unpack_refused a.packed.now a.out.now _ (sym c.in_err-n.was ∙ c.check_cells.ensures) (not-bytes refl))

pub returns-then-out-n : goal.returns-then-out-n
returns-then-out-n c =
    let a = c.args in
    unpack_too_long a.packed.now a.out.now c.in_ok-n.n (sym c.in_ok-n.was ∙ c.check_cells.ensures) (omega arith)

-- past the test, the output has the room
room : (c : After-restore_cells-arg-1) → c.in_ok-n.n ≤ length c.args.out.now
room c = omega arith

counts : (c : After-restore_cells-arg-1) → Ok c.in_ok-n.n ≡ counted (unpacked c.args.packed.now)
counts c = sym c.in_ok-n.was ∙ c.check_cells.ensures

pub returns : goal.returns
returns c =
    let a = c.args in
    unpack_written a.packed.now a.out.now _ _ c.restore_cells.ensures (counts (goal.at.returns c).After-restore_cells-arg-1) (room (goal.at.returns c).After-restore_cells-arg-1)
