-- `packed::restore::restore_code` meets its contract.
use mathlib.Core.Path.{◌≡◌}
use Prim.Native.Nat.{◌≤◌}
use lib.ListN.{length}
use Rattle.packed.specs.Form.{Code, row_size}
use Rattle.packed.proofs.Runs.{Running}
use Rattle.packed.proofs.restore.restore_code.Given as goal

abbrev pub invariant-loop-i : goal.invariant-loop-i
invariant-loop-i l = (length l.out ≡ length l.initial.out) × (l.at ≤ length l.s) × (l.size ≡ row_size l.row) × Running Code l.s l.out l.n l.at l.i
