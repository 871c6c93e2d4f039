-- `passes::function::clean` meets its contract.
use Prim.Native.Nat.{◌+◌, ◌<◌}
use native.Mathlib.Omega.{arith}
use lib.ListN.{length}
use Rattle.passes.proofs.OneFunction.{clean_parts, none-holds}
use Rattle.passes.proofs.function.clean.Goals as goal

pub returns-then-code-events-lt-CELL : goal.returns-then-code-events-lt-CELL
returns-then-code-events-lt-CELL c =
    let k = c in
    let q = k in
    let few : length q.args.code.now + length q.args.events.now < 16 = omega (arith, k.if-code-events-lt-CELL.true) in
    none-holds q.args.head.now q.args.code.now q.args.events.now q.requires.formed few q.args.out.now _ k.copy.result k.copy.ensures

pub cleanup_to-requires : goal.cleanup_to-requires
cleanup_to-requires c =
    let q = c in
    clean_parts q.args.head.now q.args.code.now q.args.events.now q.args.out.now q.requires
