-- `numbers::put_i32` meets its contract.
use mathlib.Core.List.{[], ◌∷◌}
use native.Mathlib.Omega.{arith}
use Rattle.listing.specs.Text.{line_feed}
use Rattle.listing.proofs.Numerals.{length-decimal}
use Rattle.listing.proofs.Pieces.{written_next}
use Rattle.numbers.proofs.Signs.{sign_room, signed-written, length-signed}
use Rattle.numbers.proofs.put_i32.Goals as goal

pub put_decimal-b-requires : goal.put_decimal-b-requires
put_decimal-b-requires c =
    let p = c.put_sign-a in
    omega (arith, sign_room c.args.z p.ensures, length-decimal c.unsigned_abs.result, p.auto)

pub append-requires : goal.append-requires
append-requires c =
    let p = c.put_sign-a in
    let n = c.unsigned_abs in
    let q = c.put_decimal-b in
    let w = signed-written c.args.z p.ensures c.ranges.z n.ensures.value q.ensures in
    omega (arith, w.end, length-signed c.args.z, p.auto, q.auto)

pub returns : goal.returns
returns c =
    let p = c.put_sign-a in
    let n = c.unsigned_abs in
    let q = c.put_decimal-b in
    let v = signed-written c.args.z p.ensures c.ranges.z n.ensures.value q.ensures in
    written_next v (line_feed ∷ []) c.append.ensures
