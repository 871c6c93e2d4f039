-- `listing::put_hex` meets its contract.
use mathlib.Core.Path.{◌≡◌, refl}
use mathlib.Core.List.{append-nil}
use Prim.Native.Nat.{◌+◌}
use native.Mathlib.Omega.{arith}
use lib.ListN.{take, length-set}
use Rattle.listing.proofs.Pieces.{written_start}
use Rattle.listing.proofs.Lines.{written-hex}
use Rattle.listing.proofs.put_hex.Goals as goal

pub loop-b-init : goal.loop-b-init
loop-b-init c =
    let a = c.args in
    (omega arith, refl, rw append-nil (written_start a.text.now a.at (omega arith)))

pub loop-b-preserved : goal.loop-b-preserved
loop-b-preserved c =
    let a = c.args in
    let l = c.loop-b in
    let f : l.k + 1 + 1 ≡ l.k + 2 = omega arith in (
      omega arith,
      simp length-set l.invariant.1,
      rw (c.hex_digit.ensures, c.hex_digit-in-loop-b.ensures, ← f) (written-hex (take a.at a.text.now) a.bytes.now l.b-index l.invariant.2 (omega arith) (omega arith)),
    )
