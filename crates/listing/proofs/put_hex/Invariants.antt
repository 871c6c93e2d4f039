-- `listing::put_hex` meets its contract.
use mathlib.Core.Path.{◌≡◌}
use mathlib.Core.List.{◌++◌}
use Prim.Native.Nat.{◌+◌, ◌*◌}
use lib.ListN.{length, take}
use Rattle.listing.specs.Text.{hex}
use Rattle.listing.specs.Promises.{TextWritten}
use Rattle.listing.proofs.put_hex.Given as goal

abbrev pub invariant-loop-b : goal.invariant-loop-b
invariant-loop-b l = (l.k ≡ l.at + 2 * l.b-index) × (length l.text ≡ length l.initial.text) × TextWritten (take l.at l.initial.text ++ hex (take l.b-index l.bytes)) l.initial.text l.text l.k
