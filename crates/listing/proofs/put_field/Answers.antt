-- `listing::put_field` meets its contract.
use mathlib.Core.Path.{◌≡◌}
use mathlib.Core.List.{List, ◌++◌}
use Prim.Native.Nat.{ℕ, ◌+◌, ◌≤◌, ◌<◌}
use native.Mathlib.Omega.{arith}
use lib.ListN.{length, take}
use Rattle.listing.specs.Decimal.{decimal}
use Rattle.listing.proofs.Numerals.{length-decimal}
use Rattle.listing.proofs.Pieces.{end_at_lem, written_behind}
use Rattle.listing.proofs.put_field.Goals as goal

-- the numeral's end leaves room for the byte
end_of : (n at r : ℕ) (s : List ℕ) → at + 21 ≤ length s → r ≡ length (take at s ++ decimal n) → r < length s
end_of n at r s h e = omega (arith, end_at_lem s (decimal n) at r (omega arith) e, length-decimal n)

pub put_decimal-k-requires : goal.put_decimal-k-requires
put_decimal-k-requires c = omega (arith, length-decimal c.args.n)

pub bounds-text-k : goal.bounds-text-k
bounds-text-k c =
    let a = c.args in
    omega (arith, end_of a.n a.at _ a.text.now c.requires c.put_decimal-k.ensures.end, c.put_decimal-k.auto)

pub overflow_add-result : goal.overflow_add-result
overflow_add-result c =
    let a = c.args in
    record { fits = omega (arith, end_of a.n a.at _ a.text.now c.requires c.put_decimal-k.ensures.end) }

pub returns : goal.returns
returns c =
    let a = c.args in
    written_behind (take a.at a.text.now) (decimal a.n) a.end c.put_decimal-k.ensures (end_of a.n a.at _ a.text.now c.requires c.put_decimal-k.ensures.end)
