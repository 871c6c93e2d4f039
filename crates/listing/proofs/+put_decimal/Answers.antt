-- `listing::put_decimal` meets its contract.
use Prim.Native.Nat.{◌/◌, ◌%◌}
use native.Mathlib.Omega.{arith}
use lib.ListN.{take}
use Rattle.listing.specs.Decimal.{digit, decimal}
use Rattle.listing.proofs.Numerals.{decimal-more, length-one, length_more}
use Rattle.listing.proofs.Pieces.{end_at_lem, written_behind}
use Rattle.listing.proofs.+put_decimal.Goals as goal

pub bounds-text-at : goal.bounds-text-at
bounds-text-at t c = omega (arith, length-one c.args.n (omega arith))

pub put_decimal-k-requires : goal.put_decimal-k-requires
put_decimal-k-requires t c =
    let l = length_more c.args.n (omega arith) (omega arith) in
    (omega arith, omega (arith, l))

pub bounds-text-k : goal.bounds-text-k
bounds-text-k t c =
    let a = c.args in
    let w = c.put_decimal-k in
    let l = length_more a.n (omega arith) (omega arith) in
    let e = end_at_lem a.text.now (decimal (a.n / 10)) a.at w.result (omega arith) w.ensures.end in
    omega (arith, l, e, w.auto)

pub overflow_add-result-2 : goal.overflow_add-result-2
overflow_add-result-2 t c =
    let a = c.args in
    let w = c.put_decimal-k in
    let l = length_more a.n (omega arith) (omega arith) in
    let e = end_at_lem a.text.now (decimal (a.n / 10)) a.at w.result (omega arith) w.ensures.end in
    record { fits = omega (arith, l, e) }

pub returns : goal.returns
returns t c =
    let a = c.args in
    let w = c.put_decimal-k in
    let l = length_more a.n (omega arith) (omega arith) in
    let e = end_at_lem a.text.now (decimal (a.n / 10)) a.at w.result (omega arith) w.ensures.end in
    rw (decimal-more a.n (omega arith) (omega arith), c.digit-2.ensures)
    (written_behind (take a.at a.text.now) (decimal (a.n / 10)) (digit (a.n % 10)) w.ensures (omega (arith, l, e)))
