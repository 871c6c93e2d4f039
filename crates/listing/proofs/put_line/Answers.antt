-- `listing::put_line` meets its contract.
use native.Mathlib.Omega.{arith}
use lib.ListN.{take}
use Rattle.listing.specs.Text.{line_feed, hex}
use Rattle.listing.proofs.Lines.{length-hex}
use Rattle.listing.proofs.Pieces.{end_at_lem, written_behind}
use Rattle.listing.proofs.put_line.Goals as goal

pub bounds-text-k : goal.bounds-text-k
bounds-text-k c =
    let s = c in
    let w = c.put_hex-k in
    let e = end_at_lem s.args.text.now (hex s.args.cell.now) s.args.at w.result (omega arith) w.ensures.end in
    let l = length-hex s.args.cell.now in
    omega (arith, e, l, w.auto)

pub overflow_add-result : goal.overflow_add-result
overflow_add-result c =
    let s = c in
    let w = c.put_hex-k in
    let e = end_at_lem s.args.text.now (hex s.args.cell.now) s.args.at w.result (omega arith) w.ensures.end in
    let l = length-hex s.args.cell.now in
    record { fits = omega (arith, e, l) }

pub returns : goal.returns
returns c =
    let s = c in
    let w = c.put_hex-k in
    let e = end_at_lem s.args.text.now (hex s.args.cell.now) s.args.at w.result (omega arith) w.ensures.end in
    let l = length-hex s.args.cell.now in
    written_behind (take s.args.at s.args.text.now) (hex s.args.cell.now) line_feed w.ensures (omega (arith, e, l))
