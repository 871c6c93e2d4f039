-- `listing::put_refused` meets its contract.
use mathlib.Core.List.{append_assoc}
use lib.ListN.{length-append}
use native.Mathlib.Omega.{arith}
use Rattle.listing.specs.Text.{blank, line_feed, field, refused_text}
use Rattle.listing.proofs.Pieces.{written_next}
use Rattle.listing.proofs.Whole.{length-field}
use Rattle.listing.proofs.put_refused.Goals as goal

pub put_field-c-requires : goal.put_field-c-requires
put_field-c-requires c =
    let a = c.args in
    let w = written_next c.append-a.ensures (field a.r.number blank) c.put_field-b.ensures in
    omega (arith, w.end, length-field a.r.number blank)

pub put_field-requires : goal.put_field-requires
put_field-requires c =
    let a = c.args in
    let v = written_next c.append-a.ensures (field a.r.number blank) c.put_field-b.ensures in
    let w = written_next v (field a.r.position blank) c.put_field-c.ensures in
    omega (arith, w.end, length-append (field a.r.number blank) (field a.r.position blank), length-field a.r.number blank, length-field a.r.position blank)

pub returns : goal.returns
unfolding refused_text
returns c =
    let a = c.args in
    let v = written_next c.append-a.ensures (field a.r.number blank) c.put_field-b.ensures in
    let w = written_next v (field a.r.position blank) c.put_field-c.ensures in
    simp append_assoc (simp append_assoc at (written_next w (field a.r.detail line_feed) c.put_field.ensures))
