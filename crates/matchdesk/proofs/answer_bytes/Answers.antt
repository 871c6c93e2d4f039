use mathlib.Core.Path.{sym}
use lib.Seq.{length-take-le}
use Rattle.matchdesk.proofs.Texts.{counted, none-counted, copied_text, bytes_fit, only-output, only_error}
use Rattle.matchdesk.proofs.answer_bytes.Goals as goal

pub slice_bounds-copy-end : goal.slice_bounds-copy-end
slice_bounds-copy-end c = sym (length-take-le _ _ (rw c.in-Ok.is at c.requires.0.within))

pub copy-requires : goal.copy-requires
copy-requires c =
    let p = rw c.in-Ok.is at c.requires.0 in
    bytes_fit _ c.args.work.now c.args.output.now p.within p.most p.room

pub returns-in-Ok : goal.returns-in-Ok
returns-in-Ok c =
    let e = c.in-Ok.is in
    let p = rw e at c.requires.0 in
    let v = c.copy.ensures in
    let w = copied_text _ c.args.output.now _ _ v.0 v.1 in
    rw c.on_output.ensures (record {
      prefix_len = (counted w (bytes_fit _ c.args.work.now c.args.output.now p.within p.most p.room), none-counted c.args.error.now);
      says = rw e (only-output w c.args.error.now);
    })

pub returns-in-Err : goal.returns-in-Err
returns-in-Err c =
    let w = c.check_line.ensures in
    rw c.on_error.ensures (record {
      prefix_len = (none-counted c.args.output.now, w.prefix_len);
      says = rw c.in-Err.is (only_error w.text_written c.args.output.now);
    })
