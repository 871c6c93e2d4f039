use mathlib.Core.Path.{sym}
use native.Mathlib.Nat.{le_trans}
use lib.Seq.{length-take-le}
use Rattle.matchdesk.specs.Program.{written, answer_text}
use Rattle.matchdesk.proofs.Texts.{shown, most_rewritten}
use Rattle.matchdesk.proofs.answer_text.Goals as goal

pub slice_bounds-list_rewritten-end : goal.slice_bounds-list_rewritten-end
slice_bounds-list_rewritten-end c = sym (length-take-le _ _ (rw c.in-Ok.is at c.requires.within))

pub returns-in-Ok : goal.returns-in-Ok
returns-in-Ok c =
    let e = c.in-Ok.is in
    let t = answer_text c.args.reply (written c.args.reply c.args.work.now) in
    let w = shown t _ c.unwrap_or.ensures (rw e) c.list_rewritten.ensures
    (le_trans (most_rewritten _ c.args.work.now (rw e at c.requires.within) (rw e at c.requires.most) _) c.requires.room) in
    record { prefix_len = w.0; text_written = w.1 }

pub returns-in-Err : goal.returns-in-Err
returns-in-Err c = rw c.in-Err.is c.check_line.ensures
