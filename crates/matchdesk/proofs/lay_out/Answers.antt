use Rattle.std.proofs.Common.{◌∙◌, ap, Err}
use Rattle.matchdesk.proofs.Laid.{laid_good, laid_refused, laid_never}
use Rattle.matchdesk.proofs.lay_out.Goals as goal

pub returns-in-Ok : goal.returns-in-Ok
returns-in-Ok c =
    let w = laid_good c.pages.ensures c.in-Ok.is in
    record { prefix_len = w.0; text_written = w.1 }

pub returns-in-Err-Refused : goal.returns-in-Err-Refused
returns-in-Err-Refused c =
    let w = laid_refused c.pages.ensures (c.in-Err-Refused.is ∙ ap Err c.in-Err-Refused.field-0-is) in
    rw (w.0, ← w.1) c.check_line.ensures

pub returns-in-Err-TooShort : goal.returns-in-Err-TooShort
returns-in-Err-TooShort c = absurd (laid_never c.pages.ensures (c.in-Err-TooShort.is ∙ ap Err c.in-Err-TooShort.field-0-is) c.requires)
