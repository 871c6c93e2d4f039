use Rattle.std.proofs.Common.{refl}
use Rattle.listing.proofs.Pieces.{written_none}
use Rattle.matchdesk.proofs.Texts.{none-counted, no_length, fault_line}
use Rattle.matchdesk.proofs.answer_packing.Goals as goal

pub returns-in-Ok : goal.returns-in-Ok
returns-in-Ok c =
    let error = c.args.error.now in
    rw (c.in-Ok.is, c.on_output.ensures) (record { output_value = (refl, none-counted error); text_written = written_none error })

pub returns-in-Err : goal.returns-in-Err
returns-in-Err c =
    let x = c.in-Err.x in
    let w = c.refused_line.ensures in
    rw (c.in-Err.is, c.on_error.ensures, fault_line x c.from.result c.from.ensures) (record { output_value = (no_length x, w.prefix_len); text_written = w.text_written })
