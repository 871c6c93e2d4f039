use native.Mathlib.Omega.{arith}
use Rattle.matchdesk_release.proofs.Lines.{place_short, place_within, answer_room, answer_short, line-written, line-counted}
use Rattle.matchdesk_release.proofs.image_line.Goals as goal

pub slice_bounds-put_answer-count : goal.slice_bounds-put_answer-count
slice_bounds-put_answer-count c =
    let f = c in
    let q = f in
    omega (arith, place_short q.args.place q.args.x q.args.line.now _ f.put_field-at.result q.requires f.put_field-at.ensures, place_within q.args.place q.args.x q.args.line.now _ f.put_field-at.result q.requires f.put_field-at.ensures)

pub slice_bounds-put_answer-start : goal.slice_bounds-put_answer-start
slice_bounds-put_answer-start c =
    let f = c in
    let q = f in
    omega (arith, place_short q.args.place q.args.x q.args.line.now _ f.put_field-at.result q.requires f.put_field-at.ensures, place_within q.args.place q.args.x q.args.line.now _ f.put_field-at.result q.requires f.put_field-at.ensures)

pub put_answer-requires : goal.put_answer-requires
put_answer-requires c =
    let f = c in
    let q = f in
    answer_room q.args.place q.args.x q.args.line.now _ f.put_field-at.result q.requires f.put_field-at.ensures

pub overflow_add-result : goal.overflow_add-result
overflow_add-result c =
    let a = c in
    let f = a in
    let q = f in
    omega (arith, place_short q.args.place q.args.x q.args.line.now _ f.put_field-at.result q.requires f.put_field-at.ensures, answer_short q.args.x a.put_answer.ensures)

pub returns : goal.returns
returns c =
    let a = c in
    let f = a in
    let q = f in
    record {
      prefix_len = line-counted q.args.place q.args.x q.args.line.now _ f.put_field-at.result q.requires f.put_field-at.ensures _ a.put_answer.result a.put_answer.ensures;
      text_written = line-written q.args.place q.args.x q.args.line.now _ f.put_field-at.result q.requires f.put_field-at.ensures _ a.put_answer.result a.put_answer.ensures;
    }
