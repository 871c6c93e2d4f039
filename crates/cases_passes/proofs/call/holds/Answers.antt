use native.Mathlib.Omega.{arith}
use Rattle.cases_passes.proofs.Marked.{part}
use Rattle.cases_passes.proofs.Called.{unknown, too_far, too_long_lem, cut_past, not_given, held}
use Rattle.cases_passes.proofs.call.holds.Goals as goal

pub returns-in_default : goal.returns-in_default
returns-in_default g c =
    let a = c.args in
    unknown a.head.now a.image.now a.want.now _ c.half-answers.ensures.0 _ c.asked_by-asked.ensures _ c.malformed.ensures c.in_default.is

pub returns-then-room-gt-MAX_ROOM : goal.returns-then-room-gt-MAX_ROOM
returns-then-room-gt-MAX_ROOM g c =
    let a = c.args in
    too_far a.head.now a.image.now a.want.now _ c.half-answers.ensures.0 _ c.asked_by-asked.ensures _ c.in-Some.is _ _ c.word-room.ensures.0 c.reply_in-expected.ensures _ c.malformed-then-room-gt-MAX_ROOM.ensures c.if-room-gt-MAX_ROOM.true

pub returns-then-room-n : goal.returns-then-room-n
returns-then-room-n g c =
    let a = c.args in
    too_long_lem a.head.now a.image.now a.want.now _ c.half-answers.ensures.0 _ c.asked_by-asked.ensures _ c.in-Some.is _ _ c.word-room.ensures.0 c.reply_in-expected.ensures _ c.malformed-then-room-n.ensures c.if-room-n.true

pub returns-then-room-answers : goal.returns-then-room-answers
returns-then-room-answers g c =
    let a = c.args in
    cut_past a.head.now a.image.now a.want.now _ c.half-answers.ensures.0 _ c.asked_by-asked.ensures _ c.in-Some.is _ _ c.word-room.ensures.0 c.reply_in-expected.ensures _ c.malformed-then-room-answers.ensures c.if-room-answers.true

pub returns-then-want-n : goal.returns-then-want-n
returns-then-want-n g c =
    let a = c.args in
    not_given a.head.now a.image.now a.want.now _ c.half-answers.ensures.0 _ c.asked_by-asked.ensures _ c.in-Some.is _ _ c.word-room.ensures.0 c.reply_in-expected.ensures _ c.malformed-then-want-n.ensures c.if-want-n.true

pub agrees-held-requires : goal.agrees-held-requires
agrees-held-requires g c =
    let a = c.args in
    let p = part c.reply_in-expected.result.length a.want.now (omega arith) in
    (omega arith, omega arith)

pub returns-then-not-held : goal.returns-then-not-held
returns-then-not-held g c =
    let a = c.args in
    held a.head.now a.image.now a.want.now _ c.half-answers.ensures.0 _ c.asked_by-asked.ensures _ c.in-Some.is _ _ c.word-room.ensures.0 c.reply_in-expected.ensures _ c.if-room-gt-MAX_ROOM.false c.if-room-n.false c.if-room-answers.false c.if-want-n.false c.agrees-held.ensures

pub returns-else-not-held : goal.returns-else-not-held
returns-else-not-held g c =
    let a = c.args in
    held a.head.now a.image.now a.want.now _ c.half-answers.ensures.0 _ c.asked_by-asked.ensures _ c.in-Some.is _ _ c.word-room.ensures.0 c.reply_in-expected.ensures _ c.if-room-gt-MAX_ROOM.false c.if-room-n.false c.if-room-answers.false c.if-want-n.false c.agrees-held.ensures

pub slice_bounds-agrees-end : goal.slice_bounds-agrees-end
slice_bounds-agrees-end g c = part _ _ (omega arith)
