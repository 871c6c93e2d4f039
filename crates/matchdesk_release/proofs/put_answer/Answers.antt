use Rattle.matchdesk_release.proofs.Lines.{by_number, by_refusal}
use Rattle.matchdesk_release.proofs.put_answer.Goals as goal

pub returns-then-x-eq0 : goal.returns-then-x-eq0
returns-then-x-eq0 c =
    let p = c in
    rw (by_number p.args.x p.if-x-eq0.true) p.put_rewrites.ensures

pub returns : goal.returns
returns c =
    let p = c in
    rw (by_refusal p.args.x p.if-x-eq0.false) p.put_refused.ensures
