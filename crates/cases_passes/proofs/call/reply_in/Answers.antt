use Rattle.cases_passes.proofs.call.reply_in.Goals as goal

pub returns : goal.returns
returns c =
    let n = c.from.ensures in
    let p = c.half.ensures.0 in
    let d = c.word.ensures.0 in
    let l = c.word-2.ensures.0 in
    let r = c.word-3.ensures.0 in
    let g = c.from-2.ensures in
    simp (n, p, d, l, r, g)
