use native.Mathlib.Omega.{arith}
use Rattle.cases_passes.proofs.Marked.{part}
use Rattle.cases_passes.proofs.Cut.{parts_answer, parts_numbers, parts_bytes}
use Rattle.cases_passes.proofs.parts.rewrite_within.Goals as goal

pub returns : goal.returns
returns c =
    let s = c.args.release.now in
    let lent = c.args.lent.now in
    let answers = c.args.answers.now in
    let cut = c.args.cut in
    let e = c.copy.ensures.1 in
    let d = c.rewrite_release-r.ensures in
    let k = c.rewrite_release-r.auto in
    record {
      value = parts_answer s lent answers cut c.requires _ e _ d.answer;
      lent_after = parts_bytes s lent answers cut c.requires _ e _ d.numbers _ _ k.out k.answers d.bytes c.copy-2.ensures.1;
      answers_after = parts_numbers s lent answers cut c.requires _ e _ d.numbers;
    }

pub slice_bounds-rewrite_release-end-2 : goal.slice_bounds-rewrite_release-end-2
slice_bounds-rewrite_release-end-2 c = part _ _ (omega arith)
