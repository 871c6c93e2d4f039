use mathlib.Core.Path.{sym, ◌∙◌, ap}
use native.Mathlib.Omega.{arith}
use borrow.Author.Rules.{rules}
use lib.ListN.{length}
use Rattle.cases_passes.specs.Operations.{answer}
use Rattle.cases_passes.proofs.Marked.{part, marked-length}
use Rattle.cases_passes.proofs.Called.{lent-bytes, model_bytes, agreed}
use Rattle.cases_passes.proofs.Replies.{same-reply}
use Rattle.cases_passes.proofs.lent.agrees_within.Goals as goal

pub slice_bounds-run-end-2 : goal.slice_bounds-run-end-2
slice_bounds-run-end-2 c =
    let l = marked-length c.mark.new.out (length c.args.out.now) c.mark.ensures in
    part _ _ (omega arith)

pub returns : goal.returns
returns c =
    let a = c.args in
    let pre = c.requires in
    let n = length a.out.now in
    let l = marked-length c.mark.new.out n c.mark.ensures in
    let room = part a.room c.mark.new.out (omega arith) in
    let got = c.run-got.ensures.value ∙ ap (answer a.operation a.image.now) (sym room) in
    let out = lent-bytes a.operation a.image.now _ _ a.room n c.mark.ensures c.run-got.ensures.out_after in
    let model = model_bytes a.want.now _ _ (length a.model.now) c.mark-2.ensures c.copy.ensures.1 in
    record {
      variant = agreed a.operation a.image.now a.want.now _ c.copy.new.dst _ a.expected a.room n c.eq-replied.result c.eq-written.result got out (rw pre.2 model) (rw c.eq-replied.ensures (same-reply c.run-got.result a.expected)) (search rules);
      out_after = out;
      model_after = model;
    }
