use mathlib.Core.Path.{sym, ◌∙◌, ap}
use native.Mathlib.Omega.{arith}
use Rattle.cases_passes.specs.Operations.{answer}
use Rattle.cases_passes.proofs.Marked.{part}
use Rattle.cases_passes.proofs.call.again.Goals as goal

pub returns : goal.returns
returns c =
    let a = c.args in
    c.run.ensures.value ∙ ap (answer a.operation a.image.now) (sym (part a.room c.zeros-out.result (omega arith)))

pub slice_bounds-run-end : goal.slice_bounds-run-end
slice_bounds-run-end c = part _ _ (omega arith)
