-- `quad::qtruth_and` meets its contract.
use Rattle.std.proofs.Common.{◌∙◌}
use Rattle.leaves.proofs.QuadLaws.{truth-and-told}
use Rattle.leaves.proofs.quad.qtruth_and.Goals as goal

pub returns : goal.returns
returns c =
    c.of_told.ensures
    ∙ truth-and-told _ _ _ _ _ _
    c.told_false.ensures
    c.told_false-2.ensures
    c.told_true.ensures
    c.told_true-2.ensures
