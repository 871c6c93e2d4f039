-- `passes::copy_functions` meets its contract.
use Rattle.passes.proofs.WholeImage.{copied_functions}
use Rattle.passes.proofs.copy_functions.Goals as goal

pub returns : goal.returns
returns c =
    let k = c in
    let q = k in
    copied_functions q.args.image.now q.args.out.now q.requires.0 _ k.copy.ensures.1
