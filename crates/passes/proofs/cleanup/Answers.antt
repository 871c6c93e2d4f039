-- `passes::cleanup` meets its contract.
use Rattle.passes.specs.declared.Pass.TheVariants.{Cleanup}
use Rattle.passes.proofs.Done.{pass_done}
use Rattle.passes.proofs.cleanup.Goals as goal

pub returns : goal.returns
returns c =
    let k = c in
    let q = k in
    pass_done Cleanup q.args.image.now q.args.out.now _ k.run.result k.run.ensures.value k.run.ensures.out_after
