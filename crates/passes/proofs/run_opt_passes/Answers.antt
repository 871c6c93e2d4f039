-- `passes::run_opt_passes` meets its contract.
use Rattle.passes.specs.declared.Pass.TheVariants.{Both}
use Rattle.passes.proofs.Done.{pass_done, rewrite_done}
use Rattle.passes.proofs.run_opt_passes.Goals as goal

pub returns : goal.returns
returns c =
    let k = c in
    let q = k in
    let s = q.args.image.now in
    let o = q.args.out.now in
    rewrite_done q.args.rules s o _ k.run.result (pass_done (Both q.args.rules) s o _ k.run.result k.run.ensures.value k.run.ensures.out_after)
