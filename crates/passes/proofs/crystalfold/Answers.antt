-- `passes::crystalfold` meets its contract.
use Rattle.passes.specs.declared.Pass.TheVariants.{CrystalFold}
use Rattle.crystalfold.specs.declared.rules.RuleSet.TheVariants.{Default}
use Rattle.passes.proofs.Done.{pass_done}
use Rattle.passes.proofs.crystalfold.Goals as goal

pub returns : goal.returns
returns c =
    let k = c in
    let q = k in
    pass_done (CrystalFold Default) q.args.image.now q.args.out.now _ k.run.result k.run.ensures.value k.run.ensures.out_after
