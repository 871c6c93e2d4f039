-- `passes::function::copy` meets its contract.
use mathlib.Core.Path.{refl}
use Rattle.passes.proofs.OneFunction.{copy_holds}
use Rattle.passes.proofs.function.copy.Goals as goal

pub returns : goal.returns
returns c =
    let k₃ = c in
    let k₂ = k₃ in
    let k₁ = k₂ in
    let q = k₁ in
    copy_holds q.args.head.now q.args.code.now q.args.events.now q.args.out.now q.requires _ _ _ _ _ k₁.copy.ensures.1 k₂.copy-2.ensures.1 refl k₃.copy-3.ensures.1 refl
