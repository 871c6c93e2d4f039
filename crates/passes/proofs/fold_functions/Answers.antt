-- `passes::fold_functions` meets its contract.
use Prim.Native.Nat.{◌*◌}
use native.Mathlib.Omega.{arith}
use lib.ListN.{length-take}
use Rattle.passes.proofs.WholeImage.{folds_fit, folded_start}
use Rattle.passes.proofs.fold_functions.Goals as goal

pub overflow_add-result : goal.overflow_add-result
overflow_add-result c =
    omega (arith, c.requires.few, c.requires.room, folds_fit c.fold_constants_and_identities-folds.ensures, length-take (16 * c.args.t.cells) c.args.out.now)

pub returns : goal.returns
returns c = folded_start c.args.rules c.args.t c.args.out.now _ _ c.fold_constants_and_identities-folds.ensures
