-- `fold_command` meets its contract.
use mathlib.Core.Path.{refl, sym, ap, ◌∙◌}
use Prim.Native.Nat.{◌*◌}
use Rattle.leaves.specs.Verdicts.{value_in}
use Rattle.crystalfold.proofs.Turn.{kept}
use Rattle.crystalfold.proofs.fold_command.Goals as goal

pub returns-in_default : goal.returns-in_default
returns-in_default c =
    let a = c.args in
    let f = c.fold_value in
    record {
      value = ap value_in (sym c.in_default.is ∙ f.ensures);
      put = record { bytes = sym (kept (16 * a.at) a.instrs.now); read_back = refl };
    }
