-- `load::put_load` meets its contract.
use mathlib.Core.Path.{◌≡◌, refl, sym}
use Prim.Native.Nat.{◌*◌}
use Rattle.leaves.specs.declared.constant.ConstVal.TheVariants.{Unknown}
use Rattle.crystalfold.proofs.Turn.{kept}
use Rattle.crystalfold.proofs.load.put_load.Goals as goal

pub returns-in-Unknown : goal.returns-in-Unknown
returns-in-Unknown c =
    let a = c.args in
    let e : a.v ≡ Unknown = c.in-Unknown.is in
    simp e (record { bytes = sym (kept (16 * a.k) a.s.now); read_back = refl })
