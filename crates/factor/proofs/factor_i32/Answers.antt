-- `factor::factor_i32` meets its contract.
use mathlib.Core.Path.{◌∙◌, ap₂}
use Rattle.factor.specs.Closed.{factor_modulo, closed_i32}
use Rattle.factor.proofs.Halvings.{closed_i32_lem}
use mir.Facts.{to_z-of_z}
use Rattle.factor.proofs.factor_i32.Goals as goal

pub returns : goal.returns
unfolding closed_i32
returns c =
    let h = c.ranges.wanted in
    let k = c.ranges.factor in
    c.factor_modulo.ensures
    ∙ ap₂ (factor_modulo 32) (simp (to_z-of_z h) at c.cast_unsigned.ensures) (simp (to_z-of_z k) at c.cast_unsigned-2.ensures)
    ∙ closed_i32_lem c.args.wanted c.args.factor h k
