-- `fixed::mul_fx` meets its contract: at 64 bits the product is exact.
use Rattle.std.proofs.Common.{◌≡◌, ℤ, ◌*ℤ◌, ap, w64, of_z, to_z}
use Rattle.std.specs.Prelude.{int_div}
use Rattle.leaves.specs.declared.constant.ConstVal.TheVariants.{Fx}
use Rattle.leaves.specs.Fixed.{fx_scale, mul_fx}
use Rattle.leaves.proofs.Integers.{kept64}
use Rattle.leaves.proofs.Ranges.{small, product32, quotient_small, at64}
use Rattle.leaves.proofs.Checked.{narrowed, not_narrowed}
use Rattle.leaves.proofs.fixed.mul_fx.Goals as goal
use Rattle.leaves.proofs.fixed.mul_fx.Goals.{After-try_from}

exact : (c : After-try_from)
    → to_z w64 (of_z w64 (int_div (to_z w64 (of_z w64 (to_z w64 (of_z w64 c.from.result) *ℤ to_z w64 (of_z w64 c.from-2.result)))) fx_scale))
    ≡ int_div (c.args.a *ℤ c.args.b) fx_scale
exact c =
    let fits = c.ranges in
    let few = product32 fits.a fits.b in
    kept64 (quotient_small (c.args.a *ℤ c.args.b) fx_scale few)
    (ap (λ (z : ℤ). int_div z fx_scale) (kept64 (small _ few) (at64 ◌*ℤ◌ fits.a fits.b c.from.ensures c.from-2.ensures)))

pub returns-in_err-z : goal.returns-in_err-z
unfolding mul_fx
returns-in_err-z c = not_narrowed Fx _ (exact (goal.at.returns-in_err-z c).After-try_from) c.in_err-z.ensures c.from_residual.ensures.1

pub returns : goal.returns
unfolding mul_fx
returns c = narrowed Fx (exact (goal.at.returns c).After-try_from) c.in_ok-z.ensures
