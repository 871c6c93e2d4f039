-- `fixed::div_fx` meets its contract: at 64 bits the scaled operand is exact.
use Rattle.std.proofs.Common.{◌≡◌, ℤ, ◌*ℤ◌, ap, ◌∙◌, ap₂, arith, w64, of_z, to_z}
use Rattle.std.specs.Prelude.{int_div}
use Rattle.leaves.specs.declared.constant.ConstVal.TheVariants.{Fx}
use Rattle.leaves.specs.Fixed.{fx_scale, div_fx}
use Rattle.leaves.proofs.Integers.{kept64}
use Rattle.leaves.proofs.Ranges.{small, scaled_small, scaled_quotient, widened, zero_bits, nonzero_bits}
use Rattle.leaves.proofs.Checked.{narrowed, not_narrowed}
use Rattle.leaves.proofs.fixed.div_fx.Goals as goal
use Rattle.leaves.proofs.fixed.div_fx.Goals.{After-try_from}

pub returns-then-b-eq0 : goal.returns-then-b-eq0
unfolding div_fx
returns-then-b-eq0 c = simp (zero_bits c.args.b c.ranges.b c.if-b-eq0.true)

exact : (c : After-try_from)
    → to_z w64 (of_z w64 (int_div (to_z w64 (of_z w64 (to_z w64 (of_z w64 c.from.result) *ℤ fx_scale))) (to_z w64 (of_z w64 c.from-2.result))))
    ≡ int_div (c.args.a *ℤ fx_scale) c.args.b
exact c =
    let fits = c.ranges in
    kept64 (scaled_quotient c.args.a c.args.b fits.a (omega arith))
    (ap₂ int_div
    (kept64 (small _ (scaled_small c.args.a fits.a (omega arith))) (ap (λ (z : ℤ). z *ℤ fx_scale) (widened fits.a c.from.ensures)))
    (widened fits.b c.from-2.ensures))

pub returns-in_err-z : goal.returns-in_err-z
unfolding div_fx
returns-in_err-z c =
    not_narrowed Fx _ (exact (goal.at.returns-in_err-z c).After-try_from) c.in_err-z.ensures c.from_residual.ensures.1
    ∙ simp (nonzero_bits c.args.b c.ranges.b c.if-b-eq0.false).0

pub returns : goal.returns
unfolding div_fx
returns c =
    narrowed Fx (exact (goal.at.returns c).After-try_from) c.in_ok-z.ensures
    ∙ simp (nonzero_bits c.args.b c.ranges.b c.if-b-eq0.false).0
