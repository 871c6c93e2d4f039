-- `factor::modular::inverse` meets its contract.
use mathlib.Core.Path.{◌∙◌, ap}
use Prim.Native.Nat.{ℕ}
use Rattle.factor.specs.Closed.{newton_step, inverse_of}
use Rattle.factor.proofs.modular.inverse.Goals as goal

pub returns : goal.returns
unfolding inverse_of
returns c =
    let next : ℕ → ℕ = newton_step c.args.a in
    c.step-5.ensures ∙ ap next (c.step-4.ensures ∙ ap next (c.step-3.ensures ∙ ap next (c.step-2.ensures ∙ ap next c.step.ensures)))
