-- `factor::modular::factor_modulo` meets its contract.
use mathlib.Core.Path.{◌∙◌, ap}
use Prim.Native.Nat.{ℕ, ◌*◌, ◌%◌}
use native.Mathlib.Nat.{mod-lt}
use native.Mathlib.Omega.{arith}
use Rattle.factor.specs.Closed.{nearest_to}
use Rattle.factor.proofs.Turns.{halved_none, odd_turn, never_turn, even_turn, last_turn}
use Rattle.factor.proofs.modular.factor_modulo.Goals as goal

pub loop-m-init : goal.loop-m-init
loop-m-init c = rw c.from-w.ensures (halved_none c.args.wanted c.args.factor)

pub nonzero_rem-w : goal.nonzero_rem-w
nonzero_rem-w c = c.loop-m.invariant.low

pub nearest-requires : goal.nearest-requires
nearest-requires c =
    let l = c.loop-m in
    (mod-lt (c.from.result * (l.w % l.m)) l.invariant.low, l.invariant.most)

pub returns-then-a-eq1 : goal.returns-then-a-eq1
returns-then-a-eq1 c =
    let l = c.loop-m in
    c.nearest.ensures ∙ ap (λ (v : ℕ). nearest_to l.m (v * (l.w % l.m) % l.m)) (c.from.ensures ∙ c.inverse.ensures) ∙ odd_turn l.invariant (omega arith) c.if-a-eq1.true

pub returns-then-w-eq1 : goal.returns-then-w-eq1
returns-then-w-eq1 c = never_turn c.loop-m.invariant (omega arith) c.if-a-eq1.false c.if-w-eq1.true

pub loop-m-preserved : goal.loop-m-preserved
loop-m-preserved c = even_turn c.loop-m.invariant (omega arith) c.if-a-eq1.false c.if-w-eq1.false

pub returns : goal.returns
returns c = last_turn c.loop-m.invariant (omega arith)
