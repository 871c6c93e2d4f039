-- `factor::modular::factor_modulo` meets its contract.
use Rattle.factor.proofs.Turns.{Halved}
use Rattle.factor.proofs.modular.factor_modulo.Given as goal

abbrev pub invariant-loop-m : goal.invariant-loop-m
invariant-loop-m l = Halved l.wanted l.factor l.w l.a l.m

abbrev pub decreases-loop-m : goal.decreases-loop-m
decreases-loop-m l = l.m
