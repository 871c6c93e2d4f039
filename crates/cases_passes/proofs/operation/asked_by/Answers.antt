use native.Mathlib.Omega.{arith}
use Rattle.std.proofs.lemmas.Bool.Decides.{nat_tests}
use Rattle.cases_passes.specs.Operations.{asked_by}
use Rattle.cases_passes.proofs.operation.asked_by.Goals as goal

pub returns-in-16 : goal.returns-in-16
unfolding asked_by
returns-in-16 c = simp c.in-16.is

pub returns-in-17 : goal.returns-in-17
unfolding asked_by
returns-in-17 c = simp c.in-17.is

pub returns-in-18 : goal.returns-in-18
unfolding asked_by
returns-in-18 c = simp c.in-18.is

pub returns-in-19 : goal.returns-in-19
unfolding asked_by
returns-in-19 c = simp c.in-19.is

pub returns-in-20 : goal.returns-in-20
unfolding asked_by
returns-in-20 c = simp c.in-20.is

pub returns-in-21 : goal.returns-in-21
unfolding asked_by
returns-in-21 c = simp c.in-21.is

pub returns-in-22 : goal.returns-in-22
unfolding asked_by
returns-in-22 c = simp c.in-22.is

pub returns-in-23 : goal.returns-in-23
unfolding asked_by
returns-in-23 c = simp c.in-23.is

pub returns-in-24 : goal.returns-in-24
unfolding asked_by
returns-in-24 c = simp c.in-24.is

pub returns-in-25 : goal.returns-in-25
unfolding asked_by
returns-in-25 c = simp c.in-25.is

pub returns-in-26 : goal.returns-in-26
unfolding asked_by
returns-in-26 c = simp c.in-26.is

pub returns-in-27 : goal.returns-in-27
unfolding asked_by
returns-in-27 c = simp c.in-27.is

pub returns-in_default : goal.returns-in_default
unfolding asked_by
returns-in_default c = grind (arith, nat_tests)
