-- `Quad::try_from` meets its contract.
use Rattle.std.proofs.Common.{arith}
use Rattle.leaves.specs.Quads.{quad_of}
use Rattle.leaves.proofs.quad.QuadTryFromU8.try_from.Goals as goal

pub returns-in-0 : goal.returns-in-0
unfolding quad_of
returns-in-0 c = simp c.in-0.is

pub returns-in-1 : goal.returns-in-1
unfolding quad_of
returns-in-1 c = simp c.in-1.is

pub returns-in-2 : goal.returns-in-2
unfolding quad_of
returns-in-2 c = simp c.in-2.is

pub returns-in-3 : goal.returns-in-3
unfolding quad_of
returns-in-3 c = simp c.in-3.is

pub returns-in_default : goal.returns-in_default
unfolding quad_of
returns-in_default c = grind arith
