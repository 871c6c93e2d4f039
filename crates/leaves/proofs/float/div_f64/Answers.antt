-- `float::div_f64` meets its contract.
use Rattle.leaves.specs.Float.{div_f64}
use lib.Ieee
use Rattle.leaves.proofs.float.div_f64.Goals as goal

pub returns-then-b : goal.returns-then-b
unfolding div_f64 Ieee.of_bits
returns-then-b c = simp c.if-b.true

pub returns : goal.returns
unfolding div_f64 Ieee.of_bits
returns c = simp (c.if-b.false, c.ieee_div_f64.ensures)
