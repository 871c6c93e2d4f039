use native.Mathlib.Omega.{arith}
use lib.ListN.{length}
use Rattle.cases_passes.proofs.Marked.{mark_turn, marked}
use Rattle.cases_passes.proofs.lent.mark.Goals as goal

pub loop-i-preserved : goal.loop-i-preserved
loop-i-preserved c = mark_turn c.loop-i.out c.loop-i.i (omega arith) c.loop-i.invariant

pub returns : goal.returns
returns c = marked c.loop-i.out (length c.args.out.now) c.loop-i.i (omega arith) (omega arith) (omega arith) c.loop-i.invariant
