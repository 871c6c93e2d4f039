use native.Mathlib.Omega.{arith}
use borrow.Author.Rules.{rules}
use Rattle.cases_passes.proofs.Run.{run_start, run_again, run_done}
use Rattle.cases_passes.proofs.runs.put_run.Goals as goal

pub loop-i-init : goal.loop-i-init
loop-i-init c = (search rules, run_start _ _ _ _ _)

pub loop-i-preserved : goal.loop-i-preserved
loop-i-preserved c =
    (search rules, run_again _ _ _ _ _ _ _ _ (omega arith) c.put_numbered.ensures c.loop-i.invariant.1)

pub returns : goal.returns
returns c = run_done _ _ _ c.loop-i.i _ _ _ (omega arith) c.loop-i.invariant.1
