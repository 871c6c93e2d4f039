use borrow.Author.Tests.{ne_eqb}
use Rattle.cases_passes.specs.Runs.{put_numbered}
use Rattle.cases_passes.proofs.runs.put_numbered.Goals as goal

pub returns-then-place-eq0 : goal.returns-then-place-eq0
unfolding put_numbered
returns-then-place-eq0 c = simp c.if-place-eq0.true c.put_cell.ensures

pub returns : goal.returns
unfolding put_numbered
returns c = simp (ne_eqb _ _ c.if-place-eq0.false, ← c.put_cell.ensures) c.put_half.ensures
