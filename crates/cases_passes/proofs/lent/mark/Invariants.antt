use Rattle.std.proofs.Common.{◌≡◌, take}
use Rattle.cases_passes.specs.Rows.{marks}
use Rattle.cases_passes.proofs.lent.mark.Given as goal

abbrev pub invariant-loop-i : goal.invariant-loop-i
invariant-loop-i l = take l.i l.out ≡ marks l.i
