-- The number so far, and the digits behind it.
use Rattle.std.proofs.Common.{◌≡◌, ◌+◌, ◌-◌}
use Rattle.cases_leaves.specs.Rows.{number_in}
use Rattle.cases_leaves.proofs.row.number.Given as goal

abbrev pub invariant-loop-i : goal.invariant-loop-i
invariant-loop-i l = number_in l.line l.i (l.at + l.count - l.i) l.n ≡ number_in l.line l.at l.count 0
