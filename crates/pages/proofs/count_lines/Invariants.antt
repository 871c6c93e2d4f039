-- `pages::count_lines` meets its contract.
use Rattle.pages.proofs.Laying.{Counted}
use Rattle.pages.proofs.count_lines.Given as goal

abbrev pub invariant-loop-f : goal.invariant-loop-f
invariant-loop-f l = Counted l.image l.f-iterator.0.now l.lines
