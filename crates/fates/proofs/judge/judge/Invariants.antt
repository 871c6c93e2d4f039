-- `judge::judge` meets its contract: each arm is one turn.
use Rattle.std.proofs.Common.{◌≤◌, length}
use Rattle.cells.specs.Check.{registers}
use Rattle.fates.proofs.Judging.{JudgedTo}
use Rattle.fates.proofs.judge.judge.Given as goal

abbrev pub invariant-loop-at : goal.invariant-loop-at
invariant-loop-at l = record {
  judged : JudgedTo l.code l.list l.initial.fates l.fates l.known l.at-index;
  size : registers ≤ length l.known;
}
