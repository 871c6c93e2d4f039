-- `fold_constants_and_identities` meets its contract: each arm is one turn.
use Rattle.std.proofs.Common.{◌≤◌, length}
use Rattle.cells.specs.Check.{registers}
use Rattle.crystalfold.proofs.Turn.{Done}
use Rattle.crystalfold.proofs.fold_constants_and_identities.Given as goal

abbrev pub invariant-loop-at : goal.invariant-loop-at
invariant-loop-at l = record {
  done : Done l.rules l.initial.instrs l.at-end l.instrs l.known l.rewrites l.at;
  size : registers ≤ length l.known;
}
