-- `sites::rules::check_rule` meets its contract.
use mathlib.Core.Path.{◌≡◌}
use mathlib.Core.List.{List}
use Prim.Native.Nat.{◌*◌}
use lib.ListN.{length, drop}
use Rattle.cells.specs.Cells.{Cell, cells}
use Rattle.cells.proofs.Answers.{Left}
use Rattle.sites.specs.Numbered.{count_in}
use Rattle.sites.specs.Validators.{judge_by, rule_answer}
use Rattle.sites.proofs.rules.check_rule.Given as goal

abbrev pub invariant-loop-cell : goal.invariant-loop-cell
invariant-loop-cell l = let count = count_in l.sites in
    (l.cell-iterator.size ≡ 16) × (l.cell-iterator.rest.now ≡ drop (16 * length l.yielded) l.part)
    × Left (λ (_ : List Cell) (c : Cell). judge_by l.rule l.position count c) (cells l.part) (rule_answer l.rule l.position count (cells l.part)) (length l.yielded)
