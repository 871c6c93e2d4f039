-- `numbers::read_i32` meets its contract.
use mathlib.Core.Path.{◌∙◌}
use native.Mathlib.Omega.{arith}
use borrow.Author.Rules.{rules}
use Rattle.numbers.proofs.Digits.{word-minus, word-plus, word-plain}
use Rattle.numbers.proofs.read_i32.Goals as goal
use Rattle.numbers.proofs.read_i32.Goals.{in_default-via-then-word-lt1, in_default-via-else-word-lt1+in_default-1}

pub returns-in-45 : goal.returns-in-45
returns-in-45 c = c.number_of.ensures ∙ word-minus c.args.word.now c.in-45.len_at_least (omega arith)

pub returns-in-43 : goal.returns-in-43
returns-in-43 c = c.number_of-in-43.ensures ∙ word-plus c.args.word.now c.in-43.len_at_least (omega arith)

pub returns-in_default : goal.returns-in_default
returns-in_default c =
    c.number_of-in_default.ensures ∙ elim c.in_default.branch [
      | in_default-via-then-word-lt1 w ↦ word-plain c.args.word.now (λ h e. search rules) (λ h e. grind arith)
      | in_default-via-else-word-lt1+in_default-1 w ↦ word-plain c.args.word.now (λ h e. search rules) (λ h e. grind arith)
    ]
