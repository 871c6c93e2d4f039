-- `numbers::number_of` meets its contract.
use mathlib.Core.Path.{◌∙◌, ap}
use mathlib.Core.Bool.{true, false}
use Rattle.numbers.specs.Numbers.{ranged}
use Rattle.numbers.proofs.Digits.{number_none, number_some, number_most}
use Rattle.numbers.proofs.Signs.{size_held, size-kept, negative_held, negative-kept, narrowed}
use Rattle.numbers.proofs.number_of.Goals as goal
use Rattle.numbers.proofs.number_of.Goals.{then-negative, else-negative}

pub returns-in_err-size : goal.returns-in_err-size
returns-in_err-size c = c.from_residual.ensures ∙ number_none c.args.digits.now c.size_in.ensures c.args.negative c.in_err-size.was

pub overflow_cast-n : goal.overflow_cast-n
overflow_cast-n c = size_held _ (number_most c.args.digits.now c.size_in.ensures _ c.in_ok-size.was)

pub overflow_sub-n : goal.overflow_sub-n
overflow_sub-n c = negative_held _ (number_most c.args.digits.now c.size_in.ensures _ c.in_ok-size.was)

pub returns : goal.returns
returns c =
    let s = c.args.digits.now in
    let e = c.size_in.ensures in
    let n = c.in_ok-size.size in
    let m = number_most s e n c.in_ok-size.was in
    c.ok.ensures.value ∙ narrowed c.try_from.result _ c.try_from.ensures ∙ elim c.if-negative.branch [
      | then-negative w ↦ rw w.if-negative.true (ap ranged (w.try_from-is ∙ negative-kept n m) ∙ number_some s e true n c.in_ok-size.was)
      | else-negative w ↦ rw w.if-negative.false (ap ranged (w.try_from-is ∙ size-kept n m) ∙ number_some s e false n c.in_ok-size.was)
    ]
