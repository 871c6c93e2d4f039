-- `numbers::size_in` meets its contract.
use mathlib.Core.Path.{◌≡◌, sym, ◌∙◌}
use mathlib.Core.Bool.{true}
use native.Mathlib.Omega.{arith}
use lib.ListN.{get_or}
use Rattle.numbers.specs.Numbers.{is_digit}
use Rattle.numbers.proofs.Digits.{reading_not, reading_past, reading_next, reading_all}
use Rattle.numbers.proofs.size_in.Goals as goal
use Rattle.numbers.proofs.size_in.Goals.{Else-not-is_ascii_digit}

pub returns-then-not-is_ascii_digit : goal.returns-then-not-is_ascii_digit
returns-then-not-is_ascii_digit c = reading_not c.loop-b.invariant (omega arith) (sym c.is_ascii_digit.ensures.value ∙ c.if-not-is_ascii_digit.true)

-- past the test, the byte that the loop is at is a digit
digit : (c : Else-not-is_ascii_digit) → is_digit (get_or c.args.digits.now c.loop-b.b-index 0) ≡ true
digit c = sym c.is_ascii_digit.ensures.value ∙ c.if-not-is_ascii_digit.false

pub returns-then-n-gt-GREATEST_SIZE : goal.returns-then-n-gt-GREATEST_SIZE
returns-then-n-gt-GREATEST_SIZE c =
    reading_past c.loop-b.invariant (omega arith) (digit (goal.at.returns-then-n-gt-GREATEST_SIZE c).Else-not-is_ascii_digit) (rw (← c.from.ensures) c.if-n-gt-GREATEST_SIZE.true)

pub loop-b-preserved : goal.loop-b-preserved
loop-b-preserved c =
    let w = c.from.ensures in
    rw w (reading_next c.loop-b.invariant (omega arith) (digit (goal.at.loop-b-preserved c).Else-not-is_ascii_digit) (rw (← w) c.if-n-gt-GREATEST_SIZE.false))

pub returns : goal.returns
returns c = reading_all c.loop-b.invariant (omega arith)
