-- Document 02, W5: "DivF64 in the default rewrite declines a zero divisor by that name", and by any other has a value, by NaN too; in the fuller one it
-- always has one (W4).
use mathlib.Core.Path.{◌≡◌}
use mathlib.Core.Bool.{true}
use lib.Ieee as Ieee
use lib.Ieee.{Float, binary64}
use Rattle.leaves.specs.declared.constant.ConstVal.TheVariants.{F64}
use Rattle.leaves.specs.Float.{zero_float}
use Rattle.leaves.proofs.Reasons.{Answers, Always, quotient_f64, ieee_quotient_f64}
use Rattle.machine.specs.Evaluate.{evaluate}
use Rattle.crystalfold.specs.declared.rules.RuleSet.TheVariants.{Default, Fuller}
use Rattle.crystalfold.specs.Rules.{default_table, default_rules, fuller_table, fuller_rules, rules_of}

pub default_division : (a b : Float) → Answers (Ieee.eq b zero_float ≡ true) ⊥ (F64 (Ieee.div binary64 a b)) (evaluate (rules_of Default 0x25) (F64 a) (F64 b))
unfolding default_rules default_table
default_division a b = quotient_f64 a b

pub fuller_division : (a b : Float) → Always (F64 (Ieee.div binary64 a b)) (evaluate (rules_of Fuller 0x25) (F64 a) (F64 b))
unfolding fuller_rules fuller_table
fuller_division a b = ieee_quotient_f64 a b
