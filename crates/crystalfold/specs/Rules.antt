-- Promise: the rules of a fold, and the rule sets. Each set has a table of its own from command to meaning, which the fold evaluates as the run does its
-- own (machine/specs/Evaluate.antt); no set is defined through the running rule.
use Rattle.std.specs.Prelude.{◌≡◌, Bool, ◌&&◌, ◌||◌, not, List, [], ◌∷◌, ℕ, ltb, leb, Option, None, Some}
use Rattle.std.specs.Int.Signed.{lt_z, le_z}
use Rattle.leaves.specs.declared.quad.Quad.{Quad}
use Rattle.leaves.specs.declared.constant.ConstVal.{ConstVal}
use Rattle.leaves.specs.declared.constant.ConstVal.TheVariants.{Unknown}
use Rattle.leaves.specs.Float.{add_f64, sub_f64, mul_f64, div_f64, ieee_div_f64}
use Rattle.leaves.specs.Signed.{add_i32, sub_i32, mul_i32, div_i32, mod_i32}
use Rattle.leaves.specs.Unsigned.{add_u32, sub_u32, mul_u32, div_u32, mod_u32}
use Rattle.leaves.specs.Fixed.{add_fx, sub_fx, mul_fx, div_fx}
use Rattle.leaves.specs.Quads.{q_and, q_or, q_not, q_impl, q_truth_and, q_truth_or, q_truth_not, q_truth_impl}
use Rattle.leaves.specs.Verdicts.{value_in}
use Rattle.cells.specs.Ins.{Const}
use Rattle.machine.specs.Values.{con, value_of, written_of}
use Rattle.machine.specs.Evaluate.{Meaning, two_i32, two_u32, two_fx, two_f64, equality, i32_test, u32_test, bools, quads, Means, means, look_up, evaluate}
use Rattle.machine.specs.Compute.{value, compute}
use Rattle.crystalfold.specs.declared.rules.RuleSet.{RuleSet}
use Rattle.crystalfold.specs.declared.rules.RuleSet.TheVariants.{Default, Fuller}

-- the meanings of the commands that are folded
abbrev pub Rules : Type 0
Rules = ℕ → Option Meaning

-- the value of what is known of an operand
abbrev pub known_of : Option Const → ConstVal
known_of None = Unknown
known_of (Some k) = value_of k

-- the constant that a command is folded to, by its meaning and what is known of its operands: the evaluator's value, if it has one
abbrev pub fold₂ : Option Meaning → Option Const → Option Const → Option Const
fold₂ m x y = written_of (value_in (evaluate m (known_of x) (known_of y)))

-- rules that give only what a command computes
unfoldable pub Sound : Rules → Type 0
Sound f = (o : ℕ) (a b v : Const) → fold₂ (f o) (Some a) (Some b) ≡ Some v → compute o (con a) (con b) ≡ value v

-- the Rust's rules, the 31 commands of document 01's modules 1, 2 and 5: "A command of modules 1 and 2, a Bool command or a comparison"; "QTruth
-- commands aren't folded"
unfoldable pub default_table : List Means
default_table =
    -- "A folded f64 result has the bits of one IEEE 754 operation"; "Division by either zero isn't folded; by NaN it is"
    means 0x11 (two_f64 add_f64) ∷  -- AddF64
    means 0x25 (two_f64 div_f64) ∷  -- DivF64
    means 0x3A (two_f64 mul_f64) ∷  -- MulF64
    means 0x4E (two_f64 sub_f64) ∷  -- SubF64
    -- "Fx is an i32 counting thousandths"
    means 0x12 (two_fx add_fx) ∷  -- AddFx
    means 0x26 (two_fx div_fx) ∷  -- DivFx
    means 0x3B (two_fx mul_fx) ∷  -- MulFx
    means 0x4F (two_fx sub_fx) ∷  -- SubFx
    -- "I32 add, subtract and multiply wrap modulo 2^32. Signed division truncates toward zero"
    means 0x13 (two_i32 add_i32) ∷  -- AddI32
    means 0x1A (i32_test le_z) ∷  -- CmpI32Le
    means 0x1B (i32_test lt_z) ∷  -- CmpI32Lt
    means 0x27 (two_i32 div_i32) ∷  -- DivI32
    means 0x39 (two_i32 mod_i32) ∷  -- ModI32
    means 0x3C (two_i32 mul_i32) ∷  -- MulI32
    means 0x50 (two_i32 sub_i32) ∷  -- SubI32
    -- "U32 sums, differences and products exist only if in range"
    means 0x1C (u32_test leb) ∷  -- CmpU32Le
    means 0x1D (u32_test ltb) ∷  -- CmpU32Lt
    means 0x1E (two_u32 add_u32) ∷  -- AddU32
    means 0x1F (two_u32 sub_u32) ∷  -- SubU32
    means 0x20 (two_u32 mul_u32) ∷  -- MulU32
    means 0x21 (two_u32 div_u32) ∷  -- DivU32
    means 0x22 (two_u32 mod_u32) ∷  -- ModU32
    means 0x16 (bools ◌&&◌) ∷  -- BoolAnd
    means 0x17 (bools (λ (a b : Bool). not a)) ∷  -- BoolNot
    means 0x18 (bools ◌||◌) ∷  -- BoolOr
    -- "QAnd is the greatest lower bound, QOr the least upper bound, QNot exchanges F and T, QImpl is QOr of QNot of the left with the right"
    means 0x3D (quads q_and) ∷  -- QAnd
    means 0x3E (quads q_impl) ∷  -- QImpl
    means 0x3F (quads (λ (a b : Quad). q_not a)) ∷  -- QNot
    means 0x40 (quads q_or) ∷  -- QOr
    -- "CmpEq and its negation CmpNe take any two"
    means 0x19 (equality (λ (e : Bool). e)) ∷  -- CmpEq
    means 0x23 (equality not) ∷  -- CmpNe
    []

unfoldable pub default_rules : Rules
default_rules o = look_up o default_table

-- the fuller rules (document 02): "the Rust's rules plus these four" (W2); and DivF64 by zero, "The fuller rewrite folds these divisions and the
-- default one still leaves them" (W4), in a row that comes before the default table's
unfoldable pub fuller_table : List Means
fuller_table =
    -- "They follow Belnap's logical order"; "And is the greatest lower bound, or the least upper bound, not exchanges F and T, impl is or of not-left
    -- with right"
    means 0x41 (quads q_truth_and) ∷  -- QTruthAnd
    means 0x42 (quads q_truth_impl) ∷  -- QTruthImpl
    means 0x43 (quads (λ (a b : Quad). q_truth_not a)) ∷  -- QTruthNot
    means 0x44 (quads q_truth_or) ∷  -- QTruthOr
    -- "a nonzero number by zero is an infinity with the product of the signs, and zero or NaN by zero is NaN"
    means 0x25 (two_f64 ieee_div_f64) ∷  -- DivF64
    default_table

unfoldable pub fuller_rules : Rules
fuller_rules o = look_up o fuller_table

abbrev pub rules_of : RuleSet → Rules
rules_of Default = default_rules
rules_of Fuller = fuller_rules
