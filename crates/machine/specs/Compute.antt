-- Promise: what the computed commands come to when a function runs (document 01, modules 1 and 2 and 'How a function runs'): "the Bool, comparison,
-- arithmetic and quad commands of modules 1 and 2 are computed", each through its leaf's definition (leaves/specs). And document 02, W2: "When a
-- function runs, these four become computed commands", the truth-order quads; and W4: "The interpreter makers now follow IEEE 754", so that DivF64
-- by either zero, which ended a run in document 01, has a result.
use Rattle.std.specs.Prelude.{Bool, ◌&&◌, ◌||◌, not, List, [], ◌∷◌, ℕ, ltb, leb, Ok, Err, Option, None, Some}
use Rattle.std.specs.Int.Signed.{lt_z, le_z}
use Rattle.leaves.specs.declared.quad.Quad.{Quad}
use Rattle.leaves.specs.Float.{add_f64, sub_f64, mul_f64, ieee_div_f64}
use Rattle.leaves.specs.Signed.{add_i32, sub_i32, mul_i32, div_i32, mod_i32}
use Rattle.leaves.specs.Unsigned.{add_u32, sub_u32, mul_u32, div_u32, mod_u32}
use Rattle.leaves.specs.Fixed.{add_fx, sub_fx, mul_fx, div_fx}
use Rattle.leaves.specs.Quads.{q_and, q_or, q_not, q_impl, q_truth_and, q_truth_or, q_truth_not, q_truth_impl}
use Rattle.cells.specs.Ins.{Const}
use Rattle.machine.specs.Values.{Value as Held, operand, written_of}
use Rattle.machine.specs.Evaluate.{Meaning, two_i32, two_u32, two_fx, two_f64, two_bool, two_quad, equality, i32_test, u32_test, bools, quads, Means, means, look_up, evaluate}
use Rattle.leaves.specs.Verdict.{Verdict}
use Rattle.leaves.specs.declared.verdict.Decline.TheVariants.{LeftUnknown, RightUnknown, Unfit, DivisorZero, OutOfRange, NotComputed}

-- the 35 computed commands
unfoldable pub meanings : List Means
meanings =
    means 0x11 (two_f64 add_f64) ∷  -- AddF64
    means 0x12 (two_fx add_fx) ∷  -- AddFx
    means 0x13 (two_i32 add_i32) ∷  -- AddI32
    means 0x16 (bools ◌&&◌) ∷  -- BoolAnd
    means 0x17 (bools (λ (a b : Bool). not a)) ∷  -- BoolNot
    means 0x18 (bools ◌||◌) ∷  -- BoolOr
    means 0x19 (equality (λ (e : Bool). e)) ∷  -- CmpEq
    means 0x1A (i32_test le_z) ∷  -- CmpI32Le
    means 0x1B (i32_test lt_z) ∷  -- CmpI32Lt
    means 0x1C (u32_test leb) ∷  -- CmpU32Le
    means 0x1D (u32_test ltb) ∷  -- CmpU32Lt
    means 0x1E (two_u32 add_u32) ∷  -- AddU32
    means 0x1F (two_u32 sub_u32) ∷  -- SubU32
    means 0x20 (two_u32 mul_u32) ∷  -- MulU32
    means 0x21 (two_u32 div_u32) ∷  -- DivU32
    means 0x22 (two_u32 mod_u32) ∷  -- ModU32
    means 0x23 (equality not) ∷  -- CmpNe
    means 0x25 (two_f64 ieee_div_f64) ∷  -- DivF64
    means 0x26 (two_fx div_fx) ∷  -- DivFx
    means 0x27 (two_i32 div_i32) ∷  -- DivI32
    means 0x39 (two_i32 mod_i32) ∷  -- ModI32
    means 0x3A (two_f64 mul_f64) ∷  -- MulF64
    means 0x3B (two_fx mul_fx) ∷  -- MulFx
    means 0x3C (two_i32 mul_i32) ∷  -- MulI32
    means 0x3D (quads q_and) ∷  -- QAnd
    means 0x3E (quads q_impl) ∷  -- QImpl
    means 0x3F (quads (λ (a b : Quad). q_not a)) ∷  -- QNot
    means 0x40 (quads q_or) ∷  -- QOr
    means 0x41 (quads q_truth_and) ∷  -- QTruthAnd
    means 0x42 (quads q_truth_impl) ∷  -- QTruthImpl
    means 0x43 (quads (λ (a b : Quad). q_truth_not a)) ∷  -- QTruthNot
    means 0x44 (quads q_truth_or) ∷  -- QTruthOr
    means 0x4E (two_f64 sub_f64) ∷  -- SubF64
    means 0x4F (two_fx sub_fx) ∷  -- SubFx
    means 0x50 (two_i32 sub_i32) ∷  -- SubI32
    []

unfoldable pub meaning : ℕ → Option Meaning
meaning o = look_up o meanings

-- what a command comes to: a value, an operand of a wrong kind, no result, or an outside action. "An operand of a wrong kind, or a missing
-- result, ends the run"
pub data Outcome : Type 0 where
  value : Const → Outcome
  unfit : Outcome
  nothing : Outcome
  outside : Outcome

-- a result by its bits, "NaN bits as in module 1": 7FF8000000000000
abbrev pub result : Option Const → Outcome
result None = nothing
result (Some k) = value k

-- an "other" operand, which no command knows: of a wrong kind; but "CmpEq and CmpNe with an "other" operand are outside actions"
abbrev pub at_other : Option Meaning → Outcome
at_other None = outside
at_other (Some (two_i32 f)) = unfit
at_other (Some (two_u32 f)) = unfit
at_other (Some (two_fx f)) = unfit
at_other (Some (two_f64 f)) = unfit
at_other (Some (two_bool f)) = unfit
at_other (Some (two_quad f)) = unfit
at_other (Some (equality n)) = outside

-- what a verdict comes to, x being what an "other" operand does. Whichever reason there is against a result, the run ends by one cause, "no result"
abbrev pub outcome : Outcome → Verdict → Outcome
outcome x (Ok v) = result (written_of v)
outcome x (Err LeftUnknown) = x
outcome x (Err RightUnknown) = x
outcome x (Err Unfit) = unfit
outcome x (Err DivisorZero) = nothing
outcome x (Err OutOfRange) = nothing
outcome x (Err NotComputed) = outside

-- the command o at two operands
unfoldable pub compute : ℕ → Held → Held → Outcome
compute o a b = outcome (at_other (meaning o)) (evaluate (meaning o) (operand a) (operand b))
