-- Promise: the one evaluator: what a command comes to at two operands, by its meaning. The running rule (Compute.antt) and every rule set of the fold
-- (crystalfold/specs/Rules.antt) have a table from command to meaning of their own, and read this verdict.
use Rattle.std.specs.Prelude.{Bool, cond, List, [], ◌∷◌, ℕ, eqb, ℤ, Float, Ok, Err, Option, None, Some}
use Rattle.leaves.specs.declared.quad.Quad.{Quad}
use Rattle.leaves.specs.declared.constant.ConstVal.{ConstVal}
use Rattle.leaves.specs.declared.constant.ConstVal.TheVariants.{Quad as QuadV, Bool as BoolV}
use Rattle.leaves.specs.Constants.{on_quad, on_bool, on_f64, on_i32, on_u32, on_fx, const_eq}
use Rattle.leaves.specs.Verdicts.{if_known}
use Rattle.leaves.specs.Verdict.{Verdict}
use Rattle.leaves.specs.declared.verdict.Decline.TheVariants.{Unfit, NotComputed}

-- the meaning of a command: what it comes to of what two operands of one kind hold (a command of one operand reads it twice), or an equality
-- of any two, as it is or negated
pub data Meaning : Type 0 where
  two_i32 : (ℤ → ℤ → Verdict) → Meaning
  two_u32 : (ℕ → ℕ → Verdict) → Meaning
  two_fx : (ℤ → ℤ → Verdict) → Meaning
  two_f64 : (Float → Float → Verdict) → Meaning
  two_bool : (Bool → Bool → Verdict) → Meaning
  two_quad : (Quad → Quad → Verdict) → Meaning
  equality : (Bool → Bool) → Meaning

-- by a test, or by what has a value at any two
abbrev pub i32_test : (ℤ → ℤ → Bool) → Meaning
i32_test f = two_i32 (λ (a b : ℤ). Ok (BoolV (f a b)))

abbrev pub u32_test : (ℕ → ℕ → Bool) → Meaning
u32_test f = two_u32 (λ (a b : ℕ). Ok (BoolV (f a b)))

abbrev pub bools : (Bool → Bool → Bool) → Meaning
bools f = two_bool (λ (a b : Bool). Ok (BoolV (f a b)))

abbrev pub quads : (Quad → Quad → Quad) → Meaning
quads f = two_quad (λ (a b : Quad). Ok (QuadV (f a b)))

-- at two known operands: others than of the command's kind are unfit, also where there would be no result; else what the leaf answers, its value or
-- its reason
abbrev pub fitting : Meaning → ConstVal → ConstVal → Verdict
fitting (two_i32 f) l r = on_i32 l (λ (a : ℤ). on_i32 r (f a) (Err Unfit)) (Err Unfit)
fitting (two_u32 f) l r = on_u32 l (λ (a : ℕ). on_u32 r (f a) (Err Unfit)) (Err Unfit)
fitting (two_fx f) l r = on_fx l (λ (a : ℤ). on_fx r (f a) (Err Unfit)) (Err Unfit)
fitting (two_f64 f) l r = on_f64 l (λ (a : Float). on_f64 r (f a) (Err Unfit)) (Err Unfit)
fitting (two_bool f) l r = on_bool l (λ (a : Bool). on_bool r (f a) (Err Unfit)) (Err Unfit)
fitting (two_quad f) l r = on_quad l (λ (a : Quad). on_quad r (f a) (Err Unfit)) (Err Unfit)
fitting (equality n) l r = Ok (BoolV (n (const_eq l r)))

-- the first that applies: the left or only operand unknown, the right one unknown, kinds unfit, divisor zero, out of range; or the value
abbrev pub evaluate : Option Meaning → ConstVal → ConstVal → Verdict
evaluate None l r = Err NotComputed
evaluate (Some m) l r = if_known l r (fitting m l r)

-- ---- a table from command to meaning

pub record Means : Type 0 where
  pub command : ℕ
  pub meaning : Meaning

abbrev pub means : ℕ → Meaning → Means
means o m = record { command = o; meaning = m }

-- the meaning of a command that the table has
abbrev pub look_up : ℕ → List Means → Option Meaning
look_up o [] = None
look_up o (m ∷ ms) = cond (eqb o m.command) (Some m.meaning) (look_up o ms)
