-- A run reads of a leaf's answer only whether there is a value (document 02, W5): whatever the leaves' reasons, and with none, a command comes to the
-- same. And the one evaluator hands a leaf's answer on as it is, its reason with it.
use mathlib.Core.Path.{◌≡◌, refl, ap, ap₂, ◌∙◌, fun_ext}
use mathlib.Core.Bool.{Bool}
use mathlib.Core.List.{List, [], ◌∷◌, map}
use Prim.Native.Nat.{ℕ}
use lib.Dec.{eqb}
use lib.IntN.{ℤ}
use lib.Ieee.{Float}
use Rattle.leaves.specs.declared.quad.Quad.{Quad}
use Rattle.leaves.specs.declared.constant.ConstVal.{ConstVal}
use Rattle.leaves.specs.declared.constant.ConstVal.TheVariants.{Unknown, Quad as QuadV, Bool as BoolV, F64, I32, U32, Fx}
use Rattle.leaves.specs.Constants.{by_kind, on_quad, on_bool, on_f64, on_i32, on_u32, on_fx, is_known}
use Rattle.leaves.specs.Verdicts.{if_known}
use Rattle.leaves.specs.Signed.{div_i32, mod_i32}
use Rattle.leaves.specs.Unsigned.{add_u32, sub_u32, mul_u32, div_u32, mod_u32}
use Rattle.leaves.specs.Fixed.{add_fx, sub_fx, mul_fx, div_fx}
use Rattle.leaves.specs.Float.{div_f64}
use Rattle.leaves.proofs.WithoutReasons.{without_reason, div_i32₀, mod_i32₀, add_fx₀, sub_fx₀, mul_fx₀, div_fx₀, add_u32₀, sub_u32₀, mul_u32₀, div_u32₀, mod_u32₀, div_f64₀, same_div_i32, same_mod_i32, same_add_fx, same_sub_fx, same_mul_fx, same_div_fx, same_add_u32, same_sub_u32, same_mul_u32, same_div_u32, same_mod_u32, same_div_f64}
use Rattle.cells.proofs.Facts.{by_test}
use Rattle.machine.specs.Values.{Value as Held, operand}
use Rattle.machine.specs.Evaluate.{Meaning, two_i32, two_u32, two_fx, two_f64, two_bool, two_quad, equality, fitting, evaluate, Means, means, look_up}
use Rattle.machine.specs.Compute.{meaning, Outcome, at_other, outcome, compute}
use Rattle.std.specs.Prelude.{Ok, Err, Option, None, Some, option_map}
use Rattle.leaves.specs.Verdict.{Verdict}
use Rattle.leaves.specs.declared.verdict.Decline.TheVariants.{LeftUnknown, RightUnknown, Unfit, DivisorZero, OutOfRange, NotComputed}

-- ---- of two operands of a command's kind the verdict is what its leaf answers

pub record Carried (f : ℤ → ℤ → Verdict) (n : ℕ → ℕ → Verdict) (x : Float → Float → Verdict) : Type 0 where
  pub i32 : (a b : ℤ) → evaluate (Some (two_i32 f)) (I32 a) (I32 b) ≡ f a b
  pub fx : (a b : ℤ) → evaluate (Some (two_fx f)) (Fx a) (Fx b) ≡ f a b
  pub u32 : (a b : ℕ) → evaluate (Some (two_u32 n)) (U32 a) (U32 b) ≡ n a b
  pub f64 : (a b : Float) → evaluate (Some (two_f64 x)) (F64 a) (F64 b) ≡ x a b

pub carried : (f : ℤ → ℤ → Verdict) (n : ℕ → ℕ → Verdict) (x : Float → Float → Verdict) → Carried f n x
carried f n x = record { i32 = λ a b. refl; fx = λ a b. refl; u32 = λ a b. refl; f64 = λ a b. refl }

-- ---- a meaning whose leaf gives no reason

abbrev pub without_reasons : Meaning → Meaning
without_reasons (two_i32 f) = two_i32 (λ (a b : ℤ). without_reason (f a b))
without_reasons (two_u32 f) = two_u32 (λ (a b : ℕ). without_reason (f a b))
without_reasons (two_fx f) = two_fx (λ (a b : ℤ). without_reason (f a b))
without_reasons (two_f64 f) = two_f64 (λ (a b : Float). without_reason (f a b))
without_reasons (two_bool f) = two_bool (λ (a b : Bool). without_reason (f a b))
without_reasons (two_quad f) = two_quad (λ (a b : Quad). without_reason (f a b))
without_reasons (equality n) = equality n

-- of each leaf that may decline this is the meaning with the leaf as it was; the other leaves give no reason, and are the same
alike : {A : Type 0} {f g : A → A → Verdict} → ((a b : A) → f a b ≡ g a b) → (λ (a b : A). f a b) ≡ g
alike h = fun_ext λ a. fun_ext λ b. h a b

pub record AsBefore : Type 0 where
  pub div_i32 : without_reasons (two_i32 div_i32) ≡ two_i32 div_i32₀
  pub mod_i32 : without_reasons (two_i32 mod_i32) ≡ two_i32 mod_i32₀
  pub add_fx : without_reasons (two_fx add_fx) ≡ two_fx add_fx₀
  pub sub_fx : without_reasons (two_fx sub_fx) ≡ two_fx sub_fx₀
  pub mul_fx : without_reasons (two_fx mul_fx) ≡ two_fx mul_fx₀
  pub div_fx : without_reasons (two_fx div_fx) ≡ two_fx div_fx₀
  pub add_u32 : without_reasons (two_u32 add_u32) ≡ two_u32 add_u32₀
  pub sub_u32 : without_reasons (two_u32 sub_u32) ≡ two_u32 sub_u32₀
  pub mul_u32 : without_reasons (two_u32 mul_u32) ≡ two_u32 mul_u32₀
  pub div_u32 : without_reasons (two_u32 div_u32) ≡ two_u32 div_u32₀
  pub mod_u32 : without_reasons (two_u32 mod_u32) ≡ two_u32 mod_u32₀
  pub div_f64 : without_reasons (two_f64 div_f64) ≡ two_f64 div_f64₀

pub as_before : AsBefore
as_before = record {
  div_i32 = ap two_i32 (alike same_div_i32);
  mod_i32 = ap two_i32 (alike same_mod_i32);
  add_fx = ap two_fx (alike same_add_fx);
  sub_fx = ap two_fx (alike same_sub_fx);
  mul_fx = ap two_fx (alike same_mul_fx);
  div_fx = ap two_fx (alike same_div_fx);
  add_u32 = ap two_u32 (alike same_add_u32);
  sub_u32 = ap two_u32 (alike same_sub_u32);
  mul_u32 = ap two_u32 (alike same_mul_u32);
  div_u32 = ap two_u32 (alike same_div_u32);
  mod_u32 = ap two_u32 (alike same_mod_u32);
  div_f64 = ap two_f64 (alike same_div_f64);
}

-- so a table's rows with the reasons left out are those of the leaves as they were; and what such a table has of a command is what the table has,
-- its reason left out
abbrev pub rows_without : List Means → List Means
rows_without ms = map (λ (m : Means). means m.command (without_reasons m.meaning)) ms

pub looked_up : (o : ℕ) (ms : List Means) → look_up o (rows_without ms) ≡ option_map without_reasons (look_up o ms)
looked_up o [] = refl
looked_up o (m ∷ ms) = by_test (eqb o m.command) (λ y. rw y) (λ y. rw y (looked_up o ms))

-- a value taken apart, then the reason left out
apart : (q : Quad → Verdict) (b : Bool → Verdict) (f : Float → Verdict) (i : ℤ → Verdict) (n : ℕ → Verdict) (z : ℤ → Verdict) (v : ConstVal)
    → by_kind (Err Unfit) (λ x. without_reason (q x)) (λ x. without_reason (b x)) (λ x. without_reason (f x)) (λ x. without_reason (i x)) (λ x. without_reason (n x)) (λ x. without_reason (z x)) v
    ≡ without_reason (by_kind (Err Unfit) q b f i n z v)
apart q b f i n z Unknown = refl
apart q b f i n z (QuadV x) = refl
apart q b f i n z (BoolV x) = refl
apart q b f i n z (F64 x) = refl
apart q b f i n z (I32 x) = refl
apart q b f i n z (U32 x) = refl
apart q b f i n z (Fx x) = refl

-- both operands taken apart by one kind
module _ {A : Type 0} (on : ConstVal → (A → Verdict) → Verdict → Verdict)
    (natural : (f : A → Verdict) (v : ConstVal) → on v (λ x. without_reason (f x)) (Err Unfit) ≡ without_reason (on v f (Err Unfit))) where
  both : (f : A → A → Verdict) (l r : ConstVal)
      → on l (λ (a : A). on r (λ (b : A). without_reason (f a b)) (Err Unfit)) (Err Unfit) ≡ without_reason (on l (λ (a : A). on r (f a) (Err Unfit)) (Err Unfit))
  both f l r = ap (λ (g : A → Verdict). on l g (Err Unfit)) (fun_ext λ a. natural (f a) r) ∙ natural (λ (a : A). on r (f a) (Err Unfit)) l

abbrev unfit_at : {A : Type 0} → A → Verdict
unfit_at x = Err Unfit

fitted : (m : Meaning) (l r : ConstVal) → fitting (without_reasons m) l r ≡ without_reason (fitting m l r)
fitted (two_i32 f) l r = both on_i32 (λ g v. apart unfit_at unfit_at unfit_at g unfit_at unfit_at v) f l r
fitted (two_u32 f) l r = both on_u32 (λ g v. apart unfit_at unfit_at unfit_at unfit_at g unfit_at v) f l r
fitted (two_fx f) l r = both on_fx (λ g v. apart unfit_at unfit_at unfit_at unfit_at unfit_at g v) f l r
fitted (two_f64 f) l r = both on_f64 (λ g v. apart unfit_at unfit_at g unfit_at unfit_at unfit_at v) f l r
fitted (two_bool f) l r = both on_bool (λ g v. apart unfit_at g unfit_at unfit_at unfit_at unfit_at v) f l r
fitted (two_quad f) l r = both on_quad (λ g v. apart g unfit_at unfit_at unfit_at unfit_at unfit_at v) f l r
fitted (equality n) l r = refl

pub evaluated : (m : Option Meaning) (l r : ConstVal) → evaluate (option_map without_reasons m) l r ≡ without_reason (evaluate m l r)
evaluated None l r = refl
evaluated (Some m) l r = ap (if_known l r) (fitted m l r) ∙ by_test (is_known l)
    (λ y. by_test (is_known r) (λ z. rw (y, z)) (λ z. rw (y, z)))
    (λ y. rw y)

-- ---- the run

outcome_without : (x : Outcome) (v : Verdict) → outcome x (without_reason v) ≡ outcome x v
outcome_without x (Ok v) = refl
outcome_without x (Err LeftUnknown) = refl
outcome_without x (Err RightUnknown) = refl
outcome_without x (Err Unfit) = refl
outcome_without x (Err DivisorZero) = refl
outcome_without x (Err OutOfRange) = refl
outcome_without x (Err NotComputed) = refl

other_without : (m : Option Meaning) → at_other (option_map without_reasons m) ≡ at_other m
other_without None = refl
other_without (Some (two_i32 f)) = refl
other_without (Some (two_u32 f)) = refl
other_without (Some (two_fx f)) = refl
other_without (Some (two_f64 f)) = refl
other_without (Some (two_bool f)) = refl
other_without (Some (two_quad f)) = refl
other_without (Some (equality n)) = refl

-- what the command o comes to by a meaning, as `compute` has it
abbrev pub comes_to : Option Meaning → Held → Held → Outcome
comes_to m a b = outcome (at_other m) (evaluate m (operand a) (operand b))

pub computed : (o : ℕ) (a b : Held) → comes_to (option_map without_reasons (meaning o)) a b ≡ compute o a b
unfolding compute
computed o a b =
    let m = meaning o in
    ap₂ outcome (other_without m) (evaluated m (operand a) (operand b))
    ∙ outcome_without (at_other m) (evaluate m (operand a) (operand b))
