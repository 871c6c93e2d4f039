-- Document 02's W4 of the run itself: what DivF64 comes to by either zero, and that no DivF64 is without a result.
use Rattle.std.specs.Prelude.{Some}
use mathlib.Core.Path.{◌≡◌, refl, ap}
use mathlib.Core.Logic.{◌⊎◌, inl, inr}
use mathlib.Core.Bool.{true}
use Prim.Native.Nat.{ℕ}
use lib.Ieee as Ieee
use Rattle.leaves.specs.declared.constant.ConstVal.{ConstVal}
use Rattle.leaves.specs.declared.constant.ConstVal.TheVariants.{Unknown, Quad as QuadV, Bool as BoolV, F64, I32, U32, Fx}
use Rattle.leaves.specs.Float.{float_of, bits_of, zero_float, ieee_div_f64, by_zero}
use Rattle.leaves.specs.Constants.{is_known}
use Rattle.leaves.specs.Verdicts.{declined_right}
use Rattle.leaves.proofs.Laws.{divided_by_zero}
use Rattle.cells.specs.Ins.{Const, f64}
use Rattle.cells.proofs.Facts.{by_test}
use Rattle.machine.specs.Values.{Value, con, operand}
use Rattle.machine.specs.Evaluate.{two_f64, evaluate}
use Rattle.machine.specs.Compute.{meanings, meaning, Outcome, value, unfit, outcome, compute}

-- the f64 of the bits a by the one of the bits z, where this is a zero: the request's words, in bits
pub computes-by_zero : (a z : ℕ) → Ieee.eq (float_of z) zero_float ≡ true
    → compute 0x25 (con (f64 a)) (con (f64 z)) ≡ value (f64 (bits_of (by_zero (float_of a) (float_of z))))
unfolding compute meaning meanings
computes-by_zero a z t = ap (λ x. value (f64 (bits_of x))) (divided_by_zero (float_of a) (float_of z) t)

-- a value or an unfit operand, whatever the registers hold: never 'no result'
abbrev pub Computes : Outcome → Type 0
Computes o = ((k : Const) × (o ≡ value k)) ⊎ (o ≡ unfit)

pub computes-or_unfit : (a b : Value) → Computes (compute 0x25 a b)
unfolding compute meaning meanings
computes-or_unfit a b = go (operand a) (operand b)
  where
    other_left_lem : (r : ConstVal) → Computes (outcome unfit (declined_right r))
    other_left_lem r = inr (by_test (is_known r) (λ t. rw t) (λ t. rw t))

    go : (l r : ConstVal) → Computes (outcome unfit (evaluate (Some (two_f64 ieee_div_f64)) l r))
    go (F64 x) (F64 y) = inl (f64 (bits_of (Ieee.div Ieee.binary64 x y)), refl)
    go (F64 x) Unknown = inr refl
    go (F64 x) (QuadV y) = inr refl
    go (F64 x) (BoolV y) = inr refl
    go (F64 x) (I32 y) = inr refl
    go (F64 x) (U32 y) = inr refl
    go (F64 x) (Fx y) = inr refl
    go Unknown r = inr refl
    go (QuadV x) r = other_left_lem r
    go (BoolV x) r = other_left_lem r
    go (I32 x) r = other_left_lem r
    go (U32 x) r = other_left_lem r
    go (Fx x) r = other_left_lem r
