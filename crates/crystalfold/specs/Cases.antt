-- Worked: the verdict on a command by the rules of each set (document 02, W5): a leaf's reason as the evaluator hands it on, and the first reason where
-- there are several. One table, and one theorem of all its rows. Behind it the code's list of written registers.
use Rattle.std.specs.Prelude.{◌≡◌, refl, true, false, List, [], ◌∷◌, map, ℕ, pos, negsuc, Ok, Err}
use Rattle.std.specs.Float.Ieee as Ieee
use Rattle.std.specs.Float.{nan, inf}
use Rattle.leaves.specs.declared.quad.Quad.TheVariants.{T}
use Rattle.leaves.specs.declared.constant.ConstVal.{ConstVal}
use Rattle.leaves.specs.declared.constant.ConstVal.TheVariants.{Unknown, Quad as QuadV, Bool as BoolV, F64, I32, U32, Fx}
use Rattle.leaves.specs.Signed.{residue, wrap, add_i32, div_i32, mod_i32}
use Rattle.leaves.specs.Unsigned.{add_u32, sub_u32, mod_u32}
use Rattle.leaves.specs.Fixed.{mul_fx, div_fx}
use Rattle.leaves.specs.Float.{float_of, div_f64}
use Rattle.leaves.specs.Quads.{meet, join}
use Rattle.leaves.specs.Constants.{const_eq}
use Rattle.machine.specs.Evaluate.{evaluate}
use Rattle.crystalfold.specs.declared.rules.RuleSet.{RuleSet}
use Rattle.crystalfold.specs.declared.rules.RuleSet.TheVariants.{Default, Fuller}
use Rattle.crystalfold.specs.InPlace.{Listed}
use Rattle.crystalfold.specs.Rules.{default_table, default_rules, fuller_table, fuller_rules, rules_of}
use Rattle.leaves.specs.Verdict.{Verdict}
use Rattle.leaves.specs.declared.verdict.Decline.TheVariants.{LeftUnknown, RightUnknown, Unfit, DivisorZero, OutOfRange, NotComputed}

pub record VerdictCase : Type 0 where
  pub rules : RuleSet
  pub command : ℕ
  pub left : ConstVal
  pub right : ConstVal
  pub verdict : Verdict

-- by one rule set
abbrev pub by : RuleSet → ℕ → ConstVal → ConstVal → Verdict → VerdictCase
by s o l r v = record { rules = s; command = o; left = l; right = r; verdict = v }

-- an f64 by its bits
abbrev pub float : ℕ → ConstVal
float n = F64 (float_of n)

abbrev pub least : ConstVal
least = I32 (negsuc 2147483647)

abbrev pub cases : List VerdictCase
cases =
    -- DivI32, in the order of the reasons: an unknown operand, the left one first; kinds unfit; divisor zero; out of range; and a value
    by Default 0x27 Unknown Unknown (Err LeftUnknown)
    ∷ by Default 0x27 Unknown (I32 (pos 0)) (Err LeftUnknown)
    ∷ by Default 0x27 least Unknown (Err RightUnknown)
    ∷ by Default 0x27 (U32 7) Unknown (Err RightUnknown)
    ∷ by Default 0x27 (U32 7) (I32 (pos 0)) (Err Unfit)
    ∷ by Default 0x27 least (U32 0) (Err Unfit)
    ∷ by Default 0x27 least (I32 (pos 0)) (Err DivisorZero)
    ∷ by Default 0x27 least (I32 (negsuc 0)) (Err OutOfRange)
    ∷ by Default 0x27 least (I32 (pos 1)) (Ok least)
    -- the reasons of other leaves: ModI32, AddU32, SubU32, ModU32, MulFx, DivFx
    ∷ by Default 0x39 least (I32 (pos 0)) (Err DivisorZero)
    ∷ by Default 0x39 least (I32 (negsuc 0)) (Err OutOfRange)
    ∷ by Default 0x1E (U32 4294967295) (U32 1) (Err OutOfRange)
    ∷ by Default 0x1F (U32 0) (U32 1) (Err OutOfRange)
    ∷ by Default 0x22 (U32 7) (U32 0) (Err DivisorZero)
    ∷ by Default 0x3B (Fx (pos 2147483647)) (Fx (pos 1001)) (Err OutOfRange)
    ∷ by Default 0x26 (Fx (pos 2147483647)) (Fx (pos 0)) (Err DivisorZero)
    ∷ by Default 0x26 (Fx (pos 2147483647)) (Fx (pos 999)) (Err OutOfRange)
    -- the fuller rules hand on the same
    ∷ by Fuller 0x27 least (I32 (pos 0)) (Err DivisorZero)
    ∷ by Fuller 0x27 least (I32 (negsuc 0)) (Err OutOfRange)
    ∷ by Fuller 0x26 (Fx (pos 2147483647)) (Fx (pos 0)) (Err DivisorZero)
    -- AddI32 wraps, and has no reason to decline
    ∷ by Default 0x13 (I32 (pos 2147483647)) (I32 (pos 1)) (Ok least)
    -- DivF64 of 1.0: by either zero the default rules decline, and the fuller ones have a value
    ∷ by Default 0x25 (float 0x3FF0_0000_0000_0000) (float 0x0000_0000_0000_0000) (Err DivisorZero)
    ∷ by Default 0x25 (float 0x3FF0_0000_0000_0000) (float 0x8000_0000_0000_0000) (Err DivisorZero)
    ∷ by Fuller 0x25 (float 0x3FF0_0000_0000_0000) (float 0x0000_0000_0000_0000) (Ok (F64 (inf false)))
    ∷ by Fuller 0x25 (float 0x3FF0_0000_0000_0000) (float 0x8000_0000_0000_0000) (Ok (F64 (inf true)))
    -- by NaN both have one
    ∷ by Default 0x25 (float 0x3FF0_0000_0000_0000) (float 0x7FF8_0000_0000_0001) (Ok (F64 nan))
    ∷ by Fuller 0x25 (float 0x3FF0_0000_0000_0000) (float 0x7FF8_0000_0000_0001) (Ok (F64 nan))
    -- a zero of another kind is unfit
    ∷ by Default 0x25 (float 0x3FF0_0000_0000_0000) (I32 (pos 0)) (Err Unfit)
    ∷ by Fuller 0x25 (float 0x3FF0_0000_0000_0000) (I32 (pos 0)) (Err Unfit)
    -- CmpEq takes any two
    ∷ by Default 0x19 (I32 (pos 0)) (U32 0) (Ok (BoolV false))
    ∷ by Default 0x19 (I32 (pos 0)) Unknown (Err RightUnknown)
    -- QTruthAnd, which the default rules don't have; a command that none has (LoadVar)
    ∷ by Default 0x41 (QuadV T) (QuadV T) (Err NotComputed)
    ∷ by Default 0x41 Unknown Unknown (Err NotComputed)
    ∷ by Fuller 0x41 (QuadV T) (QuadV T) (Ok (QuadV T))
    ∷ by Fuller 0x41 Unknown (QuadV T) (Err LeftUnknown)
    ∷ by Fuller 0x2F Unknown Unknown (Err NotComputed)
    ∷ []

pub cases_hold : map (λ (c : VerdictCase). evaluate (rules_of c.rules c.command) c.left c.right) cases ≡ map (λ (c : VerdictCase). c.verdict) cases
unfolding default_rules default_table fuller_rules fuller_table residue wrap add_i32 div_i32 mod_i32 add_u32 sub_u32 mod_u32 mul_fx div_fx div_f64 float_of const_eq meet join Ieee.eq Ieee.div Ieee.of_bits
cases_hold = refl

-- the list of written registers, of two places: a first one, a last one, the same again, one more than there is room for; and a list without a place
pub lists_hold : Listed 0 7 (0 ∷ 0 ∷ []) (7 ∷ 0 ∷ []) 1
    × Listed 1 255 (7 ∷ 0 ∷ []) (7 ∷ 255 ∷ []) 2
    × Listed 1 7 (7 ∷ 0 ∷ []) (7 ∷ 7 ∷ []) 2
    × Listed 2 3 (7 ∷ 255 ∷ []) (7 ∷ 255 ∷ []) 2
    × Listed 0 7 [] [] 0
lists_hold = (
  record { list = refl; counted = refl },
  record { list = refl; counted = refl },
  record { list = refl; counted = refl },
  record { list = refl; counted = refl },
  record { list = refl; counted = refl },
)
