-- Inner: what each arm of the fold chooses among: its commands, by their operands' kinds, and the leaf of each.
use Rattle.std.specs.Prelude.{Bool, cond, ◌&&◌, ◌||◌, not, List, [], ◌∷◌, ℕ, eqb, ltb, leb, ℤ, Float, Ok, Err}
use Rattle.std.specs.Int.Signed.{lt_z, le_z}
use Rattle.leaves.specs.declared.quad.Quad.{Quad}
use Rattle.leaves.specs.declared.constant.ConstVal.{ConstVal}
use Rattle.leaves.specs.declared.constant.ConstVal.TheVariants.{Quad as QuadV, Bool as BoolV}
use Rattle.leaves.specs.Constants.{const_eq}
use Rattle.leaves.specs.Float.{add_f64, sub_f64, mul_f64, div_f64, ieee_div_f64}
use Rattle.leaves.specs.Signed.{add_i32, sub_i32, mul_i32, div_i32, mod_i32}
use Rattle.leaves.specs.Unsigned.{add_u32, sub_u32, mul_u32, div_u32, mod_u32}
use Rattle.leaves.specs.Fixed.{add_fx, sub_fx, mul_fx, div_fx}
use Rattle.leaves.specs.Quads.{q_and, q_or, q_not, q_impl, q_truth_and, q_truth_or, q_truth_not, q_truth_impl}
use Rattle.crystalfold.specs.declared.rules.RuleSet.{RuleSet}
use Rattle.crystalfold.specs.declared.rules.RuleSet.TheVariants.{Default, Fuller}
use Rattle.leaves.specs.Verdict.{Verdict}
use Rattle.leaves.specs.declared.verdict.Decline.TheVariants.{NotComputed}

-- a command and what an arm has for it
pub record Choice (B : Type 0) : Type 0 where
  pub key : ℕ
  pub gives : B

abbrev pub choice : {B : Type 0} → ℕ → B → Choice B
choice o b = record { key = o; gives = b }

-- what the list has for a command, else d
abbrev pub chosen : {B : Type 0} → B → ℕ → List (Choice B) → B
chosen d o [] = d
chosen d o (c ∷ cs) = cond (eqb o c.key) c.gives (chosen d o cs)

-- what a command that only the fuller rules have comes to
abbrev pub only_fuller : RuleSet → Verdict → Verdict
only_fuller Default v = Err NotComputed
only_fuller Fuller v = v

-- of two operands of one kind
abbrev pub Leaves : Type 0 → Type 0
Leaves A = List (Choice (A → A → Verdict))

abbrev pub leaf_of : {A : Type 0} → ℕ → Leaves A → A → A → Verdict
leaf_of {A} o cs = chosen (λ (a b : A). Err NotComputed) o cs

-- the division of a rule set
abbrev pub division_of : RuleSet → Float → Float → Verdict
division_of Default = div_f64
division_of Fuller = ieee_div_f64

abbrev pub f64_leaves : RuleSet → Leaves Float
f64_leaves s = choice 0x11 add_f64 ∷ choice 0x25 (division_of s) ∷ choice 0x3A mul_f64 ∷ choice 0x4E sub_f64 ∷ []

abbrev pub fx_leaves : Leaves ℤ
fx_leaves = choice 0x12 add_fx ∷ choice 0x26 div_fx ∷ choice 0x3B mul_fx ∷ choice 0x4F sub_fx ∷ []

abbrev pub i32_leaves : Leaves ℤ
i32_leaves =
    choice 0x13 add_i32 ∷
    choice 0x1A (λ (a b : ℤ). Ok (BoolV (le_z a b))) ∷
    choice 0x1B (λ (a b : ℤ). Ok (BoolV (lt_z a b))) ∷
    choice 0x27 div_i32 ∷
    choice 0x39 mod_i32 ∷
    choice 0x3C mul_i32 ∷
    choice 0x50 sub_i32 ∷
    []

abbrev pub u32_leaves : Leaves ℕ
u32_leaves =
    choice 0x1C (λ (a b : ℕ). Ok (BoolV (leb a b))) ∷
    choice 0x1D (λ (a b : ℕ). Ok (BoolV (ltb a b))) ∷
    choice 0x1E add_u32 ∷
    choice 0x1F sub_u32 ∷
    choice 0x20 mul_u32 ∷
    choice 0x21 div_u32 ∷
    choice 0x22 mod_u32 ∷
    []

abbrev pub bool_leaves : Leaves Bool
bool_leaves =
    choice 0x16 (λ (a b : Bool). Ok (BoolV (a && b))) ∷
    choice 0x17 (λ (a b : Bool). Ok (BoolV (not a))) ∷
    choice 0x18 (λ (a b : Bool). Ok (BoolV (a || b))) ∷
    []

abbrev pub quad_leaves : Leaves Quad
quad_leaves =
    choice 0x3D (λ (a b : Quad). Ok (QuadV (q_and a b))) ∷
    choice 0x3E (λ (a b : Quad). Ok (QuadV (q_impl a b))) ∷
    choice 0x3F (λ (a b : Quad). Ok (QuadV (q_not a))) ∷
    choice 0x40 (λ (a b : Quad). Ok (QuadV (q_or a b))) ∷
    choice 0x41 (λ (a b : Quad). Ok (QuadV (q_truth_and a b))) ∷
    choice 0x42 (λ (a b : Quad). Ok (QuadV (q_truth_impl a b))) ∷
    choice 0x43 (λ (a b : Quad). Ok (QuadV (q_truth_not a))) ∷
    choice 0x44 (λ (a b : Quad). Ok (QuadV (q_truth_or a b))) ∷
    []

-- of any two known values
abbrev pub equality_leaves : Leaves ConstVal
equality_leaves =
    choice 0x19 (λ (a b : ConstVal). Ok (BoolV (const_eq a b))) ∷
    choice 0x23 (λ (a b : ConstVal). Ok (BoolV (not (const_eq a b)))) ∷
    []
