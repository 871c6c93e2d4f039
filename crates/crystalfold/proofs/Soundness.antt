-- Every rule set is sound: a fold's value is what the command computes when the function runs.
use mathlib.Core.Path.{◌≡◌, refl, sym, ap, subst, ◌∙◌}
use mathlib.Core.Bool.{Bool, true, false, cond}
use mathlib.Core.List.{List, [], ◌∷◌, ◌++◌, map}
use Prim.Native.Nat.{ℕ}
use lib.Dec.{eqb}
use lib.Ieee.{Float}
use lib.ListN.{take, drop}
use Rattle.leaves.specs.declared.constant.ConstVal.{ConstVal}
use Rattle.leaves.specs.declared.constant.ConstVal.TheVariants.{Unknown, Quad as QuadV, Bool as BoolV, F64, I32, U32, Fx}
use Rattle.leaves.specs.Constants.{is_known}
use Rattle.leaves.specs.Float.{div_f64, ieee_div_f64}
use Rattle.leaves.specs.Verdicts.{value_in}
use Rattle.leaves.proofs.Laws.{same_quotient}
use Rattle.cells.specs.Lists.{All}
use Rattle.cells.proofs.Facts.{by_test, eqb_true}
use Rattle.machine.specs.Values.{value_of, written_of}
use Rattle.machine.specs.Evaluate.{Meaning, two_f64, evaluate, Means, look_up}
use Rattle.machine.specs.Compute.{meanings, meaning, value, result, outcome, at_other, compute}
use Rattle.crystalfold.specs.declared.rules.RuleSet.{RuleSet}
use Rattle.crystalfold.specs.declared.rules.RuleSet.TheVariants.{Default, Fuller}
use Rattle.crystalfold.specs.Rules.{Rules, Sound, default_table, default_rules, fuller_table, fuller_rules, rules_of}
use Rattle.std.specs.Prelude.{Ok, Err, Option, None, Some}
use Rattle.leaves.specs.Verdict.{Verdict}
use Rattle.leaves.specs.declared.verdict.Decline.TheVariants.{LeftUnknown, RightUnknown, Unfit, DivisorZero, OutOfRange, NotComputed}

-- ---- of an operand that isn't known there is no value

pub left-unknown : (m : Option Meaning) (r : ConstVal) → value_in (evaluate m Unknown r) ≡ Unknown
left-unknown None r = refl
left-unknown (Some m) r = refl

pub right-unknown : (m : Option Meaning) (l : ConstVal) → value_in (evaluate m l Unknown) ≡ Unknown
right-unknown None l = refl
right-unknown (Some m) l = by_test (is_known l) (λ y. rw y) (λ y. rw y)

-- ---- rules that are under others

-- whatever value m has, n has
abbrev pub Under : Option Meaning → Option Meaning → Type 0
Under m n = (l r v : ConstVal) → evaluate m l r ≡ Ok v → evaluate n l r ≡ Ok v

-- under the running rule they are sound
pub under_sound : (f : Rules) → ((o : ℕ) → Under (f o) (meaning o)) → Sound f
unfolding Sound compute
under_sound f u o a b v e = go (evaluate (f o) (value_of a) (value_of b)) refl e
  where
    go : (w : Verdict) → evaluate (f o) (value_of a) (value_of b) ≡ w → written_of (value_in w) ≡ Some v
        → outcome (at_other (meaning o)) (evaluate (meaning o) (value_of a) (value_of b)) ≡ value v
    go (Ok x) y z = ap (outcome (at_other (meaning o))) (u o (value_of a) (value_of b) x y) ∙ ap result z
    go (Err LeftUnknown) y z = cc
    go (Err RightUnknown) y z = cc
    go (Err Unfit) y z = cc
    go (Err DivisorZero) y z = cc
    go (Err OutOfRange) y z = cc
    go (Err NotComputed) y z = cc

-- a table under the rules g, row by row
abbrev pub Rows : Rules → List Means → Type 0
Rows g ms = All (λ (m : Means). Under (Some m.meaning) (g m.command)) ms

pub under_table : (g : Rules) (ms : List Means) → Rows g ms → (o : ℕ) → Under (look_up o ms) (g o)
under_table g [] a o = λ l r v e. cc
under_table g (m ∷ ms) a o = by_test (eqb o m.command)
    (λ y. to true y (subst (λ (k : ℕ). Under (Some m.meaning) (g k)) (sym (eqb_true o m.command y)) a.0))
    (λ y. to false y (under_table g ms a.1 o))
  where
    to : (b : Bool) → eqb o m.command ≡ b → Under (cond b (Some m.meaning) (look_up o ms)) (g o) → Under (look_up o (m ∷ ms)) (g o)
    to b y u = subst (λ (x : Option Meaning). Under x (g o)) (sym (ap (λ (t : Bool). cond t (Some m.meaning) (look_up o ms)) y)) u

-- rows that are those of g itself
abbrev pub Own : Rules → List Means → Type 0
Own g ms = map (λ (m : Means). g m.command) ms ≡ map (λ (m : Means). Some m.meaning) ms

pub own_rows : (g : Rules) (ms ns : List Means) → Own g ms → Rows g ns → Rows g (ms ++ ns)
own_rows g [] ns e a = a
own_rows g (m ∷ ms) ns e a =
    let h : g m.command ≡ Some m.meaning = cc in
    let t : Own g ms = cc in
    ((λ l r v y. ap (λ (x : Option Meaning). evaluate x l r) h ∙ y), own_rows g ms ns t a)

-- two commands of f64 operands, of which the one has every value of the other
f64-under : (f g : Float → Float → Verdict) → ((a b : Float) (v : ConstVal) → f a b ≡ Ok v → g a b ≡ Ok v) → Under (Some (two_f64 f)) (Some (two_f64 g))
f64-under f g h (F64 a) (F64 b) v e = h a b v e
f64-under f g h (F64 a) Unknown v e = e
f64-under f g h (F64 a) (QuadV x) v e = e
f64-under f g h (F64 a) (BoolV x) v e = e
f64-under f g h (F64 a) (I32 x) v e = e
f64-under f g h (F64 a) (U32 x) v e = e
f64-under f g h (F64 a) (Fx x) v e = e
f64-under f g h Unknown r v e = e
f64-under f g h (QuadV x) r v e = e
f64-under f g h (BoolV x) r v e = e
f64-under f g h (I32 x) r v e = e
f64-under f g h (U32 x) r v e = e
f64-under f g h (Fx x) r v e = e

-- the default table, whose second row is DivF64's, under rules that have IEEE 754's division and else its own rows: where its DivF64 has a value,
-- theirs has the same
default_rows : (g : Rules) → Own g (take 1 default_table) → g 0x25 ≡ Some (two_f64 ieee_div_f64) → Own g (drop 2 default_table) → Rows g default_table
unfolding default_table
default_rows g x h y = own_rows g (take 1 default_table) (drop 1 default_table) x (
  (λ l r v e. ap (λ (m : Option Meaning). evaluate m l r) h ∙ f64-under div_f64 ieee_div_f64 same_quotient l r v e),
  own_rows g (drop 2 default_table) [] y tt,
)

-- ---- the rule sets

default_sound : Sound default_rules
unfolding default_rules default_table meaning meanings
default_sound = under_sound default_rules (under_table meaning default_table (default_rows meaning refl refl refl))

-- the five rows in front of the default table are the running rule's own
fuller_sound : Sound fuller_rules
unfolding fuller_rules fuller_table default_table meaning meanings
fuller_sound = under_sound fuller_rules
    (under_table meaning fuller_table (own_rows meaning (take 5 fuller_table) default_table refl (default_rows meaning refl refl refl)))

pub sound : (s : RuleSet) → Sound (rules_of s)
sound Default = default_sound
sound Fuller = fuller_sound

-- whatever the default rules fold, the fuller ones fold, to the same value
pub default_under-fuller : (o : ℕ) → Under (default_rules o) (fuller_rules o)
unfolding default_rules default_table fuller_rules fuller_table
default_under-fuller o = under_table fuller_rules default_table (default_rows fuller_rules refl refl refl) o
