-- `arms::fold_value` meets its contract: an arm for each command that every rule set has, in the default table's order, then for each that only the
-- fuller rules have. DivF64 has a meaning of its own in each.
use mathlib.Core.Path.{◌≡◌, refl, ◌∙◌}
use mathlib.Core.List.{List, [], ◌∷◌, ◌++◌, map}
use Prim.Native.Nat.{ℕ}
use Rattle.leaves.specs.declared.constant.ConstVal.{ConstVal}
use Rattle.cells.proofs.Matches.{Missed, singly}
use Rattle.machine.specs.Evaluate.{Meaning, two_f64, Means, evaluate}
use Rattle.crystalfold.specs.declared.rules.RuleSet.{RuleSet}
use Rattle.crystalfold.specs.declared.rules.RuleSet.TheVariants.{Default, Fuller}
use Rattle.crystalfold.specs.Rules.{default_table, default_rules, fuller_table, fuller_rules, rules_of}
use Rattle.crystalfold.specs.Arms.{only_fuller, division_of, Choice, choice}
use Rattle.crystalfold.proofs.Meanings.{not_chosen}
use Rattle.crystalfold.proofs.arms.fold_value.Goals as goal
use Rattle.crystalfold.proofs.arms.fold_value.Goals.{Start}
use Rattle.std.specs.Prelude.{Err, Option, None, Some}
use Rattle.leaves.specs.Verdict.{Verdict}
use Rattle.leaves.specs.declared.verdict.Decline.TheVariants.{NotComputed}

-- ---- a command that every rule set has with one meaning, or with its own; one that only the fuller rules have; one that none has
in_both : (s : RuleSet) (o : ℕ) (m : Meaning) → default_rules o ≡ Some m → fuller_rules o ≡ Some m → rules_of s o ≡ Some m
in_both Default o m d f = d
in_both Fuller o m d f = f

division : (s : RuleSet) → rules_of s 0x25 ≡ Some (two_f64 (division_of s))
unfolding default_rules default_table fuller_rules fuller_table
division Default = refl
division Fuller = refl

only-fuller : (s : RuleSet) (o : ℕ) (m : Meaning) → default_rules o ≡ None → fuller_rules o ≡ Some m → (l r : ConstVal)
    → only_fuller s (evaluate (Some m) l r) ≡ evaluate (rules_of s o) l r
only-fuller Default o m d f l r = rw d
only-fuller Fuller o m d f l r = rw f

abbrev choices : List Means → List (Choice (Option Meaning))
choices ms = map (λ (m : Means). choice m.command (Some m.meaning)) ms

abbrev arms : List (List ℕ)
arms = singly (map (λ (m : Means). m.command) default_table ++ 0x41 ∷ 0x42 ∷ 0x43 ∷ 0x44 ∷ [])

in_none : (s : RuleSet) (o : ℕ) → Missed arms o → rules_of s o ≡ None
unfolding default_rules default_table fuller_rules fuller_table
in_none Default o m = not_chosen None arms (choices default_table) o m refl
in_none Fuller o m = not_chosen None arms (choices fuller_table) o m refl

-- ---- what an arm answers
module _ (c : Start) (r : Verdict) where
  folds : (o : ℕ) (m : Meaning) → c.args.op ≡ o → default_rules o ≡ Some m → fuller_rules o ≡ Some m
      → r ≡ evaluate (Some m) c.args.left c.args.right
      → r ≡ evaluate (rules_of c.args.rules c.args.op) c.args.left c.args.right
  folds o m k d f e = rw (k, in_both c.args.rules o m d f) e

  folds_division : c.args.op ≡ 0x25
      → r ≡ evaluate (Some (two_f64 (division_of c.args.rules))) c.args.left c.args.right
      → r ≡ evaluate (rules_of c.args.rules c.args.op) c.args.left c.args.right
  folds_division k e = rw (k, division c.args.rules) e

  folds-truth : (o : ℕ) (m : Meaning) → c.args.op ≡ o → default_rules o ≡ None → fuller_rules o ≡ Some m
      → r ≡ only_fuller c.args.rules (evaluate (Some m) c.args.left c.args.right)
      → r ≡ evaluate (rules_of c.args.rules c.args.op) c.args.left c.args.right
  folds-truth o m k d f e = rw k (e ∙ only-fuller c.args.rules o m d f c.args.left c.args.right)

leaves-rest : (c : Start) → Missed arms c.args.op → Err NotComputed ≡ evaluate (rules_of c.args.rules c.args.op) c.args.left c.args.right
leaves-rest c m = rw (in_none c.args.rules c.args.op m)

pub returns-in-17 : goal.returns-in-17
unfolding default_rules default_table fuller_rules fuller_table
returns-in-17 c = folds (goal.at.returns-in-17 c).Start _ 0x11 _ c.in-17.is refl refl (rw c.in-17.is at c.fold_f64.ensures)

pub returns-in-37 : goal.returns-in-37
unfolding default_rules default_table fuller_rules fuller_table
returns-in-37 c = folds_division (goal.at.returns-in-37 c).Start _ c.in-37.is (rw c.in-37.is at c.fold_f64-in-37.ensures)

pub returns-in-58 : goal.returns-in-58
unfolding default_rules default_table fuller_rules fuller_table
returns-in-58 c = folds (goal.at.returns-in-58 c).Start _ 0x3A _ c.in-58.is refl refl (rw c.in-58.is at c.fold_f64-in-58.ensures)

pub returns-in-78 : goal.returns-in-78
unfolding default_rules default_table fuller_rules fuller_table
returns-in-78 c = folds (goal.at.returns-in-78 c).Start _ 0x4E _ c.in-78.is refl refl (rw c.in-78.is at c.fold_f64-in-78.ensures)

pub returns-in-18 : goal.returns-in-18
unfolding default_rules default_table fuller_rules fuller_table
returns-in-18 c = folds (goal.at.returns-in-18 c).Start _ 0x12 _ c.in-18.is refl refl (rw c.in-18.is at c.fold_fx.ensures)

pub returns-in-38 : goal.returns-in-38
unfolding default_rules default_table fuller_rules fuller_table
returns-in-38 c = folds (goal.at.returns-in-38 c).Start _ 0x26 _ c.in-38.is refl refl (rw c.in-38.is at c.fold_fx-in-38.ensures)

pub returns-in-59 : goal.returns-in-59
unfolding default_rules default_table fuller_rules fuller_table
returns-in-59 c = folds (goal.at.returns-in-59 c).Start _ 0x3B _ c.in-59.is refl refl (rw c.in-59.is at c.fold_fx-in-59.ensures)

pub returns-in-79 : goal.returns-in-79
unfolding default_rules default_table fuller_rules fuller_table
returns-in-79 c = folds (goal.at.returns-in-79 c).Start _ 0x4F _ c.in-79.is refl refl (rw c.in-79.is at c.fold_fx-in-79.ensures)

pub returns-in-19 : goal.returns-in-19
unfolding default_rules default_table fuller_rules fuller_table
returns-in-19 c = folds (goal.at.returns-in-19 c).Start _ 0x13 _ c.in-19.is refl refl (rw c.in-19.is at c.fold_i32.ensures)

pub returns-in-26 : goal.returns-in-26
unfolding default_rules default_table fuller_rules fuller_table
returns-in-26 c = folds (goal.at.returns-in-26 c).Start _ 0x1A _ c.in-26.is refl refl (rw c.in-26.is at c.fold_i32-in-26.ensures)

pub returns-in-27 : goal.returns-in-27
unfolding default_rules default_table fuller_rules fuller_table
returns-in-27 c = folds (goal.at.returns-in-27 c).Start _ 0x1B _ c.in-27.is refl refl (rw c.in-27.is at c.fold_i32-in-27.ensures)

pub returns-in-39 : goal.returns-in-39
unfolding default_rules default_table fuller_rules fuller_table
returns-in-39 c = folds (goal.at.returns-in-39 c).Start _ 0x27 _ c.in-39.is refl refl (rw c.in-39.is at c.fold_i32-in-39.ensures)

pub returns-in-57 : goal.returns-in-57
unfolding default_rules default_table fuller_rules fuller_table
returns-in-57 c = folds (goal.at.returns-in-57 c).Start _ 0x39 _ c.in-57.is refl refl (rw c.in-57.is at c.fold_i32-in-57.ensures)

pub returns-in-60 : goal.returns-in-60
unfolding default_rules default_table fuller_rules fuller_table
returns-in-60 c = folds (goal.at.returns-in-60 c).Start _ 0x3C _ c.in-60.is refl refl (rw c.in-60.is at c.fold_i32-in-60.ensures)

pub returns-in-80 : goal.returns-in-80
unfolding default_rules default_table fuller_rules fuller_table
returns-in-80 c = folds (goal.at.returns-in-80 c).Start _ 0x50 _ c.in-80.is refl refl (rw c.in-80.is at c.fold_i32-in-80.ensures)

pub returns-in-28 : goal.returns-in-28
unfolding default_rules default_table fuller_rules fuller_table
returns-in-28 c = folds (goal.at.returns-in-28 c).Start _ 0x1C _ c.in-28.is refl refl (rw c.in-28.is at c.fold_u32.ensures)

pub returns-in-29 : goal.returns-in-29
unfolding default_rules default_table fuller_rules fuller_table
returns-in-29 c = folds (goal.at.returns-in-29 c).Start _ 0x1D _ c.in-29.is refl refl (rw c.in-29.is at c.fold_u32-in-29.ensures)

pub returns-in-30 : goal.returns-in-30
unfolding default_rules default_table fuller_rules fuller_table
returns-in-30 c = folds (goal.at.returns-in-30 c).Start _ 0x1E _ c.in-30.is refl refl (rw c.in-30.is at c.fold_u32-in-30.ensures)

pub returns-in-31 : goal.returns-in-31
unfolding default_rules default_table fuller_rules fuller_table
returns-in-31 c = folds (goal.at.returns-in-31 c).Start _ 0x1F _ c.in-31.is refl refl (rw c.in-31.is at c.fold_u32-in-31.ensures)

pub returns-in-32 : goal.returns-in-32
unfolding default_rules default_table fuller_rules fuller_table
returns-in-32 c = folds (goal.at.returns-in-32 c).Start _ 0x20 _ c.in-32.is refl refl (rw c.in-32.is at c.fold_u32-in-32.ensures)

pub returns-in-33 : goal.returns-in-33
unfolding default_rules default_table fuller_rules fuller_table
returns-in-33 c = folds (goal.at.returns-in-33 c).Start _ 0x21 _ c.in-33.is refl refl (rw c.in-33.is at c.fold_u32-in-33.ensures)

pub returns-in-34 : goal.returns-in-34
unfolding default_rules default_table fuller_rules fuller_table
returns-in-34 c = folds (goal.at.returns-in-34 c).Start _ 0x22 _ c.in-34.is refl refl (rw c.in-34.is at c.fold_u32-in-34.ensures)

pub returns-in-22 : goal.returns-in-22
unfolding default_rules default_table fuller_rules fuller_table
returns-in-22 c = folds (goal.at.returns-in-22 c).Start _ 0x16 _ c.in-22.is refl refl (rw c.in-22.is at c.fold_bool.ensures)

pub returns-in-23 : goal.returns-in-23
unfolding default_rules default_table fuller_rules fuller_table
returns-in-23 c = folds (goal.at.returns-in-23 c).Start _ 0x17 _ c.in-23.is refl refl (rw c.in-23.is at c.fold_bool-in-23.ensures)

pub returns-in-24 : goal.returns-in-24
unfolding default_rules default_table fuller_rules fuller_table
returns-in-24 c = folds (goal.at.returns-in-24 c).Start _ 0x18 _ c.in-24.is refl refl (rw c.in-24.is at c.fold_bool-in-24.ensures)

pub returns-in-61 : goal.returns-in-61
unfolding default_rules default_table fuller_rules fuller_table
returns-in-61 c = folds (goal.at.returns-in-61 c).Start _ 0x3D _ c.in-61.is refl refl (rw c.in-61.is at c.fold_quad.ensures)

pub returns-in-62 : goal.returns-in-62
unfolding default_rules default_table fuller_rules fuller_table
returns-in-62 c = folds (goal.at.returns-in-62 c).Start _ 0x3E _ c.in-62.is refl refl (rw c.in-62.is at c.fold_quad-in-62.ensures)

pub returns-in-63 : goal.returns-in-63
unfolding default_rules default_table fuller_rules fuller_table
returns-in-63 c = folds (goal.at.returns-in-63 c).Start _ 0x3F _ c.in-63.is refl refl (rw c.in-63.is at c.fold_quad-in-63.ensures)

pub returns-in-64 : goal.returns-in-64
unfolding default_rules default_table fuller_rules fuller_table
returns-in-64 c = folds (goal.at.returns-in-64 c).Start _ 0x40 _ c.in-64.is refl refl (rw c.in-64.is at c.fold_quad-in-64.ensures)

pub returns-in-25 : goal.returns-in-25
unfolding default_rules default_table fuller_rules fuller_table
returns-in-25 c = folds (goal.at.returns-in-25 c).Start _ 0x19 _ c.in-25.is refl refl (rw c.in-25.is at c.fold_equality.ensures)

pub returns-in-35 : goal.returns-in-35
unfolding default_rules default_table fuller_rules fuller_table
returns-in-35 c = folds (goal.at.returns-in-35 c).Start _ 0x23 _ c.in-35.is refl refl (rw c.in-35.is at c.fold_equality-in-35.ensures)

pub returns-in-65 : goal.returns-in-65
unfolding default_rules default_table fuller_rules fuller_table
returns-in-65 c = folds-truth (goal.at.returns-in-65 c).Start _ 0x41 _ c.in-65.is refl refl (rw c.in-65.is at c.fold_truth.ensures)

pub returns-in-66 : goal.returns-in-66
unfolding default_rules default_table fuller_rules fuller_table
returns-in-66 c = folds-truth (goal.at.returns-in-66 c).Start _ 0x42 _ c.in-66.is refl refl (rw c.in-66.is at c.fold_truth-in-66.ensures)

pub returns-in-67 : goal.returns-in-67
unfolding default_rules default_table fuller_rules fuller_table
returns-in-67 c = folds-truth (goal.at.returns-in-67 c).Start _ 0x43 _ c.in-67.is refl refl (rw c.in-67.is at c.fold_truth-in-67.ensures)

pub returns-in-68 : goal.returns-in-68
unfolding default_rules default_table fuller_rules fuller_table
returns-in-68 c = folds-truth (goal.at.returns-in-68 c).Start _ 0x44 _ c.in-68.is refl refl (rw c.in-68.is at c.fold_truth-in-68.ensures)

pub returns-in_default : goal.returns-in_default
unfolding default_rules default_table fuller_rules fuller_table
returns-in_default c = leaves-rest (goal.at.returns-in_default c).Start c.in_default.in_default-own.rest
