-- The fold reads of a leaf's answer only whether there is a value (document 02, W5): with the leaves' reasons left out, as the rules were before there
-- were any, the cells and the count are the same.
use mathlib.Core.Path.{◌≡◌, refl, ap, ap₂, ◌∙◌}
use mathlib.Core.List.{List, [], ◌∷◌}
use Prim.Native.Nat.{ℕ, ◌+◌}
use Rattle.leaves.specs.Verdicts.{value_in}
use Rattle.leaves.proofs.WithoutReasons.{without_reason}
use Rattle.cells.specs.Cells.{Cell}
use Rattle.cells.specs.Functions.{Function}
use Rattle.cells.specs.Ins.{Const, Ins, load, comp, label, jmp, jmp_if, ret, act}
use Rattle.cells.specs.View.{view, load_cell}
use Rattle.machine.specs.Values.{written_of}
use Rattle.machine.specs.Evaluate.{evaluate}
use Rattle.machine.proofs.WithoutReasons.{without_reasons, evaluated}
use Rattle.crystalfold.specs.Rules.{Rules, known_of, fold₂}
use Rattle.crystalfold.specs.Fold.{Table, unknown, note, folded_to, dst_of, known_after, one_if, fold_count, as_load, fold}
use Rattle.crystalfold.specs.CrystalFold.{fold_code, folds_of, fold_function}
use Rattle.std.specs.Prelude.{Ok, Err, Option, None, Some, option_map}
use Rattle.leaves.specs.Verdict.{Verdict}
use Rattle.leaves.specs.declared.verdict.Decline.TheVariants.{LeftUnknown, RightUnknown, Unfit, DivisorZero, OutOfRange, NotComputed}

-- rules whose leaves give no reason
abbrev pub reasonless : Rules → Rules
reasonless f = λ o. option_map without_reasons (f o)

value_without : (v : Verdict) → value_in (without_reason v) ≡ value_in v
value_without (Ok v) = refl
value_without (Err LeftUnknown) = refl
value_without (Err RightUnknown) = refl
value_without (Err Unfit) = refl
value_without (Err DivisorZero) = refl
value_without (Err OutOfRange) = refl
value_without (Err NotComputed) = refl

module _ (f : Rules) where
  same-value : (o : ℕ) (x y : Option Const) → fold₂ (reasonless f o) x y ≡ fold₂ (f o) x y
  same-value o x y = ap (λ v. written_of (value_in v)) (evaluated (f o) (known_of x) (known_of y)) ∙ ap written_of (value_without (evaluate (f o) (known_of x) (known_of y)))

  same-folded : (t : Table) (i : Ins) → folded_to (reasonless f) t i ≡ folded_to f t i
  same-folded t (load d v) = refl
  same-folded t (comp c o d a b) = same-value o (t a) (t b)
  same-folded t (label l) = refl
  same-folded t (jmp l) = refl
  same-folded t (jmp_if c l) = refl
  same-folded t (ret s) = refl
  same-folded t (act c d b) = refl

  same_known : (t : Table) (i : Ins) → known_after (reasonless f) t i ≡ known_after f t i
  same_known t (load d v) = refl
  same_known t (comp c o d a b) = ap (λ k. note d k t) (same-value o (t a) (t b))
  same_known t (label l) = refl
  same_known t (jmp l) = refl
  same_known t (jmp_if c l) = refl
  same_known t (ret s) = refl
  same_known t (act c d b) = refl

  module _ {C : Type 0} (see : C → Ins) where
    same_count : (t : Table) (p : List C) → fold_count see (reasonless f) t p ≡ fold_count see f t p
    same_count t [] = refl
    same_count t (c ∷ p) =
        ap₂ (λ (k : Option Const) (u : Table). one_if k + fold_count see (reasonless f) u p) (same-folded t (see c)) (same_known t (see c))
        ∙ ap (λ (n : ℕ). one_if (folded_to f t (see c)) + n) (same_count (known_after f t (see c)) p)

    module _ (make : ℕ → Const → C) where
      same_load : (c : C) (d : ℕ) (k : Option Const) → as_load see (reasonless f) make c d k ≡ as_load see f make c d k
      same_load c d None = refl
      same_load c d (Some v) = refl

      same_fold : (t : Table) (p : List C) → fold see (reasonless f) make t p ≡ fold see f make t p
      same_fold t [] = refl
      same_fold t (c ∷ p) =
          ap₂ (λ (k : Option Const) (u : Table). as_load see (reasonless f) make c (dst_of (see c)) k ∷ fold see (reasonless f) make u p) (same-folded t (see c)) (same_known t (see c))
          ∙ ap₂ ◌∷◌ (same_load c (dst_of (see c)) (folded_to f t (see c))) (same_fold (known_after f t (see c)) p)

  -- CrystalFold of a function, and its count
  pub same_code : (cs : List Cell) → fold_code (reasonless f) cs ≡ fold_code f cs
  unfolding fold_code
  same_code cs = same_fold view load_cell unknown cs

  pub same-folds : (cs : List Cell) → folds_of (reasonless f) cs ≡ folds_of f cs
  unfolding folds_of
  same-folds cs = same_count view unknown cs

  pub same-function : (g : Function) → fold_function (reasonless f) g ≡ fold_function f g
  unfolding fold_function
  same-function g = ap (λ (cs : List Cell). record { head = g.head; code = cs; events = g.events }) (same_code g.code)
