-- The test of the premise passes exactly the functions in which each label name stands at one place.
use Rattle.std.specs.Prelude.{Option, None, Some}
use mathlib.Core.Path.{◌≡◌, refl, sym, ◌∙◌, ap, ap₂}
use mathlib.Core.Logic.{◌↔◌}
use mathlib.Core.Bool.{true, false, true≢false, or-true}
use mathlib.Core.List.{List, [], ◌∷◌, ◌++◌}
use Prim.Native.Nat.{ℕ}
use Rattle.cells.specs.Ins.{Ins, label, label_of}
use Rattle.cells.specs.Lists.{any}
use Rattle.cells.proofs.Facts.{alike_self, alike_true, and_true, by_test, clash, label_is}
use Rattle.cells.proofs.Lists.{any_append}
use Rattle.cleanup.specs.Premise.{AllAre, OnePlace, is_label, past_labels, ends_here, one_place}
use Rattle.cleanup.proofs.LabelPlaces.{tail_one_place}

module _ (l : ℕ) where
  named : (i : Ins) → is_label l i ≡ true → i ≡ label l
  named i y = let (m, u, v) = alike_true (Some l) (label_of i) y in label_is i l (v ∙ sym u)

  any_label : (m z : List Ins) → any (is_label l) (m ++ (label l ∷ z)) ≡ true
  any_label m z = any_append (is_label l) m (label l ∷ z) ∙ rw (alike_self l) (or-true (any (is_label l) m))

  label_split : (p : List Ins) → any (is_label l) p ≡ true → (a : List Ins) × (z : List Ins) × (p ≡ a ++ (label l ∷ z))
  label_split [] e = absurd (true≢false (sym e))
  label_split (i ∷ p) e = by_test (is_label l i)
      (λ y. ([], p, ap (λ j. j ∷ p) (named i y)))
      (λ y. let (a, z, x) = label_split p (rw y at e) in (i ∷ a, z, ap (◌∷◌ i) x))

  between : (m z : List Ins) → any (is_label l) (past_labels l (m ++ (label l ∷ z))) ≡ false → AllAre (label l) m
  between [] z e = tt
  between (i ∷ m) z e = by_test (is_label l i)
      (λ y. (named i y, between m z (rw y at e)))
      (λ y. clash (any (is_label l) (m ++ (label l ∷ z))) (any_label m z) (rw (y, y) at e))

  none_past : (p : List Ins) → ((m z : List Ins) → p ≡ m ++ (label l ∷ z) → AllAre (label l) m) → any (is_label l) (past_labels l p) ≡ false
  none_past [] o = refl
  none_past (i ∷ p) o = by_test (is_label l i)
      (λ y. rw y (none_past p (λ m z e. (o (i ∷ m) z (ap (◌∷◌ i) e)).1)))
      (λ y. rw (y, y) (by_test (any (is_label l) p)
      (λ t.
      let (a, z, x) = label_split p t in
      clash (is_label l i) (rw (o (i ∷ a) z (ap (◌∷◌ i) x)).0 (alike_self l)) y)
      (λ t. t)))

passed : (l : ℕ) (a m z : List Ins) → one_place (a ++ (label l ∷ (m ++ (label l ∷ z)))) ≡ true → AllAre (label l) m
passed l [] m z e = by_test (any (is_label l) (past_labels l (m ++ (label l ∷ z))))
    (λ y. absurd (true≢false (sym (rw y at e))))
    (λ y. between l m z y)
passed l (i ∷ a) m z e = passed l a m z (and_true (ends_here (label_of i) (a ++ (label l ∷ (m ++ (label l ∷ z))))) _ e).1

passes : (p : List Ins) → OnePlace p → one_place p ≡ true
unfolding OnePlace
passes [] o = refl
passes (i ∷ p) o = rw (ends (label_of i) refl, passes p (tail_one_place i p o))
  where
    ends : (k : Option ℕ) → label_of i ≡ k → ends_here k p ≡ true
    ends None e = refl
    ends (Some l) e = rw (none_past l p (λ m z x. o l [] m z (ap₂ ◌∷◌ (label_is i l e) x)))

pub place_test : (P : List Ins) → (one_place P ≡ true) ↔ OnePlace P
unfolding OnePlace
place_test P = (λ e l a m z x. passed l a m z (rw x at e), passes P)
