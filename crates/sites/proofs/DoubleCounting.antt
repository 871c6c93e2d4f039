-- Double counting: where each site of some cells stands on one of them and on one event, as many events have such a site as cells have one.
use mathlib.Core.Path.{◌≡◌, refl, sym, ◌∙◌, ap}
use mathlib.Core.Bool.{false}
use mathlib.Core.List.{List, [], ◌∷◌}
use Prim.Native.Nat.{ℕ, ◌+◌, ◌≤◌}
use native.Mathlib.Omega.{arith}
use lib.Dec.{eqb}
use Rattle.cells.specs.Cells.{Cell}
use Rattle.cells.specs.Lists.{one, tally}
use Rattle.cells.proofs.Facts.{by_test, eqb_true}
use Rattle.cells.proofs.Lists.{any_yes, tally-sum, tally_false}
use Rattle.sites.specs.Sites.{is_site, stands, times, has_site}
use Rattle.sites.proofs.RustTests.{met}
use Rattle.sites.proofs.Judged.{is_site_lem}
use Rattle.std.specs.Prelude.{Option, Some, None}

eqb_swap : (m n : ℕ) → eqb m n ≡ eqb n m
eqb_swap m n = by_test (eqb m n)
    (λ y. let e = eqb_true m n y in rw e)
    (λ y. by_test (eqb n m) (λ z. let e = eqb_true n m z in rw e) (λ z. y ∙ sym z))

module _ (f g : Cell → Option ℕ) (es : List Cell) where
  none_met : (s : Option ℕ) → one (met f [] s) ≡ one false + one false
  none_met None = refl
  none_met (Some x) = refl

  more_met : (c : Cell) (gone : List Cell) (y : ℕ) → f c ≡ Some y → stands f y gone ≡ false → (s : Option ℕ) → one (met f (c ∷ gone) s) ≡ one (is_site y s) + one (met f gone s)
  more_met c gone y e u None = refl
  more_met c gone y e u (Some x) = rw (e, eqb_swap y x) (by_test (eqb x y)
      (λ v. let k = eqb_true x y v in rw (v, ap (λ z. stands f z gone) k ∙ u))
      (λ v. rw v (omega arith)))

  same_met : (c : Cell) (gone : List Cell) → f c ≡ None → (s : Option ℕ) → one (met f (c ∷ gone) s) ≡ one false + one (met f gone s)
  same_met c gone e None = refl
  same_met c gone e (Some x) = rw e (omega arith)

  pub double_counted : (gone : List Cell) → ((x : ℕ) → times f x gone ≤ 1) → ((x : ℕ) → 1 ≤ times f x gone → times g x es ≡ 1) → tally (λ e. met f gone (g e)) es ≡ tally (λ c. has_site (f c)) gone
  double_counted [] o h = tally-sum (λ e. met f [] (g e)) (λ e. false) (λ e. false) (λ e. none_met (g e)) es ∙ rw (tally_false es)
  double_counted (c ∷ gone) o h = go (f c) refl (double_counted gone (λ x. omega (arith, o x)) (λ x l. h x (omega arith)))
    where
      go : (s : Option ℕ) → f c ≡ s → tally (λ e. met f gone (g e)) es ≡ tally (λ d. has_site (f d)) gone → tally (λ e. met f (c ∷ gone) (g e)) es ≡ one (has_site (f c)) + tally (λ d. has_site (f d)) gone
      go None e r = rw e (omega (arith, tally-sum (λ e. met f (c ∷ gone) (g e)) (λ e. false) (λ e. met f gone (g e)) (λ d. same_met c gone e (g d)) es, tally_false es))
      go (Some y) e r =
          let w : one (is_site y (f c)) ≡ 1 = rw (is_site_lem y (f c) e) in
          by_test (stands f y gone)
          (λ v. absurd (omega (arith, any_yes (λ d. is_site y (f d)) gone v, o y)))
          (λ v. let k = h y (omega arith) in rw e (omega (arith, tally-sum (λ e. met f (c ∷ gone) (g e)) (λ d. is_site y (g d)) (λ e. met f gone (g e)) (λ d. more_met c gone y e v (g d)) es)))
