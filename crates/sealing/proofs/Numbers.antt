-- Laws of lists of numbers: the first that passes a test, and none that does; and where a number stands, by the lists of the functions' numbers.
use mathlib.Core.Path.{◌≡◌, refl, ap, ap₂, sym, ◌∙◌}
use mathlib.Core.Bool.{Bool, true, false, ◌||◌, or-true, true≢false}
use mathlib.Core.List.{List, [], ◌∷◌, ◌++◌, append_assoc}
use Prim.Native.Nat.{ℕ}
use native.Mathlib.Omega.{arith}
use lib.Dec.{eqb}
use Rattle.cells.specs.Functions.{Function}
use Rattle.cells.specs.Lists.{any, only, All}
use Rattle.cells.proofs.Facts.{by_test, eqb_true, eqb_self}
use Rattle.cells.proofs.Lists.{any_append}
use Rattle.sites.specs.Numbered.{one_of}
use Rattle.sites.specs.Sites.{site_of}
use Rattle.sites.specs.declared.Which.{Which}
use Rattle.sites.proofs.Counted.{sites_any}
use Rattle.sealing.specs.Sealing.{numbers_on, stands_in}
use Rattle.sealing.specs.Steps.{numbers_of_all}

-- goes by what a list is, with the equation
pub by_list : {C : Type 0} (l : List ℕ) → (l ≡ [] → C) → ((y : ℕ) (ys : List ℕ) → l ≡ y ∷ ys → C) → C
by_list [] f g = f refl
by_list (y ∷ ys) f g = g y ys refl

-- x is the first of xs that passes the test g
pub record FirstThat (g : ℕ → Bool) (xs : List ℕ) (x : ℕ) : Type 0 where
  pub before : List ℕ
  pub behind : List ℕ
  pub parts : xs ≡ before ++ x ∷ behind
  pub fail : All (λ (y : ℕ). g y ≡ false) before
  pub pass : g x ≡ true

module _ (g : ℕ → Bool) where
  pub only-first : (xs : List ℕ) (x : ℕ) (more : List ℕ) → only g xs ≡ x ∷ more → FirstThat g xs x
  only-first [] x more e = let z : ◌≡◌ {A = ℕ} 0 1 = cc in absurd (omega arith)
  only-first (y ∷ ys) x more e = by_test (g y)
      (λ t.
      let k : y ∷ only g ys ≡ x ∷ more = rw t at e in
      let q : y ≡ x = cc in
      record { before = []; behind = ys; parts = ap (λ (z : ℕ). z ∷ ys) q; fail = tt; pass = rw (← q) t })
      (λ f.
      let r = only-first ys x more (rw f at e) in
      record { before = y ∷ r.before; behind = r.behind; parts = ap (◌∷◌ y) r.parts; fail = (f, r.fail); pass = r.pass })

  pub first-only : (before behind : List ℕ) (x : ℕ) → All (λ (y : ℕ). g y ≡ false) before → g x ≡ true → only g (before ++ x ∷ behind) ≡ x ∷ only g behind
  first-only [] behind x a e = rw e
  first-only (y ∷ ys) behind x a e = rw a.0 (first-only ys behind x a.1 e)

  -- none passes
  pub only_none : (xs : List ℕ) → ((x : ℕ) → one_of x xs ≡ true → g x ≡ false) → only g xs ≡ []
  only_none [] h = refl
  only_none (x ∷ xs) h =
      let e : g x ≡ false = h x (rw (eqb_self x)) in
      rw e (only_none xs (λ y o. h y (rw o (or-true (eqb x y)))))

  pub none_only : (xs : List ℕ) → only g xs ≡ [] → (x : ℕ) → one_of x xs ≡ true → g x ≡ false
  none_only [] e x o = absurd (true≢false (sym o))
  none_only (y ∷ ys) e x o = by_test (g y)
      (λ t. let k : y ∷ only g ys ≡ [] = rw t at e in let z : ◌≡◌ {A = ℕ} 0 1 = cc in absurd (omega arith))
      (λ f. by_test (eqb y x)
      (λ a. rw (← (eqb_true y x a)) f)
      (λ a. none_only ys (rw f at e) x (rw a at o)))

module _ (w : Which) where
  -- a number stands in one of the functions exactly if it is one of their numbers
  pub stands-among : (x : ℕ) (fs : List Function) → any (stands_in w x) fs ≡ one_of x (numbers_of_all w fs)
  stands-among x [] = refl
  stands-among x (f ∷ fs) =
      ap₂ ◌||◌ (sym (sites_any (site_of w) x f.code)) (stands-among x fs) ∙ sym (any_append (λ (y : ℕ). eqb y x) (numbers_on w f) (numbers_of_all w fs))

  pub numbers_append : (fs gs : List Function) → numbers_of_all w (fs ++ gs) ≡ numbers_of_all w fs ++ numbers_of_all w gs
  numbers_append [] gs = refl
  numbers_append (f ∷ fs) gs = ap (λ (xs : List ℕ). numbers_on w f ++ xs) (numbers_append fs gs) ∙ sym (append_assoc (numbers_on w f) (numbers_of_all w fs) (numbers_of_all w gs))
