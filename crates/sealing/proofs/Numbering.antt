-- The walk over the functions finds the first that repeats a number of an earlier one: it is good exactly if each number stands in one function only,
-- and else names that function and number.
use mathlib.Core.Path.{◌≡◌, refl, ap, sym, ◌∙◌}
use mathlib.Core.Logic.{◌↔◌}
use mathlib.Core.Bool.{Bool, true, false}
use mathlib.Core.List.{List, [], ◌∷◌, ◌++◌, append_assoc, append-nil}
use Prim.Native.Nat.{ℕ}
use native.Mathlib.Omega.{arith}
use lib.ListN.{length}
use Rattle.cells.specs.Functions.{Function}
use Rattle.cells.specs.Lists.{one, any, only, All}
use Rattle.cells.proofs.Facts.{by_test}
use Rattle.cells.proofs.Lists.{tally-append, any_yes, any_no, yes_any, no_any, all_each}
use Rattle.sites.specs.Numbered.{one_of}
use Rattle.sites.specs.Sites.{site_of}
use Rattle.sites.specs.declared.Which.{Which}
use Rattle.sites.proofs.Counted.{sites_any}
use Rattle.sealing.specs.Sealing.{numbers_on, stands_in, functions_with, repeated_numbers, repeated_or, numbering_from, numbering_answer}
use Rattle.sealing.specs.Promises.{InOneFunction, FirstRepeat}
use Rattle.sealing.proofs.Numbers.{by_list, FirstThat, only-first, first-only, only_none, none_only}
use Rattle.std.specs.Prelude.{Ok, Err}
use Rattle.sealing.specs.declared.SealingError.TheVariants.{Repeated}

module _ (w : Which) where
  -- the test of a number: an earlier function has it
  abbrev stood : List Function → ℕ → Bool
  stood earlier x = any (stands_in w x) earlier

  -- ---- one more function

  repeats_none : (earlier : List Function) (f : Function) → InOneFunction w earlier → repeated_numbers w earlier f ≡ [] → InOneFunction w (earlier ++ f ∷ [])
  repeats_none earlier f a e x =
      let n = tally-append (stands_in w x) earlier (f ∷ []) in
      by_test (stands_in w x f)
      (λ t.
      let o : one_of x (numbers_on w f) ≡ true = sites_any (site_of w) x f.code ∙ t in
      let z = any_no (stands_in w x) earlier (none_only (stood earlier) (numbers_on w f) e x o) in
      rw n (rw t (omega (arith, z))))
      (λ t. rw n (rw t (omega (arith, a x))))

  none_repeats : (earlier : List Function) (f : Function) → InOneFunction w (earlier ++ f ∷ []) → repeated_numbers w earlier f ≡ []
  none_repeats earlier f a = only_none (stood earlier) (numbers_on w f) λ x o.
      let t : one (stands_in w x f) ≡ 1 = rw (sym (sites_any (site_of w) x f.code) ∙ o) in
      no_any (stands_in w x) earlier (omega (arith, t, a x, tally-append (stands_in w x) earlier (f ∷ [])))

  -- a turn of the walk, where the function's repeated numbers are known
  turn : (earlier : List Function) (f : Function) (fs : List Function) {l : List ℕ} → repeated_numbers w earlier f ≡ l
      → numbering_from w earlier (f ∷ fs) ≡ repeated_or w (length earlier) l (numbering_from w (earlier ++ f ∷ []) fs)
  turn earlier f fs q = ap (λ (l : List ℕ). repeated_or w (length earlier) l (numbering_from w (earlier ++ f ∷ []) fs)) q

  -- ---- functions that stand apart are passed over

  first-apart : (a : List Function) (f : Function) (b : List Function) → InOneFunction w (a ++ f ∷ b) → InOneFunction w (a ++ f ∷ [])
  first-apart a f b h x = omega (arith, h x, tally-append (stands_in w x) a (f ∷ b), tally-append (stands_in w x) a (f ∷ []))

  passed_over : (a b c : List Function) → InOneFunction w (a ++ b) → numbering_from w a (b ++ c) ≡ numbering_from w (a ++ b) c
  passed_over a [] c h = ap (λ (z : List Function). numbering_from w z c) (sym (append-nil a))
  passed_over a (f ∷ b) c h =
      let e : (a ++ f ∷ []) ++ b ≡ a ++ f ∷ b = append_assoc a (f ∷ []) b in
      turn a f (b ++ c) (none_repeats a f (first-apart a f b h))
      ∙ passed_over (a ++ f ∷ []) b c (rw e h) ∙ ap (λ (z : List Function). numbering_from w z c) e

  -- ---- good

  numbering_apart : (a fs : List Function) → InOneFunction w a → numbering_from w a fs ≡ Ok tt → InOneFunction w (a ++ fs)
  numbering_apart a [] h e = rw (append-nil a) h
  numbering_apart a (f ∷ fs) h e = by_list (repeated_numbers w a f)
      (λ q. rw (append_assoc a (f ∷ []) fs) at (numbering_apart (a ++ f ∷ []) fs (repeats_none a f h q) (sym (turn a f fs q) ∙ e)))
      (λ y ys q. let k : Err (Repeated w (length a) y) ≡ Ok tt = sym (turn a f fs q) ∙ e in let z : ◌≡◌ {A = ℕ} 0 1 = cc in absurd (omega arith))

  pub numbering_good : (fs : List Function) → (numbering_answer w fs ≡ Ok tt) ↔ InOneFunction w fs
  unfolding numbering_answer
  numbering_good fs = (
    λ e. numbering_apart [] fs (λ x. omega arith) e,
    λ h. ap (numbering_from w []) (sym (append-nil fs)) ∙ passed_over [] fs [] h,
  )

  -- ---- a number that stands in an earlier function

  found : (a fs : List Function) (v : Which) (p x : ℕ) → InOneFunction w a → numbering_from w a fs ≡ Err (Repeated v p x) → FirstRepeat w (a ++ fs) p x
  found a [] v p x h e = let z : ◌≡◌ {A = ℕ} 0 1 = cc in absurd (omega arith)
  found a (f ∷ fs) v p x h e = by_list (repeated_numbers w a f)
      (λ q. rw (append_assoc a (f ∷ []) fs) at (found (a ++ f ∷ []) fs v p x (repeats_none a f h q) (sym (turn a f fs q) ∙ e)))
      (λ y ys q.
      let k : Err (Repeated w (length a) y) ≡ Err (Repeated v p x) = sym (turn a f fs q) ∙ e in
      let i : length a ≡ p = cc in
      let j : y ≡ x = cc in
      let r : FirstThat (stood a) (numbers_on w f) x = rw j at (only-first (stood a) (numbers_on w f) y ys q) in
      record {
        earlier = a;
        this = f;
        later = fs;
        parts = refl;
        place = sym i;
        apart = h;
        before = r.before;
        behind = r.behind;
        numbers = r.parts;
        fresh = all_each (λ (z : ℕ). stood a z ≡ false) (λ (z : ℕ). functions_with w z a ≡ 0) (λ z n. any_no (stands_in w z) a n) r.before r.fail;
        repeats = omega (arith, any_yes (stands_in w x) a r.pass, h x);
      })

  pub numbering_repeats : (fs : List Function) (p x : ℕ) → (numbering_answer w fs ≡ Err (Repeated w p x)) ↔ FirstRepeat w fs p x
  unfolding numbering_answer
  numbering_repeats fs p x = (
    λ e. found [] fs w p x (λ y. omega arith) e,
    λ r.
        let a : List Function = r.earlier in
        let fail : All (λ (z : ℕ). stood a z ≡ false) r.before = all_each (λ (z : ℕ). functions_with w z a ≡ 0) (λ (z : ℕ). stood a z ≡ false) (λ z n. no_any (stands_in w z) a n) r.before r.fresh in
        let q : repeated_numbers w a r.this ≡ x ∷ only (stood a) r.behind =
        ap (only (stood a)) r.numbers ∙ first-only (stood a) r.before r.behind x fail (yes_any (stands_in w x) a (omega (arith, r.repeats))) in
        ap (numbering_from w []) r.parts ∙ passed_over [] a (r.this ∷ r.later) r.apart ∙ turn a r.this r.later q
        ∙ ap (λ (n : ℕ). Err (Repeated w n x)) (sym r.place),
  )

  -- one or the other
  shapes : {C : Type 0} (a fs : List Function) → (numbering_from w a fs ≡ Ok tt → C) → ((p x : ℕ) → numbering_from w a fs ≡ Err (Repeated w p x) → C) → C
  shapes a [] g r = g refl
  shapes a (f ∷ fs) g r = by_list (repeated_numbers w a f)
      (λ q. shapes (a ++ f ∷ []) fs (λ e. g (turn a f fs q ∙ e)) (λ p x e. r p x (turn a f fs q ∙ e)))
      (λ y ys q. r (length a) y (turn a f fs q))

  pub by_numbering : {C : Type 0} (fs : List Function) → (numbering_answer w fs ≡ Ok tt → C) → ((p x : ℕ) → numbering_answer w fs ≡ Err (Repeated w p x) → C) → C
  unfolding numbering_answer
  by_numbering fs g r = shapes [] fs g r
