-- An answer that is right is the only one, and the search finds it.
use mathlib.Core.Path.{◌≡◌, refl, sym, ◌∙◌, ap, subst}
use mathlib.Core.Logic.{◌⊎◌, inl, inr, ⊎_elim}
use mathlib.Core.Bool.{Bool, true, false, ◌&&◌, true≢false}
use Prim.Native.Nat.{ℕ, zero, suc, ◌+◌, ◌≤◌, ◌<◌}
use native.Mathlib.Decide.{dec_le}
use native.Mathlib.Omega.{arith}
use lib.IntN.{ℤ, pos, negsuc, neg_ℤ, nat_abs}
use Rattle.leaves.specs.Constants.{const_eq, is_known}
use Rattle.leaves.specs.Signed.{in_i32}
use Rattle.leaves.specs.Verdicts.{value_in}
use Rattle.leaves.specs.declared.constant.ConstVal.{ConstVal}
use Rattle.leaves.specs.declared.constant.ConstVal.TheVariants.{Unknown, Quad as QuadV, Bool as BoolV, F64, I32, U32, Fx}
use Rattle.leaves.proofs.Laws.{same_sound, same_self}
use Rattle.leaves.proofs.Ranges.{abs_neg, abs32, sfits_in}
use Rattle.factor.specs.Factor.{gives, first, nearest_zero}
use Rattle.factor.specs.Claim.{IsFactor, Nearest, Answers}
use Rattle.std.specs.Prelude.{Option, Some, None, Ok, Err}
use Rattle.leaves.specs.Verdict.{Verdict}
use Rattle.leaves.specs.declared.verdict.Decline.TheVariants.{LeftUnknown, RightUnknown, Unfit, DivisorZero, OutOfRange, NotComputed}

pub by_test : {C : Type 0} (b : Bool) → (b ≡ true → C) → (b ≡ false → C) → C
by_test true f g = f refl
by_test false f g = g refl

-- the same numbers have the same answer
pub answers_map : (Is Js : ℤ → Type 0) → ((x : ℤ) → Is x → Js x) → ((x : ℤ) → Js x → Is x) → (r : Option ℤ) → Answers Is r → Answers Js r
answers_map Is Js f g (Some x) n = record { is = f x n.is; nearest = λ y j. n.nearest y (g y j); positive = λ j. n.positive (g (pos (nat_abs x)) j) }
answers_map Is Js f g None n = λ y j. n y (g y j)

-- ---- it is the only one

same_size : (x y : ℤ) → nat_abs x ≡ nat_abs y → (x ≡ y) ⊎ ((x ≡ pos (nat_abs x)) ⊎ (y ≡ pos (nat_abs y)))
same_size (pos m) (pos n) e = inl (ap pos e)
same_size (pos m) (negsuc n) e = inr (inl refl)
same_size (negsuc m) (pos n) e = inr (inr refl)
same_size (negsuc m) (negsuc n) e = inl (ap negsuc (omega arith))

module _ (Is : ℤ → Type 0) where
  nearest_one : (x y : ℤ) → Nearest Is x → Nearest Is y → x ≡ y
  nearest_one x y p q = go (same_size x y e)
    where
      e : nat_abs x ≡ nat_abs y
      e = omega (arith, p.nearest y q.is, q.nearest x p.is)

      go : (x ≡ y) ⊎ ((x ≡ pos (nat_abs x)) ⊎ (y ≡ pos (nat_abs y))) → x ≡ y
      go (inl d) = d
      go (inr (inl d)) = d ∙ ap pos e ∙ sym (q.positive (subst Is (d ∙ ap pos e) p.is))
      go (inr (inr d)) = p.positive (subst Is (d ∙ ap pos (sym e)) q.is) ∙ ap pos e ∙ sym d

  pub answers_one : (r s : Option ℤ) → Answers Is r → Answers Is s → r ≡ s
  answers_one (Some x) (Some y) p q = ap Some (nearest_one x y p q)
  answers_one (Some x) None p q = absurd (q x p.is)
  answers_one None (Some y) p q = absurd (p y q.is)
  answers_one None None p q = refl

  pub answers_none : (r : Option ℤ) → Answers Is r → (r ≡ None → (x : ℤ) → Is x → ⊥) × (((x : ℤ) → Is x → ⊥) → r ≡ None)
  answers_none r p = (λ e. subst (Answers Is) e p, λ n. answers_one r None p n)

-- ---- and the search finds it

sizes : (x : ℤ) (n : ℕ) → nat_abs x ≡ n → (x ≡ pos n) ⊎ (x ≡ neg_ℤ (pos n))
sizes (pos m) n e = inl (ap pos e)
sizes (negsuc m) n e = inr (ap (λ (k : ℕ). neg_ℤ (pos k)) e)

module _ (test : ℤ → Bool) where
  -- one size: its positive number, its negative one, or the sizes behind it
  first_positive : (n k : ℕ) → test (pos n) ≡ true → first test n (suc k) ≡ Some (pos n)
  unfolding first
  first_positive n k t = rw t

  first-negative : (n k : ℕ) → test (pos n) ≡ false → test (neg_ℤ (pos n)) ≡ true → first test n (suc k) ≡ Some (neg_ℤ (pos n))
  unfolding first
  first-negative n k t u = rw (t, u)

  first_neither : (n k : ℕ) → test (pos n) ≡ false → test (neg_ℤ (pos n)) ≡ false → first test n (suc k) ≡ first test (suc n) k
  unfolding first
  first_neither n k t u = rw (t, u)

  abbrev Passes : ℤ → Type 0
  Passes x = test x ≡ true

  first_answers : (k n : ℕ) → ((x : ℤ) → Passes x → n ≤ nat_abs x) → ((x : ℤ) → Passes x → nat_abs x < n + k) → Answers Passes (first test n k)
  unfolding first
  first_answers zero n l h = λ y t. omega (arith, l y t, h y t)
  first_answers (suc k) n l h = by_test (test (pos n))
      (λ t. rw (first_positive n k t) (record { is = t; nearest = l; positive = λ _. refl }))
      (λ t. by_test (test (neg_ℤ (pos n)))
      (λ u. rw (first-negative n k t u) (record { is = u; nearest = λ y v. rw (abs_neg (pos n)) (l y v); positive = λ v. absurd (true≢false (sym v ∙ ap (λ (m : ℕ). test (pos m)) (abs_neg (pos n)) ∙ t)) }))
      (λ u. rw (first_neither n k t u) (first_answers k (suc n) (λ x v. more x v t u (dec_le (suc n) (nat_abs x))) (λ x v. omega (arith, h x v)))))
    where
      more : (x : ℤ) → Passes x → test (pos n) ≡ false → test (neg_ℤ (pos n)) ≡ false → Dec (suc n ≤ nat_abs x) → suc n ≤ nat_abs x
      more x v t u (yes d) = d
      more x v t u (no d) = absurd (⊎_elim
          (λ e. true≢false (sym v ∙ ap test e ∙ t))
          (λ e. true≢false (sym v ∙ ap test e ∙ u))
          (sizes x n (omega (arith, l x v))))

pub and_true : (a b : Bool) → (a && b) ≡ true → (a ≡ true) × (b ≡ true)
and_true true b e = (refl, e)
and_true false b e = absurd (true≢false (sym e))

nearest_answers : (test : ℤ → Bool) → Answers (λ (x : ℤ). (in_i32 x ≡ true) × (test x ≡ true)) (nearest_zero test)
unfolding nearest_zero
nearest_answers test = answers_map (λ (x : ℤ). (in_i32 x && test x) ≡ true) (λ (x : ℤ). (in_i32 x ≡ true) × (test x ≡ true))
    (λ x e. and_true (in_i32 x) (test x) e)
    (λ x e. rw e.0 e.1)
    (first (λ (x : ℤ). in_i32 x && test x) 0 2147483649)
    (first_answers (λ (x : ℤ). in_i32 x && test x) 2147483649 0 (λ x e. omega arith) (λ x e. omega (arith, abs32 x (sfits_in x (and_true (in_i32 x) (test x) e).0))))

-- ---- what the test of a product says

value_in_lem : (v : Verdict) (c : ConstVal) → is_known c ≡ true → value_in v ≡ c → v ≡ Ok c
value_in_lem (Ok d) c k e = ap Ok e
value_in_lem (Err LeftUnknown) c k e = absurd (true≢false (sym k ∙ ap is_known (sym e)))
value_in_lem (Err RightUnknown) c k e = absurd (true≢false (sym k ∙ ap is_known (sym e)))
value_in_lem (Err Unfit) c k e = absurd (true≢false (sym k ∙ ap is_known (sym e)))
value_in_lem (Err DivisorZero) c k e = absurd (true≢false (sym k ∙ ap is_known (sym e)))
value_in_lem (Err OutOfRange) c k e = absurd (true≢false (sym k ∙ ap is_known (sym e)))
value_in_lem (Err NotComputed) c k e = absurd (true≢false (sym k ∙ ap is_known (sym e)))

-- a known value that is equal to another value only if it is that one
pub record Told (wanted : ConstVal) : Type 0 where
  pub known : is_known wanted ≡ true
  pub self : const_eq wanted wanted ≡ true
  pub sound : (c : ConstVal) → const_eq c wanted ≡ true → c ≡ wanted

pub told-fx : (w : ℤ) → Told (Fx w)
unfolding const_eq
told-fx w = record { known = refl; self = same_self w; sound = sound }
  where
    sound : (c : ConstVal) → const_eq c (Fx w) ≡ true → c ≡ Fx w
    sound Unknown e = absurd (true≢false (sym e))
    sound (QuadV x) e = absurd (true≢false (sym e))
    sound (BoolV x) e = absurd (true≢false (sym e))
    sound (F64 x) e = absurd (true≢false (sym e))
    sound (I32 x) e = absurd (true≢false (sym e))
    sound (U32 x) e = absurd (true≢false (sym e))
    sound (Fx x) e = ap Fx (same_sound x w e)

pub told-i32 : (w : ℤ) → Told (I32 w)
unfolding const_eq
told-i32 w = record { known = refl; self = same_self w; sound = sound }
  where
    sound : (c : ConstVal) → const_eq c (I32 w) ≡ true → c ≡ I32 w
    sound Unknown e = absurd (true≢false (sym e))
    sound (QuadV x) e = absurd (true≢false (sym e))
    sound (BoolV x) e = absurd (true≢false (sym e))
    sound (F64 x) e = absurd (true≢false (sym e))
    sound (I32 x) e = ap I32 (same_sound x w e)
    sound (U32 x) e = absurd (true≢false (sym e))
    sound (Fx x) e = absurd (true≢false (sym e))

module _ (product : ℤ → ℤ → Verdict) {wanted : ConstVal} (factor : ℤ) (t : Told wanted) where
  -- the search's answer is right
  pub found : Answers (IsFactor product wanted factor) (nearest_zero (gives product wanted factor))
  found = answers_map (λ (x : ℤ). (in_i32 x ≡ true) × (gives product wanted factor x ≡ true)) (IsFactor product wanted factor)
      (λ x e. (e.0, value_in_lem (product factor x) wanted t.known (t.sound (value_in (product factor x)) e.1)))
      (λ x e. (e.0, ap (λ (v : Verdict). const_eq (value_in v) wanted) e.1 ∙ t.self))
      (nearest_zero (gives product wanted factor)) (nearest_answers (gives product wanted factor))

  -- and any right answer is the search's
  pub found-only : (r : Option ℤ) → Answers (IsFactor product wanted factor) r → r ≡ nearest_zero (gives product wanted factor)
  found-only r p = answers_one (IsFactor product wanted factor) r (nearest_zero (gives product wanted factor)) p found
