-- Rounds on the bytes of an image that passes the site check: where they end, and what they come to.
use mathlib.Core.Path.{◌≡◌, refl, sym, ◌∙◌, ap}
use mathlib.Core.Bool.{true, false}
use mathlib.Core.List.{List}
use Prim.Native.Nat.{ℕ, zero, suc, ◌+◌, ◌≤◌, ◌<◌}
use native.Mathlib.Omega.{arith}
use lib.Dec.{eqb}
use Rattle.cells.specs.Cells.{cells, flat}
use Rattle.cells.specs.Functions.{Function, functions, cells_of_all}
use Rattle.cells.specs.Lists.{All}
use Rattle.cells.proofs.Facts.{by_test, eqb_true, eqb_false}
use Rattle.crystalfold.specs.Rules.{rules_of}
use Rattle.crystalfold.specs.declared.rules.RuleSet.{RuleSet}
use Rattle.rewrite.specs.Preserved.{Preserved}
use Rattle.rewrite.proofs.EachFunction.{all_each, count_each}
use Rattle.image.specs.SiteCheck.{SitesPass}
use Rattle.image.proofs.Again.{image_formed}
use Rattle.passes.specs.Passes.{pass_bytes, pass_count}
use Rattle.passes.specs.declared.Pass.TheVariants.{Both}
use Rattle.passes.proofs.Done.{bytes_again, bytes-functions, each_preserved}
use Rattle.rest.specs.Rounds.{image_after, reported, sum_after, rounds_to_rest, rest_bytes, rest_count}
use Rattle.rest.specs.Promises.{UntilZero, WithinThree}
use Rattle.rest.proofs.Still.{all, counts, zero_again, all_again, all_third}

module _ (k : RuleSet) where
  abbrev once : List ℕ → List ℕ
  once s = pass_bytes (Both k) s

  abbrev count : List ℕ → ℕ
  count s = pass_count (Both k) s

  abbrev functions_of : List ℕ → List Function
  functions_of s = functions (cells s)

  -- an image is written from its functions, and counted by them
  pub count_is : (s : List ℕ) → count s ≡ counts (rules_of k) (functions_of s)
  unfolding pass_count
  count_is s = count_each (rules_of k) (functions_of s)

  pub once_is : (s : List ℕ) → once s ≡ flat (cells_of_all (all (rules_of k) (functions_of s)))
  unfolding pass_bytes
  once_is s = ap (λ (fs : List Function). flat (cells_of_all fs)) (all_each (rules_of k) (functions_of s))

  module _ (s : List ℕ) (g : SitesPass s) where
    pub once-functions : functions_of (once s) ≡ all (rules_of k) (functions_of s)
    once-functions = bytes-functions (Both k) s g ∙ all_each (rules_of k) (functions_of s)

    -- a round that reports 0 is followed by one that does, and that hands back the same bytes
    zero_next : count s ≡ 0 → count (once s) ≡ 0
    zero_next e = count_is (once s) ∙ ap (counts (rules_of k)) once-functions ∙ zero_again (rules_of k) (functions_of s) (sym (count_is s) ∙ e)

    zero_same : count (once s) ≡ 0 → once (once s) ≡ once s
    zero_same e =
        let c : counts (rules_of k) (all (rules_of k) (functions_of s)) ≡ 0 = ap (counts (rules_of k)) (sym once-functions) ∙ sym (count_is (once s)) ∙ e in
        once_is (once s) ∙ ap (λ (fs : List Function). flat (cells_of_all fs)) (ap (all (rules_of k)) once-functions ∙ all_again (rules_of k) (functions_of s) c) ∙ sym (once_is s)

  module _ (s : List ℕ) (g : SitesPass s) where
    -- every round is sent an image that passes
    pub rounds_pass : (n : ℕ) → SitesPass (image_after k n s)
    rounds_pass zero = g
    rounds_pass (suc n) = bytes_again (Both k) (image_after k n s) (rounds_pass n)

    pub rounds_preserved : (n : ℕ) → All (Preserved (rules_of k)) (functions_of (image_after k n s))
    rounds_preserved n =
        let p : SitesPass (image_after k n s) = rounds_pass n in
        each_preserved k (functions_of (image_after k n s)) (image_formed (image_after k n s) p.image) p.sites

    -- the functions after two rounds
    pub twice_functions : functions_of (once (once s)) ≡ all (rules_of k) (all (rules_of k) (functions_of s))
    twice_functions = once-functions (once s) (rounds_pass 1) ∙ ap (all (rules_of k)) (once-functions s g)

    -- the third round reports 0, and hands back what the second did
    pub third_zero : count (once (once s)) ≡ 0
    third_zero = count_is (once (once s)) ∙ ap (counts (rules_of k)) twice_functions ∙ all_third (rules_of k) (functions_of s)

    pub third_same : once (once (once s)) ≡ once (once s)
    third_same = zero_same (once s) (rounds_pass 1) third_zero

    -- ---- the rounds until one reports 0

    pub record Ends (n : ℕ) : Type 0 where
      pub until_zero : UntilZero k s n
      pub three : n ≤ 3
      pub image : image_after k n s ≡ once (once s)
      pub sum : sum_after k n s ≡ count s + count (once s)

    above_zero : (n : ℕ) → eqb n 0 ≡ false → 0 < n
    above_zero zero e = absurd (eqb_false 0 0 e refl)
    above_zero (suc n) e = omega arith

    earlier₁ : (m : ℕ) → suc m < 1 → 0 < reported k m s
    earlier₁ m l = absurd (omega (arith, l))

    earlier₂ : 0 < count s → (m : ℕ) → suc m < 2 → 0 < reported k m s
    earlier₂ a zero l = a
    earlier₂ a (suc m) l = absurd (omega (arith, l))

    earlier₃ : 0 < count s → 0 < count (once s) → (m : ℕ) → suc m < 3 → 0 < reported k m s
    earlier₃ a b zero l = a
    earlier₃ a b (suc zero) l = b
    earlier₃ a b (suc (suc m)) l = absurd (omega (arith, l))

    ends₁ : count s ≡ 0 → Ends 1
    ends₁ e = record {
      until_zero = record { last = (0, refl, e); earlier = earlier₁ };
      three = omega arith;
      image = sym (zero_same s g (zero_next s g e));
      sum = omega (arith, zero_next s g e);
    }

    ends₂ : 0 < count s → count (once s) ≡ 0 → Ends 2
    ends₂ a e = record {
      until_zero = record { last = (1, refl, e); earlier = earlier₂ a };
      three = omega arith;
      image = refl;
      sum = omega arith;
    }

    ends₃ : 0 < count s → 0 < count (once s) → Ends 3
    ends₃ a b = record {
      until_zero = record { last = (2, refl, third_zero); earlier = earlier₃ a b };
      three = omega arith;
      image = third_same;
      sum = omega (arith, third_zero);
    }

    pub ends : Ends (rounds_to_rest k s)
    ends = by_test (eqb (count s) 0)
        (λ y. rw y (ends₁ (eqb_true (count s) 0 y)))
        (λ y. by_test (eqb (count (once s)) 0)
        (λ z. rw (y, z) (ends₂ (above_zero (count s) y) (eqb_true (count (once s)) 0 z)))
        (λ z.
        let t : eqb (count (once (once s))) 0 ≡ true = rw third_zero in
        rw (y, z, t) (ends₃ (above_zero (count s) y) (above_zero (count (once s)) z))))

    -- no other number of rounds is the one: of two, the last of the fewer would be one before the last of the other
    only_one : (m n : ℕ) → UntilZero k s m → UntilZero k s n → m < n → ⊥
    only_one m n a b l =
        let (i, e, z) = a.last in
        omega (arith, z, b.earlier i (omega (arith, e, l)))

    pub within_three : WithinThree k s (rounds_to_rest k s)
    within_three =
        let u : UntilZero k s (rounds_to_rest k s) = ends.until_zero in
        record {
          until_zero = u;
          three = ends.three;
          only = λ m v. not_apart m (rounds_to_rest k s) (only_one m (rounds_to_rest k s) v u) (only_one (rounds_to_rest k s) m u v);
        }
      where
        not_apart : (m n : ℕ) → (m < n → ⊥) → (n < m → ⊥) → m ≡ n
        not_apart m n a b = omega (arith, a, b)

    -- two rounds and their sum are the rewrite until it rests
    pub rest_bytes_lem : rest_bytes k s ≡ once (once s)
    unfolding rest_bytes
    rest_bytes_lem = ends.image

    pub rest_count_lem : rest_count k s ≡ count s + count (once s)
    unfolding rest_count
    rest_count_lem = ends.sum
