-- The list of registers written since the last barrier: with their entries `Unknown`, nothing is known.
use Rattle.std.proofs.Common.{◌≡◌, ℕ, zero, suc, ◌+◌, ◌<◌, ◌≤◌, ◌⊎◌, inl, inr, ⊎_elim, List, [], ◌∷◌, length, get_or, take, true, refl, ap, ◌∙◌, subst, arith}
use Rattle.std.proofs.Math.ListN.{set}
use Rattle.std.proofs.lemmas.List.{get_or-take}
use Rattle.leaves.specs.declared.constant.ConstVal.{ConstVal}
use Rattle.leaves.specs.declared.constant.ConstVal.TheVariants.{Unknown}
use Rattle.leaves.proofs.Integers.{less_or-not}
use Rattle.cells.specs.Check.{registers}
use Rattle.std.proofs.Math.Seq.{length-take-le}
use Rattle.crystalfold.proofs.Agreement.{all_unknown, agree_unknown}
use Rattle.crystalfold.specs.Known.{NothingKnown, ListedFrom, KnownFrom, Since}

-- an entry more that is Unknown

unknown-kept : (values : List ConstVal) (d r : ℕ) → get_or values r Unknown ≡ Unknown → get_or (set values d Unknown) r Unknown ≡ Unknown
unknown-kept [] d r e = refl
unknown-kept (x ∷ xs) zero zero e = refl
unknown-kept (x ∷ xs) zero (suc r) e = e
unknown-kept (x ∷ xs) (suc d) zero e = e
unknown-kept (x ∷ xs) (suc d) (suc r) e = unknown-kept xs d r e

unknown-set : (values : List ConstVal) (d : ℕ) → get_or (set values d Unknown) d Unknown ≡ Unknown
unknown-set [] d = refl
unknown-set (x ∷ xs) zero = refl
unknown-set (x ∷ xs) (suc d) = unknown-set xs d

pub nothing_known : (values : List ConstVal) → all_unknown values ≡ true → NothingKnown values
nothing_known values e = record { at = agree_unknown values e }

-- a turn of the loop over the list
pub known_from-next : {i n : ℕ} {list : List ℕ} {values : List ConstVal} → KnownFrom i n list values → KnownFrom (i + 1) n list (set values (get_or list i 0) Unknown)
known_from-next {i} {n} {list} {values} k = record { at = λ r. ⊎_elim (λ e. inl (unknown-kept values d r e)) (listed r) (k.at r) }
  where
    d : ℕ
    d = get_or list i 0

    listed : (r : ℕ) → ListedFrom i n list r → (get_or (set values d Unknown) r Unknown ≡ Unknown) ⊎ ListedFrom (i + 1) n list r
    listed r (j, l, m, e) = ⊎_elim
        (λ (h : i < j). inr (j, omega arith, m, e))
        (λ (h : j ≤ i). let same : i ≡ j = omega arith in
        let there : d ≡ r = ap (λ x. get_or list x 0) same ∙ e in
        inl (subst (λ x. get_or (set values d Unknown) x Unknown ≡ Unknown) there (unknown-set values d)))
        (less_or-not i j)

-- and its end
pub known_from-end : {i n : ℕ} {list : List ℕ} {values : List ConstVal} → KnownFrom i n list values → n ≤ i → NothingKnown values
known_from-end {i} {n} {list} k h = record { at = λ r. ⊎_elim (λ e. e) (λ (w : ListedFrom i n list r). absurd (omega (arith, w.1, w.2))) (k.at r) }

-- the loop's list
pub known_from-take : {n : ℕ} {list : List ℕ} {values : List ConstVal} → n ≤ length list → KnownFrom 0 n list values → KnownFrom 0 (length (take n list)) (take n list) values
known_from-take {n} {list} {values} h k = record { at = λ r. ⊎_elim inl (λ (w : ListedFrom 0 n list r). inr (w.0, w.1, omega (arith, w.2, length-take-le n list h), get_or-take n list w.0 0 w.2 ∙ w.3)) (k.at r) }

pub since_nothing : {list : List ℕ} {values : List ConstVal} → registers ≤ length values → NothingKnown values → Since list 0 values
since_nothing size h = record {
  size = size;
  few = omega arith;
  within = λ j l. absurd (omega arith);
  rest = λ _. record { at = λ r. inl (h.at r) };
}
