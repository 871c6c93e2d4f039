-- A loop that writes a list over the start of another, one element a turn.
use mathlib.Core.Path.{◌≡◌, refl, sym, ◌∙◌, ap}
use mathlib.Core.List.{List, [], ◌∷◌, ◌++◌}
use Prim.Native.Nat.{ℕ, suc, ◌+◌, ◌≤◌, ◌<◌}
use native.Mathlib.Omega.{arith}
use lib.ListN.{length, get_or, set, take, length-set, length-take}
use lib.Seq.{take-suc, take_all, length-take-le}
use Rattle.cells.specs.Cells.{over}
use Rattle.cells.proofs.Over.{over_nil, over_read, over-set}

module _ {A : Type 0} where
  -- the first i elements of xs stand over l₀
  pub record Filled (l₀ xs l : List A) (i : ℕ) : Type 0 where
    pub long : length l ≡ length l₀
    pub list : l ≡ over (take i xs) l₀

  pub filled_start : (l₀ xs : List A) → Filled l₀ xs l₀ 0
  filled_start l₀ xs = record { long = refl; list = sym (over_nil l₀) }

  module _ {l₀ xs l : List A} {i : ℕ} (f : Filled l₀ xs l i) where
    -- what is not yet written over
    pub filled_read : (d : A) → get_or l i d ≡ get_or l₀ i d
    filled_read d = ap (λ (m : List A). get_or m i d) f.list ∙ over_read (take i xs) l₀ i d (omega (arith, length-take i xs))

    pub filled_next : (d : A) → i < length xs → length xs ≤ length l₀ → {x : A} → x ≡ get_or xs i d → Filled l₀ xs (set l i x) (i + 1)
    filled_next d h r {x} e =
        let s : suc i ≡ i + 1 = omega arith in
        record {
          long = length-set l i x ∙ f.long;
          list =
              ap (λ (m : List A). set m i x) f.list
              ∙ over-set (take i xs) l₀ x i (length-take-le i xs (omega arith)) (omega arith)
              ∙ ap (λ (ys : List A). over ys l₀) (ap (λ (y : A). take i xs ++ y ∷ []) e ∙ sym (take-suc xs i d h) ∙ ap (λ (j : ℕ). take j xs) s);
        }

    pub filled_end : length xs ≤ i → l ≡ over xs l₀
    filled_end h = f.list ∙ ap (λ (ys : List A). over ys l₀) (take_all i xs h)
