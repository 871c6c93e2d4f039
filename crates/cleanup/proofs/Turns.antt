-- One turn of a sweep over positions. It reads the list that it writes to: what it has not read yet is as it was.
use mathlib.Core.Path.{◌≡◌, ◌∙◌, ap}
use mathlib.Core.Bool.{Bool, true, false}
use mathlib.Core.List.{List, [], ◌∷◌}
use Prim.Native.Nat.{ℕ, suc, ◌+◌, ◌≤◌, ◌<◌}
use native.Mathlib.Omega.{arith}
use lib.ListN.{length, get_or, set, drop, drop_of_length-le}
use lib.Seq.{drop-cons}
use Rattle.cells.proofs.Going.{Going, going_put}
use Rattle.cells.proofs.Lists.{all_at}
use Rattle.cells.proofs.Over.{over_read, over-drop}
use Rattle.cleanup.specs.ByState.{seen_next, stays_by}
use Rattle.cleanup.specs.Positions.{AllBelow}
use Rattle.cleanup.specs.declared.marks.Seen.{Seen}

module _ {l₀ : List ℕ} {n : ℕ} {whole todo l : List ℕ} {i kept : ℕ} (g : Going l₀ n whole todo l i kept) where
  going_read : (j : ℕ) → i ≤ j → get_or l j 0 ≡ get_or l₀ j 0
  going_read j h = rw g.list (over_read g.done l₀ j 0 (omega (arith, g.count, g.fewer)))

  pub going_behind : (j : ℕ) → i ≤ j → drop j l ≡ drop j l₀
  going_behind j h = rw g.list (over-drop g.done l₀ j (omega (arith, g.count, g.fewer)))

  pub going_below : {m : ℕ} (j : ℕ) → AllBelow m l₀ → i ≤ j → j < length l → get_or l j 0 < m
  going_below {m} j b h k = rw (going_read j h) (all_at (λ (x : ℕ). x < m) 0 l₀ j (omega (arith, g.long)) b)

  -- a turn that writes the element read
  pub going_keep : {todo' : List ℕ} → n ≤ length l₀ → i < n → todo ≡ get_or l₀ i 0 ∷ todo' → Going l₀ n whole todo' (set l kept (get_or l i 0)) (i + 1) (kept + 1)
  going_keep r h e = going_put g (get_or l i 0) r h (rw (going_read i (omega arith)) e)

pub drop_first : (l : List ℕ) (i : ℕ) → i < length l → drop i l ≡ get_or l i 0 ∷ drop (i + 1) l
drop_first l i h =
    let e : suc i ≡ i + 1 = omega arith in
    drop-cons l i 0 h ∙ ap (λ (j : ℕ). get_or l i 0 ∷ drop j l) e

-- by what is read of the cell at this position and at the next
module _ (seen : ℕ → Seen) {S : Type 0} (goes : S → Seen → Seen → Bool) (after : Seen → S) (l : List ℕ) (state : S) {i : ℕ} (h : i < length l)
    {here next : Seen} (e : here ≡ seen_next seen (drop i l)) (f : next ≡ seen_next seen (drop (i + 1) l)) where
  seen_here : here ≡ seen (get_or l i 0)
  seen_here = e ∙ ap (seen_next seen) (drop_first l i h)

  pub turn_keep : goes state here next ≡ false → {behind : S} → behind ≡ after here
      → stays_by seen goes after state (drop i l) ≡ get_or l i 0 ∷ stays_by seen goes after behind (drop (i + 1) l)
  turn_keep g a = rw (drop_first l i h, ← seen_here, ← f, g, a)

  pub turn_drop : goes state here next ≡ true → stays_by seen goes after state (drop i l) ≡ stays_by seen goes after state (drop (i + 1) l)
  turn_drop g = rw (drop_first l i h, ← seen_here, ← f, g)

  pub turns_end : length l ≤ i → stays_by seen goes after state (drop i l) ≡ []
  turns_end r = ap (stays_by seen goes after state) (drop_of_length-le l r)
