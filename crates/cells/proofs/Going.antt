-- A loop that writes to the start of a list: what it found stands there, and the rest of the list is as it was.
use mathlib.Core.Path.{◌≡◌, refl, sym, ◌∙◌, ap}
use mathlib.Core.List.{List, [], ◌∷◌, ◌++◌, append_assoc, append-nil}
use Prim.Native.Nat.{ℕ, ◌+◌, ◌≤◌, ◌<◌}
use native.Mathlib.Omega.{arith}
use lib.ListN.{length, set, take, length-append, length-take, length-set}
use Rattle.cells.specs.Cells.{over, Put}
use Rattle.cells.proofs.Over.{over_nil, over-take, over-set}

-- l₀ at the start, l now; i of n turns are done, and `kept` numbers are written. The whole is what is written and what is still to come
pub record Going (l₀ : List ℕ) (n : ℕ) (whole todo l : List ℕ) (i kept : ℕ) : Type 0 where
  pub in_range : i ≤ n
  pub fewer : kept ≤ i
  pub long : length l ≡ length l₀
  pub done : List ℕ
  pub count : length done ≡ kept
  pub list : l ≡ over done l₀
  pub parts : whole ≡ done ++ todo

pub going_start : (l₀ : List ℕ) (n : ℕ) {whole todo : List ℕ} → whole ≡ todo → Going l₀ n whole todo l₀ 0 0
going_start l₀ n e = record { in_range = omega arith; fewer = omega arith; long = refl; done = []; count = refl; list = sym (over_nil l₀); parts = e }

module _ {l₀ : List ℕ} {n : ℕ} {whole todo l : List ℕ} {i kept : ℕ} (g : Going l₀ n whole todo l i kept) where
  -- a turn that writes x, and one that writes nothing
  pub going_put : (x : ℕ) {todo' : List ℕ} → n ≤ length l₀ → i < n → todo ≡ x ∷ todo' → Going l₀ n whole todo' (set l kept x) (i + 1) (kept + 1)
  going_put x r h e = record {
    in_range = omega arith;
    fewer = omega (arith, g.fewer);
    long = simp length-set g.long;
    done = g.done ++ x ∷ [];
    count = simp length-append (omega (arith, g.count));
    list = rw g.list (over-set g.done l₀ x kept g.count (omega (arith, g.fewer)));
    parts = g.parts ∙ rw (e, append_assoc);
  }

  pub going_drop : {todo' : List ℕ} → i < n → todo ≡ todo' → Going l₀ n whole todo' l (i + 1) kept
  going_drop h e = record {
    in_range = omega arith;
    fewer = omega (arith, g.fewer);
    long = g.long;
    done = g.done;
    count = g.count;
    list = g.list;
    parts = g.parts ∙ rw e;
  }

  pub going_end : todo ≡ [] → Put whole l₀ l kept
  going_end e =
      let w : whole ≡ g.done = g.parts ∙ rw e (append-nil g.done) in
      record { list = g.list ∙ rw w; count = sym g.count ∙ rw w }

-- what was written is what the first r are
module _ {xs before after : List ℕ} {r : ℕ} (s : Put xs before after r) where
  pub put_first : take r after ≡ xs
  put_first = rw (s.count, s.list) (over-take xs before)

  pub put_room : r ≤ length after
  put_room = omega (arith, length-take r after, ap length put_first, s.count)
