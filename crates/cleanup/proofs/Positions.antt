-- The positions from 0 on, and the cells at them.
use mathlib.Core.Path.{◌≡◌, refl, sym, ◌∙◌, ap}
use mathlib.Core.List.{List, [], ◌∷◌, map}
use Prim.Native.Nat.{ℕ, zero, suc, ◌+◌, ◌-◌, ◌*◌, ◌/◌, ◌≤◌, ◌<◌}
use native.Mathlib.Omega.{arith}
use lib.ListN.{length, drop}
use lib.Seq.{drop-drop}
use Rattle.cells.specs.Cells.{chunks, cells, cell_at}
use Rattle.cleanup.specs.Positions.{up_from, every, AllBelow}

pub length_up_from : (k n : ℕ) → length (up_from k n) ≡ n
length_up_from k zero = refl
length_up_from k (suc n) = ap suc (length_up_from (k + 1) n)

-- those from i to n: the first, and that there is none
pub up_from_cons : (n i : ℕ) → i < n → up_from i (n - i) ≡ i ∷ up_from (i + 1) (n - (i + 1))
up_from_cons n i h =
    let e : n - i ≡ suc (n - (i + 1)) = omega arith in
    rw e

pub up_from_none : (n i : ℕ) → n ≤ i → up_from i (n - i) ≡ []
up_from_none n i h =
    let e : n - i ≡ 0 = omega arith in
    rw e

below_up_from : (k n : ℕ) → AllBelow (k + n) (up_from k n)
below_up_from k zero = tt
below_up_from k (suc n) =
    let e : k + 1 + n ≡ k + suc n = omega arith in
    (omega arith, rw e at (below_up_from (k + 1) n))

pub below_all : (n : ℕ) → AllBelow n (up_from 0 n)
below_all n =
    let z : 0 + n ≡ n = omega arith in
    rw z at (below_up_from 0 n)

-- the cells at all positions are the cells
at_all : (s : List ℕ) (k n : ℕ) → map (cell_at s) (up_from k n) ≡ chunks n (drop (16 * k) s)
at_all s k zero = refl
at_all s k (suc n) =
    let e : 16 * k + 16 ≡ 16 * (k + 1) = omega arith in
    ap (◌∷◌ (cell_at s k)) (at_all s (k + 1) n ∙ ap (chunks n) (ap (λ (j : ℕ). drop j s) (sym e) ∙ sym (drop-drop 16 (16 * k) s)))

pub cells_at_every : (s : List ℕ) → map (cell_at s) (every s) ≡ cells s
cells_at_every s = at_all s 0 (length s / 16)
