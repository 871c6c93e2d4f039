-- How often a site stands on cells, and what holds of every cell with it.
use mathlib.Core.Path.{◌≡◌}
use mathlib.Core.Bool.{false}
use mathlib.Core.List.{List, [], ◌∷◌}
use Prim.Native.Nat.{ℕ, ◌+◌, ◌≤◌}
use native.Mathlib.Omega.{arith}
use Rattle.cells.specs.Cells.{Cell}
use Rattle.cells.specs.Lists.{one, All}
use Rattle.cells.proofs.Facts.{by_test}
use Rattle.sites.specs.Sites.{is_site, times}
use Rattle.sites.proofs.Judged.{site_is, is_site_lem}
use Rattle.std.specs.Prelude.{Option, Some}

-- a fact of every cell with a site is one of each site that stands anywhere
module _ (f : Cell → Option ℕ) (Q : ℕ → Type 0) where
  pub from_all : (cs : List Cell) → All (λ c. (x : ℕ) → f c ≡ Some x → Q x) cs → (x : ℕ) → 1 ≤ times f x cs → Q x
  from_all [] a x h = absurd (omega arith)
  from_all (c ∷ cs) a x h = by_test (is_site x (f c))
      (λ y. a.0 x (site_is x (f c) y))
      (λ y. let k : 1 ≤ one false + times f x cs = rw y at h in from_all cs a.1 x (omega arith))

  pub to_all : (cs : List Cell) → ((x : ℕ) → 1 ≤ times f x cs → Q x) → All (λ c. (x : ℕ) → f c ≡ Some x → Q x) cs
  to_all [] h = tt
  to_all (c ∷ cs) h = (λ x e. h x (rw (is_site_lem x (f c) e) (omega arith)), to_all cs (λ x l. h x (omega arith)))
