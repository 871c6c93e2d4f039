-- The sweeps that remove a cell by itself and by the next: jumps move with them where they remove no label, and of a list with a cell they
-- leave one.
use Rattle.std.specs.Prelude.{Option, None, Some, option_map}
use mathlib.Core.Path.{◌≡◌, refl, ap}
use mathlib.Core.List.{List, [], ◌∷◌}
use Prim.Native.Nat.{ℕ, ◌≤◌}
use native.Mathlib.Omega.{arith}
use lib.ListN.{length}
use Rattle.cells.specs.Ins.{Ins, label_of, alike}
use Rattle.cells.proofs.Facts.{alike-none, alike_true, by_test}
use Rattle.machine.specs.Run.{seek}
use Rattle.machine.proofs.Jumps.{plain}
use Rattle.cleanup.specs.Sweeps.{next, sweep}

module _ (f g : Ins → Option ℕ) where
  pub seek-sweep : ((i : Ins) (l : ℕ) → f i ≡ Some l → label_of i ≡ None) → (l : ℕ) (p : List Ins) → seek l (sweep plain f g p) ≡ option_map (sweep plain f g) (seek l p)
  seek-sweep u l [] = refl
  seek-sweep u l (i ∷ p) = by_test (alike (f i) (next plain g p))
      (λ y. let (m, v, w) = alike_true (f i) (next plain g p) y in rw (y, u i m v) (seek-sweep u l p))
      (λ y. by_test (alike (Some l) (label_of i))
      (λ z. rw (y, z, y))
      (λ z. rw (y, z) (seek-sweep u l p)))

  -- something is left of a list with a cell: its last cell
  pub some_swept : {C : Type 0} (see : C → Ins) (p : List C) → 1 ≤ length p → 1 ≤ length (sweep see f g p)
  some_swept see [] l = l
  some_swept see (c ∷ []) l = rw (alike-none (f (see c))) l
  some_swept see (c ∷ (d ∷ p)) l = by_test (alike (f (see c)) (g (see d)))
      (λ y. rw y (some_swept see (d ∷ p) (omega arith)))
      (λ y. rw y (omega arith))

  pub sweep-keeps : (i : Ins) (p : List Ins) → [] ≡ sweep plain f g (i ∷ p) → ⊥
  sweep-keeps i p e = omega (arith, ap length e, some_swept plain (i ∷ p) (omega arith))
