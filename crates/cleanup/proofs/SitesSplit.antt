-- Cleanup splits the StoreVars and MakeRecords into those that stay and those that were unreachable.
use Rattle.std.specs.Prelude.{Option, None}
use mathlib.Core.Path.{◌≡◌, refl, ap}
use mathlib.Core.Bool.{Bool, true, false}
use mathlib.Core.List.{List, [], ◌∷◌}
use Prim.Native.Nat.{ℕ, ◌+◌}
use native.Mathlib.Omega.{arith}
use Rattle.cells.specs.Cells.{Cell}
use Rattle.cells.specs.Ins.{Ins, act, label_of, alike}
use Rattle.cells.specs.View.{view}
use Rattle.cells.specs.Lists.{tally, only}
use Rattle.cells.proofs.Facts.{by_test, alike_true}
use Rattle.sites.specs.Sites.{write_capable}
use Rattle.sites.proofs.SameSites.{tally-same}
use Rattle.sites.proofs.Actions.{not_capable}
use Rattle.cleanup.specs.Marks.{terminal, jump_of, removable_load}
use Rattle.cleanup.specs.Sweeps.{dedupe, cut_off, reach, unreached, next, sweep, remove_duplicate_consecutive_labels, remove_unreachable_until_label, remove_noop_jumps, cleanup, removed}
use Rattle.cleanup.specs.Cleanup.{clean_code}

-- sweeps 1, 3 and 4 leave these cells as they are, and in order
pub only-dedupe : (k : Option ℕ) (p : List Cell) → only write_capable (dedupe view k p) ≡ only write_capable p
only-dedupe k [] = refl
only-dedupe k (c ∷ p) = by_test (alike k (label_of (view c)))
    (λ y. let (l, a, b) = alike_true k (label_of (view c)) y in rw (y, not_capable label_of (λ c d b. refl) c l b) (only-dedupe k p))
    (λ y. rw y (by_test (write_capable c) (λ z. rw z (ap (◌∷◌ c) (only-dedupe (label_of (view c)) p))) (λ z. rw z (only-dedupe (label_of (view c)) p))))

pub only-sweep : (f g : Ins → Option ℕ) → ((c : Cell) (d : Option ℕ) (b : Bool) → f (act c d b) ≡ None) → (p : List Cell) → only write_capable (sweep view f g p) ≡ only write_capable p
only-sweep f g u [] = refl
only-sweep f g u (c ∷ p) = by_test (alike (f (view c)) (next view g p))
    (λ y. let (l, a, b) = alike_true (f (view c)) (next view g p) y in rw (y, not_capable f u c l a) (only-sweep f g u p))
    (λ y. rw y (by_test (write_capable c) (λ z. rw z (ap (◌∷◌ c) (only-sweep f g u p))) (λ z. rw z (only-sweep f g u p))))

-- sweep 2 splits the cells
pub tally-reach : (f : Cell → Bool) (b : Bool) (p : List Cell) → tally f p ≡ tally f (reach view b p) + tally f (unreached view b p)
tally-reach f b [] = refl
tally-reach f b (c ∷ p) = by_test (cut_off view b c)
    (λ y. rw y (omega (arith, tally-reach f b p)))
    (λ y. rw y (omega (arith, tally-reach f (terminal (view c)) p)))

-- cleanup splits the cells that bear sites into those that stay and those that were unreachable
pub split : (f : Cell → Bool) → ((c : Cell) → f c ≡ true → write_capable c ≡ true) → (cs : List Cell) → tally f cs ≡ tally f (clean_code cs) + tally f (removed view cs)
unfolding clean_code
split f u cs =
    let p₁ : List Cell = remove_duplicate_consecutive_labels view cs in
    let p₂ : List Cell = remove_unreachable_until_label view p₁ in
    let p₃ : List Cell = remove_noop_jumps view p₂ in
    let a = tally-same f u p₁ cs (only-dedupe None cs) in
    let b = tally-reach f false p₁ in
    let c = tally-same f u p₃ p₂ (only-sweep jump_of label_of (λ c d b. refl) p₂) in
    let d = tally-same f u (cleanup view cs) p₃ (only-sweep removable_load removable_load (λ c d b. refl) p₃) in
    omega arith
