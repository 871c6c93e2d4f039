-- After cleanup each label stands once, where each label name stood at one place; and then each name stands at one place.
use Rattle.std.specs.Prelude.{Option, None, Some, option_map}
use mathlib.Core.Path.{◌≡◌, refl, ◌∙◌, ap}
use mathlib.Core.Bool.{false}
use mathlib.Core.List.{List, [], ◌∷◌, ◌++◌, map}
use Prim.Native.Nat.{ℕ}
use native.Mathlib.Omega.{arith}
use Rattle.cells.specs.Cells.{Cell}
use Rattle.cells.specs.Ins.{Ins, label, label_of, alike}
use Rattle.cells.specs.View.{view}
use Rattle.cells.proofs.Facts.{by_test, alike_self}
use Rattle.machine.specs.Run.{seek}
use Rattle.machine.proofs.Jumps.{plain}
use Rattle.cleanup.specs.Marks.{jump_of, removable_load}
use Rattle.cleanup.specs.Sweeps.{dedupe, reach, sweep, next, cleanup}
use Rattle.cleanup.specs.Cleanup.{clean_code}
use Rattle.cleanup.specs.Premise.{OnePlace}
use Rattle.cleanup.proofs.SweepLaws.{seek-sweep}
use Rattle.cleanup.proofs.NoopJumps.{Once, jump_label}
use Rattle.cleanup.proofs.RedundantLoads.{load_label}
use Rattle.cleanup.proofs.LabelPlaces.{once}
use Rattle.cleanup.proofs.CleanupRecords.{view_clean}

once-sweep : (f g : Ins → Option ℕ) → ((i : Ins) (l : ℕ) → f i ≡ Some l → label_of i ≡ None) → (p : List Ins) → Once p → Once (sweep plain f g p)
once-sweep f g u [] o = tt
once-sweep f g u (i ∷ p) o = by_test (alike (f i) (next plain g p))
    (λ y. rw y (once-sweep f g u p o.1))
    (λ y. rw y (λ l e. seek-sweep f g u l p ∙ ap (option_map (sweep plain f g)) (o.0 l e), once-sweep f g u p o.1))

pub once-cleanup : (p : List Ins) → OnePlace p → Once (cleanup plain p)
once-cleanup p o =
    let p₂ : List Ins = reach plain false (dedupe plain None p) in
    once-sweep removable_load removable_load load_label (sweep plain jump_of label_of p₂) (once-sweep jump_of label_of jump_label p₂ (once p o))

-- a label that stands in a list is found
found : (l : ℕ) (m z : List Ins) → (s : List Ins) × (seek l (m ++ (label l ∷ z)) ≡ Some s)
found l [] z = (label l ∷ z, rw (alike_self l))
found l (i ∷ m) z = by_test (alike (Some l) (label_of i))
    (λ y. (i ∷ m ++ (label l ∷ z), rw y))
    (λ y. let (s, e) = found l m z in (s, rw y e))

once_end : (a p : List Ins) → Once (a ++ p) → Once p
once_end [] p o = o
once_end (i ∷ a) p o = once_end a p o.1

-- where each label stands once, no name stands at two places
pub one_place_lem : (p : List Ins) → Once p → OnePlace p
unfolding OnePlace
one_place_lem p o l a m z e =
    let n = (once_end a (label l ∷ (m ++ (label l ∷ z))) (rw e at o)).0 l refl in
    let (s, x) = found l m z in
    let y : ◌≡◌ {A = ℕ} 0 1 = cc in
    absurd (omega arith)

-- of a function's cells
pub cleanup-one_place : (cs : List Cell) → OnePlace (map view cs) → OnePlace (map view (clean_code cs))
cleanup-one_place cs o = rw (view_clean cs) (one_place_lem (cleanup plain (map view cs)) (once-cleanup (map view cs) o))
