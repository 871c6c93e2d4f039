-- Where each label name stands at one place, each label stands once after the first two sweeps.
use Rattle.std.specs.Prelude.{Option, None, Some, option_map}
use mathlib.Core.Path.{◌≡◌, refl, sym, ◌∙◌, ap, ap₂}
use mathlib.Core.Bool.{Bool, false, true≢false, ◌&&◌, not}
use mathlib.Core.List.{List, [], ◌∷◌, ◌++◌}
use Prim.Native.Nat.{ℕ}
use Rattle.cells.specs.Ins.{Ins, label, label_of, alike}
use Rattle.cells.proofs.Facts.{alike_self, alike_true, by_test, label_is}
use Rattle.machine.specs.Run.{seek}
use Rattle.machine.proofs.Jumps.{plain}
use Rattle.cleanup.specs.Marks.{is_there, terminal}
use Rattle.cleanup.specs.Sweeps.{dedupe, reach}
use Rattle.cleanup.specs.Premise.{AllAre, OnePlace}
use Rattle.cleanup.proofs.DuplicateLabels.{seek-dedupe}
use Rattle.cleanup.proofs.Unreachable.{seek-reach}
use Rattle.cleanup.proofs.NoopJumps.{Once}

-- what a jump finds stands in the list
seek-split : (l : ℕ) (p s : List Ins) → seek l p ≡ Some s → (a : List Ins) × (z : List Ins) × (p ≡ a ++ (label l ∷ z))
seek-split l [] s e = ([], [], cc)
seek-split l (i ∷ p) s e = by_test (alike (Some l) (label_of i))
    (λ y. let (m, u, v) = alike_true (Some l) (label_of i) y in ([], p, ap (λ j. j ∷ p) (label_is i l (v ∙ sym u))))
    (λ y. let (a, z, x) = seek-split l p s (rw y at e) in (i ∷ a, z, ap (◌∷◌ i) x))

pub tail_one_place : (i : Ins) (p : List Ins) → OnePlace (i ∷ p) → OnePlace p
unfolding OnePlace
tail_one_place i p o l a m z e = o l (i ∷ a) m z (ap (◌∷◌ i) e)

-- behind a label l at its one place, the first sweep leaves no other
one_gone : (l : ℕ) (p : List Ins) → ((m z : List Ins) → p ≡ m ++ (label l ∷ z) → AllAre (label l) m) → seek l (dedupe plain (Some l) p) ≡ None
one_gone l [] o = refl
one_gone l (i ∷ p) o = by_test (alike (Some l) (label_of i))
    (λ y. rw y (one_gone l p (λ m z e. (o (i ∷ m) z (ap (◌∷◌ i) e)).1)))
    (λ y. rw (y, y, seek-dedupe l (label_of i) p y) (go y (seek l p) refl))
  where
    go : alike (Some l) (label_of i) ≡ false → (k : Option (List Ins)) → seek l p ≡ k → option_map (dedupe plain None) k ≡ None
    go y None e = refl
    go y (Some s) e =
        let (a, z, x) = seek-split l p s e in
        let w : i ≡ label l = (o (i ∷ a) z (ap (◌∷◌ i) x)).0 in
        absurd (true≢false (sym (alike_self l) ∙ (rw w at y)))

once-dedupe : (k : Option ℕ) (p : List Ins) → OnePlace p → Once (dedupe plain k p)
unfolding OnePlace
once-dedupe k [] o = tt
once-dedupe k (i ∷ p) o = by_test (alike k (label_of i))
    (λ y. rw y (once-dedupe k p (tail_one_place i p o)))
    (λ y. rw y (λ l e. rw e (one_gone l p (λ m z x. o l [] m z (ap₂ ◌∷◌ (label_is i l e) x))), once-dedupe (label_of i) p (tail_one_place i p o)))

once-reach : (b : Bool) (p : List Ins) → Once p → Once (reach plain b p)
once-reach b [] o = tt
once-reach b (i ∷ p) o = by_test (b && not (is_there (label_of i)))
    (λ y. rw y (once-reach b p o.1))
    (λ y. rw y (λ l e. seek-reach l (terminal i) p ∙ ap (option_map (reach plain false)) (o.0 l e), once-reach (terminal i) p o.1))

pub once : (p : List Ins) → OnePlace p → Once (reach plain false (dedupe plain None p))
once p o = once-reach false (dedupe plain None p) (once-dedupe None p o)
