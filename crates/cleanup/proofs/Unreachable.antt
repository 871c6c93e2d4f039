-- The records are the same without what stands between Ret or Jmp and the next label.
use Rattle.std.specs.Prelude.{Option, None, Some, option_map}
use mathlib.Core.Path.{◌≡◌, refl, sym}
use mathlib.Core.Bool.{Bool, true, false, true≢false, ◌&&◌, not}
use mathlib.Core.List.{List, [], ◌∷◌, nil≢cons}
use Prim.Native.Nat.{ℕ}
use Rattle.cells.specs.Ins.{Ins, load, comp, label, jmp, jmp_if, ret, act, label_of, alike}
use Rattle.cells.proofs.Facts.{by_test, and_true}
use Rattle.machine.specs.Values.{Regs}
use Rattle.machine.specs.Run.{exec, seek}
use Rattle.machine.specs.Records.{SameRecords}
use Rattle.machine.proofs.Simulation.{After, Rel, Simulation, same, same_by}
use Rattle.machine.proofs.Jumps.{both-map, plain}
use Rattle.cleanup.specs.Marks.{is_there, terminal}
use Rattle.cleanup.specs.Sweeps.{reach}

abbrev ρ : Rel
ρ p r q s = (q ≡ reach plain false p) × (r ≡ s)

-- what goes is no label
cut_off_lem : (b : Bool) (k : Option ℕ) → (b && not (is_there k)) ≡ true → k ≡ None
cut_off_lem b None e = refl
cut_off_lem b (Some l) e = absurd (true≢false (sym (and_true b false e).1))

pub seek-reach : (l : ℕ) (b : Bool) (p : List Ins) → seek l (reach plain b p) ≡ option_map (reach plain false) (seek l p)
seek-reach l b [] = refl
seek-reach l b (i ∷ p) = by_test (b && not (is_there (label_of i)))
    (λ y. rw (y, cut_off_lem b (label_of i) y) (seek-reach l b p))
    (λ y. by_test (alike (Some l) (label_of i))
    (λ z. rw (y, z))
    (λ z. rw (y, z) (seek-reach l (terminal i) p)))

module _ (P : List Ins) where
  -- after Ret and Jmp the run does not go on to the next cell
  reach-next : (i : Ins) (p : List Ins) (r r' : Regs) → After (exec i r) r r' → reach plain (terminal i) p ≡ reach plain false p
  unfolding exec
  reach-next (load d v) p r r' x = refl
  reach-next (comp c o d a b) p r r' x = refl
  reach-next (label l) p r r' x = refl
  reach-next (jmp l) p r r' x = absurd x
  reach-next (jmp_if c l) p r r' x = refl
  reach-next (ret s) p r r' x = absurd x
  reach-next (act c d b) p r r' x = refl

  simulation : Simulation P (reach plain false P) ρ
  simulation = record {
    at_end_lem = λ r q s x. x;
    at_cell = λ i p r s x. nil≢cons x.0;
    at_jump = λ l r. rw (seek-reach l false P) (both-map ρ r (reach plain false) (seek l P) (λ p _. (refl, refl)));
    at_step = λ i p r q s x. same (reach plain (terminal i) p) x.0 x.1 (λ r' y. (reach-next i p r r' y, refl));
  }

  pub unreachable-same : SameRecords P (reach plain false P)
  unreachable-same = same_by P (reach plain false P) ρ simulation (λ r. (refl, refl))
