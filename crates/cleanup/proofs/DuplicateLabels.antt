-- The records are the same without a label equal to the one just kept.
use Rattle.std.specs.Prelude.{Option, None, Some, option_map}
use mathlib.Core.Path.{◌≡◌, refl, sym, ◌∙◌}
use mathlib.Core.Bool.{false}
use mathlib.Core.List.{List, [], ◌∷◌, nil≢cons}
use Prim.Native.Nat.{ℕ}
use native.Mathlib.Omega.{arith}
use Rattle.cells.specs.Ins.{Ins, label_of, alike}
use Rattle.cells.proofs.Facts.{alike_eq, alike_true, by_test, label_is}
use Rattle.machine.specs.Values.{Regs}
use Rattle.machine.specs.Run.{seek}
use Rattle.machine.specs.Records.{SameRecords}
use Rattle.machine.proofs.Simulation.{Advance, Rel, Simulation, same, same_by, stays}
use Rattle.machine.proofs.Jumps.{both-map, exec_label, plain}
use Rattle.cleanup.specs.Sweeps.{dedupe}

abbrev ρ : Rel
ρ p r q s = (q ≡ dedupe plain None p) × (r ≡ s)

-- with a label just kept that is not l, the first Label l is kept
pub seek-dedupe : (l : ℕ) (k : Option ℕ) (p : List Ins) → alike (Some l) k ≡ false → seek l (dedupe plain k p) ≡ option_map (dedupe plain None) (seek l p)
seek-dedupe l k [] n = refl
seek-dedupe l k (i ∷ p) n = by_test (alike k (label_of i))
    (λ y.
    let z : alike (Some l) (label_of i) ≡ false = rw (← (alike_eq k (label_of i) y)) n in
    rw (y, z) (seek-dedupe l k p n))
    (λ y. by_test (alike (Some l) (label_of i))
    (λ z. rw (y, z))
    (λ z. rw (y, z) (seek-dedupe l (label_of i) p z)))

module _ (P : List Ins) where
  advance : (i : Ins) (p : List Ins) (r : Regs) (q : List Ins) (s : Regs) → ρ (i ∷ p) r q s → Advance P ρ i p r q s
  advance i [] r q s x = same [] x.0 x.1 (λ r' y. (refl, refl))
  advance i (j ∷ p) r q s x = by_test (alike (label_of i) (label_of j))
      (λ y. let (l, u, v) = alike_true (label_of i) (label_of j) y in
      stays (j ∷ p) r (λ O h. rw (exec_label i l r u)) (x.0 ∙ rw (y, label_is i l u ∙ sym (label_is j l v)), x.1) (omega arith))
      (λ y. same (dedupe plain (label_of i) (j ∷ p)) x.0 x.1 (λ r' _. (rw y, refl)))

  simulation : Simulation P (dedupe plain None P) ρ
  simulation = record {
    at_end_lem = λ r q s x. x;
    at_cell = λ i p r s x. nil≢cons x.0;
    at_jump = λ l r. rw (seek-dedupe l None P refl) (both-map ρ r (dedupe plain None) (seek l P) (λ p _. (refl, refl)));
    at_step = advance;
  }

  pub duplicate_labels-same : SameRecords P (dedupe plain None P)
  duplicate_labels-same = same_by P (dedupe plain None P) ρ simulation (λ r. (refl, refl))
