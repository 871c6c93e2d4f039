-- The records are the same without a load whose next cell loads the same register: before that cell, the registers may differ in this one.
use Rattle.std.specs.Prelude.{Option, None, Some}
use mathlib.Core.Path.{◌≡◌, refl, sym, ◌∙◌, ap, fun_ext}
use mathlib.Core.List.{List, ◌∷◌}
use Prim.Native.Nat.{ℕ}
use native.Mathlib.Omega.{arith}
use lib.Dec.{eqb}
use Rattle.cells.specs.Ins.{Const, quad, bool, f64, i32, u32, fx, Ins, load, comp, label, jmp, jmp_if, ret, act, label_of}
use Rattle.cells.specs.Ins as Ins
use Rattle.cells.proofs.Facts.{alike_true, by_test}
use Rattle.machine.specs.Values.{Regs, Value, con, set}
use Rattle.machine.specs.Run.{exec, on, seek}
use Rattle.machine.specs.Records.{SameRecords}
use Rattle.machine.proofs.Simulation.{Advance, Rel, Simulation, alike, same, same_by, stays}
use Rattle.machine.proofs.Jumps.{both-map, plain}
use Rattle.cleanup.specs.Marks.{removable_load, removable}
use Rattle.cleanup.specs.Sweeps.{next, sweep}
use Rattle.cleanup.proofs.SweepLaws.{seek-sweep, sweep-keeps}

set-set : (d : ℕ) (v w : Value) (r : Regs) → set d w (set d v r) ≡ set d w r
unfolding set
set-set d v w r = fun_ext λ x. by_test (eqb x d) (λ e. rw e) (λ e. rw e)

removable_is : (d e : ℕ) (v : Const) → removable e v ≡ Some d → e ≡ d
removable_is d e (quad n) x = cc
removable_is d e (bool b) x = cc
removable_is d e (f64 n) x = cc
removable_is d e (i32 n) x = cc
removable_is d e (u32 n) x = cc
removable_is d e (fx n) x = cc

pub load_is : (i : Ins) (d : ℕ) → removable_load i ≡ Some d → (v : Const) × (i ≡ load d v)
load_is (load e v) d x = (v, ap (λ k. load k v) (removable_is d e v x))
load_is (comp c o e a b) d x = (u32 0, cc)
load_is (label l) d x = (u32 0, cc)
load_is (jmp l) d x = (u32 0, cc)
load_is (jmp_if c l) d x = (u32 0, cc)
load_is (ret s) d x = (u32 0, cc)
load_is (act c e b) d x = (u32 0, cc)

pub load_label : (i : Ins) (d : ℕ) → removable_load i ≡ Some d → label_of i ≡ None
load_label i d e = rw (load_is i d e).1

-- the registers agree, but for the one that the next cell loads
abbrev Agree : Option ℕ → Regs → Regs → Type 0
Agree None r s = r ≡ s
Agree (Some d) r s = (w : Value) → set d w r ≡ set d w s

agree_refl : (k : Option ℕ) (r : Regs) → Agree k r r
agree_refl None r = refl
agree_refl (Some d) r = λ w. refl

abbrev ρ : Rel
ρ p r q s = (q ≡ sweep plain removable_load removable_load p) × Agree (next plain removable_load p) r s

module _ (P : List Ins) where
  exec_load : (i : Ins) (d : ℕ) (v : Const) (r : Regs) → i ≡ load d v → exec i r ≡ on (set d (con v) r)
  unfolding exec
  exec_load i d v r e = rw e

  module _ (i : Ins) (p : List Ins) (r : Regs) (q : List Ins) (s : Regs) where
    -- a cell that is no such load
    advance_other : q ≡ i ∷ sweep plain removable_load removable_load p → r ≡ s → Advance P ρ i p r q s
    advance_other x y = same (sweep plain removable_load removable_load p) x y (λ r' _. (refl, agree_refl (next plain removable_load p) r'))

    advance_load : (d : ℕ) (v : Const) → i ≡ load d v → removable_load i ≡ Some d → q ≡ sweep plain removable_load removable_load (i ∷ p) → ((w : Value) → set d w r ≡ set d w s) → Advance P ρ i p r q s
    advance_load d v e k x a = by_test (Ins.alike (removable_load i) (next plain removable_load p))
        (λ y.
        let (m, u, z) = alike_true (removable_load i) (next plain removable_load p) y in
        let n : next plain removable_load p ≡ Some d = z ∙ sym u ∙ k in
        stays p (set d (con v) r) (λ O h. rw (exec_load i d v r e)) (x ∙ rw y, rw n (λ w. rw (set-set d (con v) w r) (a w))) (omega arith))
        (λ y. alike i (sweep plain removable_load removable_load p) (set d (con v) r) (x ∙ rw y) (exec_load i d v r e) (exec_load i d v s e ∙ ap on (sym (a (con v)))) (refl, agree_refl (next plain removable_load p) (set d (con v) r)))

    advance : ρ (i ∷ p) r q s → Advance P ρ i p r q s
    advance x = go (removable_load i) refl x.1
      where
        go : (k : Option ℕ) → removable_load i ≡ k → Agree k r s → Advance P ρ i p r q s
        go None e a = advance_other (x.0 ∙ rw e) a
        go (Some d) e a = let (v, u) = load_is i d e in advance_load d v u e x.0 a

  simulation : Simulation P (sweep plain removable_load removable_load P) ρ
  simulation = record {
    at_end_lem = λ r q s x. x;
    at_cell = λ i p r s x. sweep-keeps removable_load removable_load i p x.0;
    at_jump = λ l r. rw (seek-sweep removable_load removable_load load_label l P) (both-map ρ r (sweep plain removable_load removable_load) (seek l P) (λ p _. (refl, agree_refl (next plain removable_load p) r)));
    at_step = advance;
  }

  pub redundant_loads-same : SameRecords P (sweep plain removable_load removable_load P)
  redundant_loads-same = same_by P (sweep plain removable_load removable_load P) ρ simulation (λ r. (refl, agree_refl (next plain removable_load P) r))
