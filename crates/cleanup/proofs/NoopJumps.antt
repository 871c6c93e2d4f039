-- The records are the same without a Jmp to the next cell, where each label stands once.
use Rattle.std.specs.Prelude.{Option, None, Some}
use mathlib.Core.Path.{◌≡◌, refl, sym, ◌∙◌, ap}
use mathlib.Core.List.{List, [], ◌∷◌, ◌++◌, append_assoc}
use Prim.Native.Nat.{ℕ}
use native.Mathlib.Omega.{arith}
use Rattle.cells.specs.Ins.{Ins, load, comp, label, jmp, jmp_if, ret, act, label_of, alike}
use Rattle.cells.proofs.Facts.{alike_self, alike_true, by_test}
use Rattle.machine.specs.Values.{Regs}
use Rattle.machine.specs.Run.{exec, seek, to}
use Rattle.machine.specs.Records.{SameRecords}
use Rattle.machine.proofs.Simulation.{Advance, Rel, Simulation, same, same_by, stays}
use Rattle.machine.proofs.Jumps.{both-map, plain, seek_end}
use Rattle.cleanup.specs.Marks.{jump_of}
use Rattle.cleanup.specs.Sweeps.{next, sweep}
use Rattle.cleanup.proofs.SweepLaws.{seek-sweep, sweep-keeps}

-- each label stands once
abbrev pub Once : List Ins → Type 0
Once [] = Unit {0}
Once (i ∷ p) = ((l : ℕ) → label_of i ≡ Some l → seek l p ≡ None) × Once p

-- then a jump to a label goes to where it is seen
once-seek : (l : ℕ) (a : List Ins) (j : Ins) (p : List Ins) → Once (a ++ (j ∷ p)) → label_of j ≡ Some l → seek l (a ++ (j ∷ p)) ≡ Some (j ∷ p)
once-seek l [] j p o e = rw (e, alike_self l)
once-seek l (i ∷ a) j p o e = by_test (alike (Some l) (label_of i))
    (λ y.
    let (m, u, v) = alike_true (Some l) (label_of i) y in
    let z = once-seek l a j p o.1 e in
    let w = o.0 l (v ∙ sym u) in
    cc)
    (λ y. rw y (once-seek l a j p o.1 e))

pub jump_is : (i : Ins) (l : ℕ) → jump_of i ≡ Some l → i ≡ jmp l
jump_is (load d v) l e = cc
jump_is (comp c o d a b) l e = cc
jump_is (label k) l e = cc
jump_is (jmp k) l e = cc
jump_is (jmp_if c k) l e = cc
jump_is (ret s) l e = cc
jump_is (act c d b) l e = cc

pub jump_label : (i : Ins) (l : ℕ) → jump_of i ≡ Some l → label_of i ≡ None
jump_label i l e = rw (jump_is i l e)

next_is : (g : Ins → Option ℕ) (p : List Ins) (l : ℕ) → next plain g p ≡ Some l → (j : Ins) × (p' : List Ins) × (p ≡ j ∷ p') × (g j ≡ Some l)
next_is g [] l e = (label 0, [], cc, cc)
next_is g (j ∷ p) l e = (j, p, refl, e)

module _ (P : List Ins) (once : Once P) where
  abbrev ρ : Rel
  ρ p r q s = (q ≡ sweep plain jump_of label_of p) × (r ≡ s) × ((a : List Ins) × (P ≡ a ++ p))

  past : (i : Ins) (p : List Ins) → ((a : List Ins) × (P ≡ a ++ (i ∷ p))) → (a : List Ins) × (P ≡ a ++ p)
  past i p x = (x.0 ++ (i ∷ []), x.1 ∙ sym (append_assoc x.0 (i ∷ []) p))

  -- a jump to the label that stands next
  seek-next : (l : ℕ) (i : Ins) (p : List Ins) → next plain label_of p ≡ Some l → ((a : List Ins) × (P ≡ a ++ (i ∷ p))) → seek l P ≡ Some p
  seek-next l i p e x =
      let (j, p', y, z) = next_is label_of p l e in
      let (b, w) = past i p x in
      let w' : P ≡ b ++ (j ∷ p') = w ∙ ap (λ k. b ++ k) y in
      ap (seek l) w' ∙ once-seek l b j p' (rw w' at once) z ∙ ap Some (sym y)

  exec_jump : (i : Ins) (l : ℕ) (r : Regs) → jump_of i ≡ Some l → exec i r ≡ to l
  unfolding exec
  exec_jump i l r e = rw (jump_is i l e)

  advance : (i : Ins) (p : List Ins) (r : Regs) (q : List Ins) (s : Regs) → ρ (i ∷ p) r q s → Advance P ρ i p r q s
  advance i p r q s x = by_test (alike (jump_of i) (next plain label_of p))
      (λ y.
      let (l, u, v) = alike_true (jump_of i) (next plain label_of p) y in
      let z = seek-next l i p v x.2 in
      stays p r (λ O h. rw (exec_jump i l r u, z)) (x.0 ∙ rw y, x.1, past i p x.2) (omega arith))
      (λ y. same (sweep plain jump_of label_of p) (x.0 ∙ rw y) x.1 (λ r' _. (refl, refl, past i p x.2)))

  simulation : Simulation P (sweep plain jump_of label_of P) ρ
  simulation = record {
    at_end_lem = λ r q s x. (x.0, x.1);
    at_cell = λ i p r s x. sweep-keeps jump_of label_of i p x.0;
    at_jump = λ l r. rw (seek-sweep jump_of label_of jump_label l P) (both-map ρ r (sweep plain jump_of label_of) (seek l P) (λ p e. (refl, refl, seek_end l P p e)));
    at_step = advance;
  }

  pub noop_jumps-same : SameRecords P (sweep plain jump_of label_of P)
  noop_jumps-same = same_by P (sweep plain jump_of label_of P) ρ simulation (λ r. (refl, refl, ([], refl)))
