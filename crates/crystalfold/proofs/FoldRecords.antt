-- The records theorem of CrystalFold, for any sound rules: the registers hold what the table knows of them, so a folded cell does what the
-- cell did. No premise is needed.
use Rattle.std.specs.Prelude.{Option, None, Some}
use mathlib.Core.Path.{◌≡◌, refl, ap, ◌∙◌}
use mathlib.Core.Bool.{true, false}
use mathlib.Core.List.{List, ◌∷◌, map, nil≢cons}
use Prim.Native.Nat.{ℕ}
use lib.Dec.{eqb}
use Rattle.cells.specs.Cells.{Cell}
use Rattle.cells.specs.Ins.{Const, Ins, load, comp, label, jmp, jmp_if, ret, act}
use Rattle.cells.specs.View.{view, load_cell}
use Rattle.cells.proofs.Facts.{by_test}
use Rattle.cells.proofs.Views.{view_load}
use Rattle.machine.specs.Values.{Value, con, Regs, set, put, written_of}
use Rattle.machine.specs.Compute.{Outcome, value, unfit, nothing, outside, compute}
use Rattle.machine.specs.Run.{seek, exec, on, outcome_move}
use Rattle.machine.specs.Records.{SameRecords}
use Rattle.machine.proofs.Simulation.{Rel, After, Advance, same, alike, Simulation, same_by}
use Rattle.machine.proofs.Jumps.{plain, both-map}
use Rattle.crystalfold.specs.Rules.{Rules, known_of, fold₂, Sound}
use Rattle.crystalfold.specs.Fold.{Table, unknown, note, forget, folded_to, dst_of, known_after}
use Rattle.crystalfold.specs.CrystalFold.{fold_code}
use Rattle.crystalfold.proofs.Soundness.{left-unknown, right-unknown}
use Rattle.crystalfold.proofs.Natural.{map-fold}
use Rattle.crystalfold.proofs.FoldJumps.{folds, seek-fold}

-- the registers hold what is known of them
abbrev Holds : Table → Regs → Type 0
Holds t r = (x : ℕ) (v : Const) → t x ≡ Some v → r x ≡ con v

holds-unknown : (r : Regs) → Holds unknown r
holds-unknown r x v e = cc

holds-note : (t : Table) (r : Regs) (d : ℕ) (k : Option Const) (w : Value) → ((v : Const) → k ≡ Some v → w ≡ con v) → Holds t r → Holds (note d k t) (set d w r)
unfolding note set
holds-note t r d k w f h x v e = by_test (eqb x d)
    (λ y. rw y (f v (rw y at e)))
    (λ y. rw y (h x v (rw y at e)))

holds-forget : (t : Table) (r : Regs) (d : Option ℕ) (w : Value) → Holds t r → Holds (forget d t) (put d w r)
unfolding put
holds-forget t r None w h = h
holds-forget t r (Some d) w h = holds-note t r d None w (λ v e. cc) h

module _ (f : Rules) (sound : Sound f) where
  abbrev ρ : Rel
  ρ p r q s = (t : Table) × (q ≡ folds f t p) × (r ≡ s) × Holds t r

  -- a fold's value is what the command computes
  fold-value : (o : ℕ) (x y : Option Const) (a b : Value) (v : Const) → ((u : Const) → x ≡ Some u → a ≡ con u) → ((u : Const) → y ≡ Some u → b ≡ con u) → fold₂ (f o) x y ≡ Some v → compute o a b ≡ value v
  unfolding Sound
  fold-value o None y a b v g h e = let n : fold₂ (f o) None y ≡ None = ap written_of (left-unknown (f o) (known_of y)) in cc
  fold-value o (Some x) None a b v g h e = let n : fold₂ (f o) (Some x) None ≡ None = ap written_of (right-unknown (f o) (known_of (Some x))) in cc
  fold-value o (Some x) (Some y) a b v g h e = rw (g x refl, h y refl) (sound o x y v e)

  -- a folded cell does what the cell did
  exec-folded : (t : Table) (i : Ins) (r : Regs) (v : Const) → Holds t r → folded_to f t i ≡ Some v → exec i r ≡ on (set (dst_of i) (con v) r)
  unfolding exec
  exec-folded t (load d w) r v h e = cc
  exec-folded t (comp c o d a b) r v h e = rw (fold-value o (t a) (t b) (r a) (r b) v (h a) (h b) e)
  exec-folded t (label l) r v h e = cc
  exec-folded t (jmp l) r v h e = cc
  exec-folded t (jmp_if c l) r v h e = cc
  exec-folded t (ret s) r v h e = cc
  exec-folded t (act c d b) r v h e = cc

  exec_load : (d : ℕ) (v : Const) (r : Regs) → exec (load d v) r ≡ on (set d (con v) r)
  unfolding exec
  exec_load d v r = refl

  -- what is known after a cell holds after it
  holds_comp : (t : Table) (c : Cell) (o d a b : ℕ) (r r' : Regs) → Holds t r → (x : Outcome) → compute o (r a) (r b) ≡ x → After (outcome_move c d x r) r r' → Holds (note d (fold₂ (f o) (t a) (t b)) t) r'
  unfolding put
  holds_comp t c o d a b r r' h (value w) e y = rw y (holds-note t r d (fold₂ (f o) (t a) (t b)) (con w) (λ v k. let g = fold-value o (t a) (t b) (r a) (r b) v (h a) (h b) k in cc) h)
  holds_comp t c o d a b r r' h unfit e y = absurd y
  holds_comp t c o d a b r r' h nothing e y = absurd y
  holds_comp t c o d a b r r' h outside e y = rw y.1 (holds-note t r d (fold₂ (f o) (t a) (t b)) y.0 (λ v k. let g = fold-value o (t a) (t b) (r a) (r b) v (h a) (h b) k in cc) h)

  holds-known : (t : Table) (i : Ins) (r r' : Regs) → Holds t r → After (exec i r) r r' → Holds (known_after f t i) r'
  unfolding exec
  holds-known t (load d v) r r' h x = rw x (holds-note t r d (Some v) (con v) (λ w e. cc) h)
  holds-known t (comp c o d a b) r r' h x = holds_comp t c o d a b r r' h (compute o (r a) (r b)) refl x
  holds-known t (label l) r r' h x = holds-unknown r'
  holds-known t (jmp l) r r' h x = absurd x
  holds-known t (jmp_if c l) r r' h x = holds-unknown r'
  holds-known t (ret s) r r' h x = absurd x
  holds-known t (act c d true) r r' h x = holds-unknown r'
  holds-known t (act c d false) r r' h x = rw x.1 (holds-forget t r d x.0 h)

  module _ (P : List Ins) where
    advance : (i : Ins) (p : List Ins) (r : Regs) (q : List Ins) (s : Regs) → ρ (i ∷ p) r q s → Advance P ρ i p r q s
    advance i p r q s x = go x.0 x.1 x.3 (folded_to f x.0 i) refl
      where
        go : (t : Table) → q ≡ folds f t (i ∷ p) → Holds t r → (k : Option Const) → folded_to f t i ≡ k → Advance P ρ i p r q s
        go t y h None e = same (folds f (known_after f t i) p) (y ∙ rw e) x.2 (λ r' a. (known_after f t i, refl, refl, holds-known t i r r' h a))
        go t y h (Some v) e = alike (load (dst_of i) v) (folds f (known_after f t i) p) (set (dst_of i) (con v) r) (y ∙ rw e) (exec-folded t i r v h e) (rw (← x.2) (exec_load (dst_of i) v r))
            (known_after f t i, refl, refl, holds-known t i r (set (dst_of i) (con v) r) h (rw (exec-folded t i r v h e) refl))

    simulation : Simulation P (folds f unknown P) ρ
    simulation = record {
      at_end_lem = λ r q s x. (x.1, x.2);
      at_cell = λ i p r s x. nil≢cons x.1;
      at_jump = λ l r. rw (seek-fold f l unknown P) (both-map ρ r (folds f unknown) (seek l P) (λ p _. (unknown, refl, refl, holds-unknown r)));
      at_step = advance;
    }

    fold_same : SameRecords P (folds f unknown P)
    fold_same = same_by P (folds f unknown P) ρ simulation (λ r. (unknown, refl, refl, holds-unknown r))

-- of a function's cells
pub view-fold : (f : Rules) (cs : List Cell) → map view (fold_code f cs) ≡ folds f unknown (map view cs)
unfolding fold_code
view-fold f cs = map-fold plain view f load_cell load view_load unknown cs

pub fold_records : (f : Rules) → Sound f → (cs : List Cell) → SameRecords (map view cs) (map view (fold_code f cs))
fold_records f sound cs = rw (view-fold f cs) (fold_same f sound (map view cs))
