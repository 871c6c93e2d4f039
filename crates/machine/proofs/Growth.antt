-- A record only grows, so two records of one run are equal when they are equally long: claim 3 follows from claim 2. `SameRecords` is
-- reflexive and transitive.
use Rattle.std.specs.Prelude.{Option, None, Some}
use mathlib.Core.Path.{◌≡◌, refl, sym, ◌∙◌, ap}
use mathlib.Core.List.{List, [], ◌∷◌, ◌++◌, append-nil, append_assoc}
use Prim.Native.Nat.{ℕ, suc, ◌≤◌}
use native.Mathlib.Omega.{arith}
use native.Mathlib.Decide.{dec_le, le_ind}
use lib.ListN.{length, length-append}
use Rattle.cells.specs.Ins.{Ins}
use Rattle.machine.specs.Values.{Regs, shown, put}
use Rattle.machine.specs.Run.{did, Entry, Answer, stop, go, Outside, Move, on, to, halt, ask, State, live, dead, record_of, fall, seek, goto, reply, exec, move, step, run, after}
use Rattle.machine.specs.Records.{SameRecords}

abbrev Extends : List Entry → List Entry → Type 0
Extends h g = (t : List Entry) × (g ≡ h ++ t)

extends_refl : (h : List Entry) → Extends h h
extends_refl h = ([], sym (append-nil h))

extends_trans : (h g f : List Entry) → Extends h g → Extends g f → Extends h f
extends_trans h g f x y = (x.0 ++ y.0, rw (y.1, x.1, append_assoc))

fall_extends : (p : List Ins) (r : Regs) (h : List Entry) → Extends h (record_of (fall p r h))
fall_extends [] r h = (_, refl)
fall_extends (i ∷ p) r h = extends_refl h

goto_extends : (a : Option (List Ins)) (r : Regs) (h : List Entry) → Extends h (record_of (goto a r h))
goto_extends None r h = (_, refl)
goto_extends (Some p) r h = fall_extends p r h

reply_extends : (a : Answer) (d : Option ℕ) (p : List Ins) (r : Regs) (h : List Entry) → Extends h (record_of (reply a d p r h))
reply_extends stop d p r h = (_, refl)
reply_extends (go v) d p r h = fall_extends p (put d v r) h

shorter : (h g : List Entry) → Extends h g → length h ≡ length g → h ≡ g
shorter h g x e = go x.0 x.1
  where
    go : (t : List Entry) → g ≡ h ++ t → h ≡ g
    go [] y = rw (y, append-nil)
    go (a ∷ t) y = absurd (omega (arith, simp length-append at (ap length y)))

move_extends : (P : List Ins) (O : Outside) (p : List Ins) (r : Regs) (h : List Entry) (m : Move) → Extends h (record_of (move P O p r h m))
move_extends P O p r h (on r') = fall_extends p r' h
move_extends P O p r h (to l) = goto_extends (seek l P) r h
move_extends P O p r h (halt c) = (_, refl)
move_extends P O p r h (ask c d) =
    let g : List Entry = h ++ (did c (shown r) ∷ []) in
    extends_trans h g _ (did c (shown r) ∷ [], refl) (reply_extends (O g) d p r g)

step_extends : (P : List Ins) (O : Outside) (s : State) → Extends (record_of s) (record_of (step P O s))
step_extends P O (live i p r h) = move_extends P O p r h (exec i r)
step_extends P O (dead h) = extends_refl h

module _ (P : List Ins) (O : Outside) (r : Regs) where
  after_extends : (n m : ℕ) → n ≤ m → Extends (after P O r n) (after P O r m)
  after_extends n m l = le_ind (λ k. Extends (after P O r n) (after P O r k)) (extends_refl _)
      (λ k _ x. extends_trans (after P O r n) (after P O r k) (after P O r (suc k)) x (step_extends P O (run P O r k))) m l

  same_length : (n m : ℕ) → length (after P O r n) ≡ length (after P O r m) → after P O r n ≡ after P O r m
  same_length n m e = go (dec_le n m)
    where
      go : Dec (n ≤ m) → after P O r n ≡ after P O r m
      go (yes l) = shorter (after P O r n) (after P O r m) (after_extends n m l) e
      go (no l) = sym (shorter (after P O r m) (after P O r n) (after_extends m n (omega arith)) (sym e))

-- claim 3 follows from claim 2
pub same_of : (P Q : List Ins)
    → ((O : Outside) (r : Regs) (n : ℕ) → (m : ℕ) × (m ≤ n) × (after Q O r m ≡ after P O r n))
    → ((O : Outside) (r : Regs) (m : ℕ) → (n : ℕ) × (after Q O r m ≡ after P O r n))
    → SameRecords P Q
same_of P Q f g = record {
  forth = f;
  back = g;
  lengths = λ O r m n. (
    λ e. ap length e,
    λ e.
        let (k, x) = g O r m in
        x ∙ same_length P O r k n (sym (ap length x) ∙ e),
  );
}

pub same_refl : (P : List Ins) → SameRecords P P
same_refl P = same_of P P (λ O r n. (n, omega arith, refl)) (λ O r m. (m, refl))

pub same_trans : (P Q R : List Ins) → SameRecords P Q → SameRecords Q R → SameRecords P R
same_trans P Q R f g = same_of P R
    (λ O r n.
    let (m, l, x) = f.forth O r n in
    let (k, l', y) = g.forth O r m in
    (k, omega arith, y ∙ x))
    (λ O r k.
    let (m, y) = g.back O r k in
    let (n, x) = f.back O r m in
    (n, y ∙ x))
