-- What is handed back along a list of positions, and what is counted: for the cells that are left it is what the fold makes of them.
use Rattle.std.specs.Prelude.{Option, Some}
use mathlib.Core.Path.{◌≡◌, refl, ◌∙◌, ap, ap₂}
use mathlib.Core.Bool.{true, false}
use mathlib.Core.List.{List, [], ◌∷◌, ◌++◌, map}
use Prim.Native.Nat.{ℕ, ◌+◌, ◌<◌}
use native.Mathlib.Omega.{arith}
use lib.ListN.{length}
use Rattle.cells.specs.Bytes.{byte, half}
use Rattle.cells.specs.Cells.{Cell}
use Rattle.cells.specs.Ins.{Const, quad, bool, f64, i32, u32, fx}
use Rattle.cells.specs.Lists.{All}
use Rattle.cells.specs.Table.{class_of}
use Rattle.cells.specs.View.{view_as, view, load_cell}
use Rattle.cells.specs.declared.table.Class.{Class}
use Rattle.cells.specs.declared.table.Class.TheVariants.{NoCommand, LoadQ, LoadBool, LoadF64, LoadI32, LoadU32, LoadFx, Unary, Binary, Label, Jmp, JmpIf, Ret, Act, ActDst, ActOptDst}
use Rattle.cells.proofs.Facts.{eqb_self}
use Rattle.cells.proofs.Lists.{Sub, end, keep, skip, sub_all, all_two}
use Rattle.crystalfold.specs.Rules.{default_rules}
use Rattle.crystalfold.specs.Fold.{Table, folded_to, dst_of, known_after, one_if, fold_count, fold}
use Rattle.fates.specs.Fates.{among, verdict_of, load_of, judged, fold_fate}
use Rattle.fates.specs.Claim.{back_of, all_back, count_of, all_counts}
use Rattle.fates.specs.declared.Fate.{Fate}
use Rattle.fates.proofs.Lists.{Increasing, among-above}
use Rattle.fates.proofs.Standing.{below_differs}
use Rattle.fates.proofs.LeftCells.{folded_to_lem, by_verdict, loaded}

-- ---- one cell that is left

-- for the cell c a fate hands back what a fold to k into d would, and counts as that
abbrev Gives : Cell → ℕ → Fate → Option Const → Type 0
Gives c d x k = (back_of x c ≡ loaded c d k ∷ []) × (count_of x ≡ one_if k)

of_load : (c : Cell) (v : Const) → Gives c (half c 1) (load_of v) (Some v)
unfolding load_cell
of_load c (quad q) = (refl, refl)
of_load c (bool b) = (refl, refl)
of_load c (f64 n) = (refl, refl)
of_load c (i32 n) = (refl, refl)
of_load c (u32 n) = (refl, refl)
of_load c (fx n) = (refl, refl)

-- the dst of a command that is folded is its first operand
by_class : (s : Class) (t : Table) (c : Cell) → loaded c (half c 1) (folded_to default_rules t (view_as s c)) ≡ loaded c (dst_of (view_as s c)) (folded_to default_rules t (view_as s c))
by_class NoCommand t c = refl
by_class LoadQ t c = refl
by_class LoadBool t c = refl
by_class LoadF64 t c = refl
by_class LoadI32 t c = refl
by_class LoadU32 t c = refl
by_class LoadFx t c = refl
by_class Unary t c = refl
by_class Binary t c = refl
by_class Label t c = refl
by_class Jmp t c = refl
by_class JmpIf t c = refl
by_class Ret t c = refl
by_class Act t c = refl
by_class ActDst t c = refl
by_class ActOptDst t c = refl

of_left : (t : Table) (c : Cell) → Gives c (dst_of (view c)) (judged (verdict_of t (view c))) (folded_to default_rules t (view c))
unfolding view
of_left t c =
    let g : Gives c (half c 1) (judged (verdict_of t (view c))) (folded_to default_rules t (view c)) = rw folded_to_lem (by_verdict (Gives c (half c 1)) (λ r. (refl, refl)) (of_load c) (verdict_of t (view c))) in
    (g.0 ∙ ap (λ (d : Cell). d ∷ []) (by_class (class_of (byte c 0)) t c), g.1)

-- ---- along positions

-- nothing is handed back for the cell, and it counts 1
abbrev pub Dropped : Fate → Type 0
Dropped x = ((c : Cell) → back_of x c ≡ []) × (count_of x ≡ 1)

module _ (cell : ℕ → Cell) (fate : ℕ → Fate) where
  -- the fold goes along q and knows t before it; what is not among q is dropped
  abbrev pub FateBy : Table → List ℕ → ℕ → Type 0
  FateBy t q k = (among k q ≡ true → fate k ≡ fold_fate (λ (j : ℕ). view (cell j)) k t q) × (among k q ≡ false → Dropped (fate k))

  -- of the positions p those at q are left
  pub record HandedBack (t : Table) (q p : List ℕ) : Type 0 where
    pub back : all_back (map fate p) (map cell p) ≡ fold view default_rules load_cell t (map cell q)
    pub count : all_counts (map fate p) + length q ≡ length p + fold_count view default_rules t (map cell q)

  pub handed_back : {q p : List ℕ} → Sub q p → (t : Table) → Increasing p → All (FateBy t q) p → HandedBack t q p
  handed_back end t i a = record { back = refl; count = refl }
  handed_back (keep {x} {q} {p} s) t i a =
      let e : fate x ≡ judged (verdict_of t (view (cell x))) = a.0.0 (rw (eqb_self x)) ∙ rw (eqb_self x) in
      let g = of_left t (cell x) in
      let u = known_after default_rules t (view (cell x)) in
      let b = all_two (λ (k : ℕ). x < k) (FateBy t (x ∷ q)) (FateBy u q) (λ k l f. rw (below_differs x k l) at f) p i.0 a.1 in
      let r = handed_back s u i.1 b in
      record { back = ap₂ ◌++◌ (ap (λ (y : Fate). back_of y (cell x)) e ∙ g.0) r.back; count = omega (arith, r.count, ap count_of e ∙ g.1) }
  handed_back (skip {x} {q} {p} s) t i a =
      let d = a.0.1 (among-above x q (sub_all (λ (k : ℕ). x < k) s i.0)) in
      let r = handed_back s t i.1 a.1 in
      record { back = ap₂ ◌++◌ (d.0 (cell x)) r.back; count = omega (arith, r.count, d.1) }
