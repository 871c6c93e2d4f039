-- The cells that all four sweeps leave, by their positions: they are cleanup's cells, and the fold goes along them.
use mathlib.Core.Path.{◌≡◌, refl, sym, ◌∙◌, ap}
use mathlib.Core.Bool.{false}
use mathlib.Core.List.{List, [], ◌∷◌, ◌++◌, map}
use Prim.Native.Nat.{ℕ, zero, suc, ◌+◌, ◌<◌}
use native.Mathlib.Numerals.{add-one}
use native.Mathlib.Omega.{arith}
use lib.ListN.{length, get_or, drop, drop_of_length-le, length-map}
use lib.Seq.{drop-cons}
use Rattle.leaves.specs.Verdicts.{value_in}
use Rattle.cells.specs.Cells.{Cell}
use Rattle.cells.specs.Ins.{Const, Ins, load, comp, label, jmp, jmp_if, ret, act, label_of}
use Rattle.cells.specs.View.{view, load_cell}
use Rattle.cells.proofs.Facts.{eqb_self}
use Rattle.cells.proofs.Lists.{Sub, sub_sub}
use Rattle.machine.specs.Values.{written_of}
use Rattle.cleanup.specs.Marks.{jump_of, removable_load}
use Rattle.cleanup.specs.Sweeps.{cleanup}
use Rattle.cleanup.specs.Cleanup.{clean_code}
use Rattle.cleanup.specs.Positions.{up_from, AllBelow}
use Rattle.cleanup.proofs.Sweeping.{sub_dedupe, sub_reach, sub_sweep}
use Rattle.cleanup.proofs.Natural.{map-cleanup}
use Rattle.crystalfold.specs.Rules.{default_rules}
use Rattle.crystalfold.specs.Fold.{Table, folded_to, dst_of, known_after, as_load, fold}
use Rattle.fates.specs.Fates.{left₁, left₂, left₃, left₄, verdict_of, load_of, folded_as, judged, fold_fate, see_in}
use Rattle.fates.specs.Claim.{known_behind}
use Rattle.fates.specs.declared.Fate.{Fate}
use Rattle.fates.specs.declared.Fate.TheVariants.{Kept}
use Rattle.fates.specs.declared.Reason.{Reason}
use Rattle.fates.specs.declared.Reason.TheVariants.{Nothing, LeftUnknown, RightUnknown, Unfit, DivisorZero, OutOfRange}
use Rattle.fates.proofs.Lists.{Increasing, increasing_up, sub_increasing}
use Rattle.fates.proofs.Standing.{below_differs}
use Rattle.std.specs.Prelude.{Ok, Err, Option, None, Some}
use Rattle.leaves.specs.Verdict.{Verdict}
use Rattle.leaves.specs.declared.verdict.Decline.TheVariants.{LeftUnknown as LeftIs, RightUnknown as RightIs, Unfit as UnfitIs, DivisorZero as ZeroIs, OutOfRange as RangeIs, NotComputed}

-- ---- what each sweep leaves

module _ (see : ℕ → Ins) (n : ℕ) where
  sub₁ : Sub (left₁ see n) (up_from 0 n)
  unfolding left₁
  sub₁ = sub_dedupe see None (up_from 0 n)

  pub sub₂ : Sub (left₂ see n) (left₁ see n)
  unfolding left₂
  sub₂ = sub_reach see false (left₁ see n)

  pub sub₃ : Sub (left₃ see n) (left₂ see n)
  unfolding left₃
  sub₃ = sub_sweep see jump_of label_of (left₂ see n)

  pub sub₄ : Sub (left₄ see n) (left₃ see n)
  unfolding left₄
  sub₄ = sub_sweep see removable_load removable_load (left₃ see n)

  pub sub_left : Sub (left₄ see n) (up_from 0 n)
  sub_left = sub_sub sub₄ (sub_sub sub₃ (sub_sub sub₂ sub₁))

  pub increasing₁ : Increasing (left₁ see n)
  increasing₁ = sub_increasing sub₁ (increasing_up 0 n)

  pub increasing₂ : Increasing (left₂ see n)
  increasing₂ = sub_increasing sub₂ increasing₁

  pub increasing₃ : Increasing (left₃ see n)
  increasing₃ = sub_increasing sub₃ increasing₂

  pub increasing₄ : Increasing (left₄ see n)
  increasing₄ = sub_increasing sub₄ increasing₃

-- ---- cleanup's cells

abbrev pub cell_in : List Cell → ℕ → Cell
cell_in cs k = get_or cs k []

module _ (cs : List Cell) where
  in_from : (j n : ℕ) → j + n ≡ length cs → map (cell_in cs) (up_from j n) ≡ drop j cs
  in_from j zero e = sym (drop_of_length-le cs {i = j} (omega arith))
  in_from j (suc n) e =
      let h : j < length cs = omega arith in
      rw (drop-cons cs j [] h, ← add-one j) (ap (◌∷◌ (cell_in cs j)) (in_from (j + 1) n (omega arith)))

  -- the cells at all positions are the cells
  pub in_all : map (cell_in cs) (up_from 0 (length cs)) ≡ cs
  in_all = in_from 0 (length cs) (omega arith)

  pub code_left : map (cell_in cs) (left₄ (see_in cs) (length cs)) ≡ clean_code cs
  unfolding clean_code left₁ left₂ left₃ left₄
  code_left = map-cleanup view (cell_in cs) (up_from 0 (length cs)) ∙ ap (cleanup view) in_all

  pub length-left : length (clean_code cs) ≡ length (left₄ (see_in cs) (length cs))
  length-left = ap length (sym code_left) ∙ length-map (left₄ (see_in cs) (length cs)) (cell_in cs)

-- ---- the fold

-- a cell is folded to the value in its verdict
pub folded_to_lem : (t : Table) (i : Ins) → folded_to default_rules t i ≡ written_of (value_in (verdict_of t i))
folded_to_lem t (load d v) = refl
folded_to_lem t (comp c o d a b) = refl
folded_to_lem t (label l) = refl
folded_to_lem t (jmp l) = refl
folded_to_lem t (jmp_if c l) = refl
folded_to_lem t (ret s) = refl
folded_to_lem t (act c d b) = refl

-- the fate by a verdict, beside the constant in it: kept without one, or the load of it
module _ (P : Fate → Option Const → Type 0) (kept : (r : Reason) → P (Kept r) None) (folded : (v : Const) → P (load_of v) (Some v)) where
  by_constant : (k : Option Const) → P (folded_as k) k
  by_constant None = kept Nothing
  by_constant (Some v) = folded v

  pub by_verdict : (v : Verdict) → P (judged v) (written_of (value_in v))
  by_verdict (Ok v) = by_constant (written_of v)
  by_verdict (Err LeftIs) = kept LeftUnknown
  by_verdict (Err RightIs) = kept RightUnknown
  by_verdict (Err UnfitIs) = kept Unfit
  by_verdict (Err ZeroIs) = kept DivisorZero
  by_verdict (Err RangeIs) = kept OutOfRange
  by_verdict (Err NotComputed) = kept Nothing

-- the cell c, or the load into d that takes its place
abbrev pub loaded : Cell → ℕ → Option Const → Cell
loaded c d k = as_load view default_rules load_cell c d k

-- the fate of a cell behind those at a, and what the fold puts there
pub fate_behind : (see : ℕ → Ins) (t : Table) (a : List ℕ) (k : ℕ) (b : List ℕ) → AllBelow k a → fold_fate see k t (a ++ k ∷ b) ≡ judged (verdict_of (known_behind see t a) (see k))
fate_behind see t [] k b l = rw (eqb_self k)
fate_behind see t (j ∷ a) k b l = rw (below_differs j k l.0) (fate_behind see (known_after default_rules t (see j)) a k b l.1)

pub cell-behind : (cell : ℕ → Cell) (t : Table) (a : List ℕ) (k : ℕ) (b : List ℕ)
    → get_or (fold view default_rules load_cell t (map cell (a ++ k ∷ b))) (length a) []
    ≡ loaded (cell k) (dst_of (view (cell k))) (folded_to default_rules (known_behind (λ (j : ℕ). view (cell j)) t a) (view (cell k)))
cell-behind cell t [] k b = refl
cell-behind cell t (j ∷ a) k b = cell-behind cell (known_after default_rules t (view (cell j))) a k b
