-- Promise: what became of each cell of a function under the default rewrite (document 02, W6): "repeated label; unreachable, with the position of the
-- nearest earlier Ret or Jmp not itself unreachable; jump to the next cell; load overwritten; folded, with the value; event gone with its site; or
-- kept". It is told by the rewrite's own sweeps and fold (cleanup/specs/Sweeps, crystalfold/specs/Fold), over positions instead of cells: the sweep
-- that takes a cell decides, and of the cells that all four leave the fold's verdict. A position is a place among a function's instruction cells,
-- counted from 0; what is told counts every cell of the image, heads too.
use Rattle.std.specs.Prelude.{ℕ, zero, suc, ◌+◌, Bool, cond, ◌&&◌, not, List, [], ◌∷◌, ◌++◌, map, eqb, length, get_or, Ok, Err, Option, None, Some}
use Rattle.leaves.specs.Quads.{number_of}
use Rattle.cells.specs.Cells.{Cell}
use Rattle.cells.specs.Ins.{Const, quad, bool, f64, i32, u32, fx, Ins, load, comp, label, jmp, jmp_if, ret, act}
use Rattle.cells.specs.Lists.{any}
use Rattle.cells.specs.View.{view, bool_number}
use Rattle.machine.specs.Values.{written_of}
use Rattle.machine.specs.Evaluate.{evaluate}
use Rattle.cleanup.specs.Marks.{terminal}
use Rattle.cleanup.specs.Sweeps.{remove_duplicate_consecutive_labels, remove_unreachable_until_label, remove_noop_jumps, remove_redundant_consecutive_loads, removed}
use Rattle.cleanup.specs.Cleanup.{stays}
use Rattle.cleanup.specs.Positions.{up_from}
use Rattle.crystalfold.specs.Rules.{default_rules, known_of}
use Rattle.crystalfold.specs.Fold.{Table, unknown, known_after}
use Rattle.fates.specs.declared.Fate.{Fate}
use Rattle.fates.specs.declared.Fate.TheVariants.{RepeatedLabel, Unreachable, JumpToNext, LoadOverwritten, Folded, EventGone, Kept}
use Rattle.fates.specs.declared.Reason.TheVariants.{Nothing, LeftUnknown, RightUnknown, Unfit, DivisorZero, OutOfRange}
use Rattle.leaves.specs.Verdict.{Verdict}
use Rattle.leaves.specs.declared.verdict.Decline.TheVariants.{LeftUnknown as LeftIs, RightUnknown as RightIs, Unfit as UnfitIs, DivisorZero as ZeroIs, OutOfRange as RangeIs, NotComputed}

-- ---- by the sweeps: n instruction cells, and what each is

-- a position is one of these
abbrev pub among : ℕ → List ℕ → Bool
among k p = any (λ (j : ℕ). eqb j k) p

-- the nearest number below k that passes a test; 0 where none does
abbrev pub nearest_below : (ℕ → Bool) → ℕ → ℕ
nearest_below test zero = 0
nearest_below test (suc j) = cond (test j) j (nearest_below test j)

module _ (see : ℕ → Ins) (n : ℕ) where
  -- the positions that each sweep leaves, in the Rust's order
  unfoldable pub left₁ : List ℕ
  left₁ = remove_duplicate_consecutive_labels see (up_from 0 n)

  unfoldable pub left₂ : List ℕ
  left₂ = remove_unreachable_until_label see left₁

  unfoldable pub left₃ : List ℕ
  left₃ = remove_noop_jumps see left₂

  unfoldable pub left₄ : List ℕ
  left₄ = remove_redundant_consecutive_loads see left₃

  -- "Ret or Jmp not itself unreachable": sweep two leaves it
  abbrev pub is_end : ℕ → Bool
  is_end j = among j left₂ && terminal (see j)

  -- "the nearest earlier" one
  abbrev pub nearest_end : ℕ → ℕ
  nearest_end k = nearest_below is_end k

-- ---- by the fold: the verdict on a cell that cleanup leaves, by what is known there

abbrev pub verdict_of : Table → Ins → Verdict
verdict_of t (load d v) = Err NotComputed
verdict_of t (comp c o d a b) = evaluate (default_rules o) (known_of (t a)) (known_of (t b))
verdict_of t (label l) = Err NotComputed
verdict_of t (jmp l) = Err NotComputed
verdict_of t (jmp_if c l) = Err NotComputed
verdict_of t (ret s) = Err NotComputed
verdict_of t (act c d b) = Err NotComputed

-- "folded, with the value": the command that loads it, and its bits
abbrev pub load_of : Const → Fate
load_of (quad q) = Folded 0x2C (number_of q)
load_of (bool b) = Folded 0x28 (bool_number b)
load_of (f64 n) = Folded 0x29 n
load_of (i32 n) = Folded 0x2B n
load_of (u32 n) = Folded 0x2E n
load_of (fx n) = Folded 0x2A n

abbrev pub folded_as : Option Const → Fate
folded_as None = Kept Nothing
folded_as (Some v) = load_of v

-- "For a kept command the fold could compute, add the first that applies: left or only operand unknown, right unknown, kinds unfit, or W5's answer"
abbrev pub judged : Verdict → Fate
judged (Ok v) = folded_as (written_of v)
judged (Err LeftIs) = Kept LeftUnknown
judged (Err RightIs) = Kept RightUnknown
judged (Err UnfitIs) = Kept Unfit
judged (Err ZeroIs) = Kept DivisorZero
judged (Err RangeIs) = Kept OutOfRange
judged (Err NotComputed) = Kept Nothing

-- along the cells at p, from what is known before them: the fate of the one at k
abbrev pub fold_fate : (ℕ → Ins) → ℕ → Table → List ℕ → Fate
fold_fate see k t [] = Kept Nothing
fold_fate see k t (j ∷ p) = cond (eqb j k) (judged (verdict_of t (see j))) (fold_fate see k (known_after default_rules t (see j)) p)

-- ---- the fate of each cell

-- of the instruction cell at k, of n that are as `see` says; the first of them is the cell `first` of the image
unfoldable pub code_fate : (ℕ → Ins) → ℕ → ℕ → ℕ → Fate
code_fate see n first k =
    cond (not (among k (left₁ see n))) RepeatedLabel
    (cond (not (among k (left₂ see n))) (Unreachable (first + nearest_end see n k))
    (cond (not (among k (left₃ see n))) JumpToNext
    (cond (not (among k (left₄ see n))) LoadOverwritten
    (fold_fate see k unknown (left₄ see n)))))

-- what the cell at a position of a function's instruction cells is
abbrev pub see_in : List Cell → ℕ → Ins
see_in cs k = view (get_or cs k [])

-- of all instruction cells, in order
unfoldable pub code_fates : ℕ → List Cell → List Fate
code_fates first cs = map (code_fate (see_in cs) (length cs) first) (up_from 0 (length cs))

-- an event "gone with its site": by a site on a cell that sweep two removes
abbrev pub event_fate : List Cell → Cell → Fate
event_fate cs e = cond (stays (removed view cs) e) (Kept Nothing) EventGone

unfoldable pub event_fates : List Cell → List Cell → List Fate
event_fates cs es = map (event_fate cs) es

-- of a function's instruction cells, then of its event cells
unfoldable pub function_fates : ℕ → List Cell → List Cell → List Fate
function_fates first cs es = code_fates first cs ++ event_fates cs es
