-- What is read of the cell at a position is what the cell is to the sweeps; so a sweep over what is read is the sweep over the cells.
use Rattle.std.specs.Prelude.{Option, None}
use mathlib.Core.Path.{◌≡◌, refl, ◌∙◌, ap, ap₂, subst}
use mathlib.Core.Bool.{Bool, false, not, ◌&&◌}
use mathlib.Core.List.{List, [], ◌∷◌}
use Prim.Native.Nat.{ℕ, ◌+◌, ◌*◌, ◌<◌}
use native.Mathlib.Omega.{arith}
use lib.ListN.{drop}
use lib.Seq.{get_or-take, get_or-drop}
use Rattle.cells.specs.Bytes.{byte, half}
use Rattle.cells.specs.Cells.{Cell, cell_at}
use Rattle.cells.specs.Ins.{Ins, label_of, alike}
use Rattle.cells.specs.Table.{class_of}
use Rattle.cells.specs.View.{view_as, view}
use Rattle.cells.specs.declared.table.Class.{Class}
use Rattle.cells.specs.declared.table.Class.TheVariants.{NoCommand, LoadQ, LoadBool, LoadF64, LoadI32, LoadU32, LoadFx, Unary, Binary, Label as «LabelClass», Jmp as «JmpClass», JmpIf, Ret as «RetClass», Act, ActDst, ActOptDst}
use Rattle.cleanup.specs.Marks.{terminal, is_there, jump_of, removable_load}
use Rattle.cleanup.specs.Sweeps.{next, same_label, cut_off, same_next, remove_duplicate_consecutive_labels, remove_unreachable_until_label, remove_noop_jumps, remove_redundant_consecutive_loads}
use Rattle.cleanup.specs.Reading.{class_mark, seen_at, is_asked, operand_of, is_terminal}
use Rattle.cleanup.specs.ByState.{label_goes, after_label, unreachable_goes, after_end, jump_goes, load_goes, seen_next, goes_by, after_by, stays_by}
use Rattle.cleanup.specs.Positions.{see_at}
use Rattle.cleanup.specs.declared.marks.Mark.{Mark}
use Rattle.cleanup.specs.declared.marks.Mark.TheVariants.{Other, Label, Jmp, Load}
use Rattle.cleanup.specs.declared.marks.Seen.{Seen}
use Rattle.cleanup.specs.declared.sweeps.Labels.{Labels}
use Rattle.cleanup.specs.declared.sweeps.Unreachable.{Unreachable}
use Rattle.cleanup.specs.declared.sweeps.Jumps.{Jumps}
use Rattle.cleanup.specs.declared.sweeps.Loads.{Loads}
use Rattle.cleanup.proofs.Sweeping.{remaining_through}

-- all that the sweeps ask of an instruction is read
pub record ReadAs (i : Ins) (s : Seen) : Type 0 where
  pub label : operand_of Label s ≡ label_of i
  pub jump : operand_of Jmp s ≡ jump_of i
  pub load : operand_of Load s ≡ removable_load i
  pub ends : is_terminal s.mark ≡ terminal i

abbrev seen_as : Class → ℕ → Seen
seen_as k x = record { mark = class_mark k; operand = x }

by_class : (k : Class) (c : Cell) → ReadAs (view_as k c) (seen_as k (half c 1))
by_class NoCommand c = record { label = refl; jump = refl; load = refl; ends = refl }
by_class LoadQ c = record { label = refl; jump = refl; load = refl; ends = refl }
by_class LoadBool c = record { label = refl; jump = refl; load = refl; ends = refl }
by_class LoadF64 c = record { label = refl; jump = refl; load = refl; ends = refl }
by_class LoadI32 c = record { label = refl; jump = refl; load = refl; ends = refl }
by_class LoadU32 c = record { label = refl; jump = refl; load = refl; ends = refl }
by_class LoadFx c = record { label = refl; jump = refl; load = refl; ends = refl }
by_class Unary c = record { label = refl; jump = refl; load = refl; ends = refl }
by_class Binary c = record { label = refl; jump = refl; load = refl; ends = refl }
by_class LabelClass c = record { label = refl; jump = refl; load = refl; ends = refl }
by_class JmpClass c = record { label = refl; jump = refl; load = refl; ends = refl }
by_class JmpIf c = record { label = refl; jump = refl; load = refl; ends = refl }
by_class RetClass c = record { label = refl; jump = refl; load = refl; ends = refl }
by_class Act c = record { label = refl; jump = refl; load = refl; ends = refl }
by_class ActDst c = record { label = refl; jump = refl; load = refl; ends = refl }
by_class ActOptDst c = record { label = refl; jump = refl; load = refl; ends = refl }

-- a byte of a cell by its place among the bytes
cell-byte : (s : List ℕ) (k j : ℕ) → j < 16 → byte (cell_at s k) j ≡ byte s (16 * k + j)
cell-byte s k j h = get_or-take 16 (drop (16 * k) s) j 0 h ∙ get_or-drop (16 * k) s j 0

command : (s : List ℕ) (k : ℕ) → byte (cell_at s k) 0 ≡ byte s (16 * k)
command s k =
    let e : 16 * k + 0 ≡ 16 * k = omega arith in
    cell-byte s k 0 (omega arith) ∙ ap (byte s) e

first-half : (s : List ℕ) (k : ℕ) → half (cell_at s k) 1 ≡ half s (16 * k + 1)
first-half s k =
    let e : 16 * k + 2 ≡ 16 * k + 1 + 1 = omega arith in
    ap₂ (λ (a b : ℕ). a + 256 * b) (cell-byte s k 1 (omega arith)) (cell-byte s k 2 (omega arith) ∙ ap (byte s) e)

pub read_at : (s : List ℕ) (k : ℕ) → ReadAs (see_at s k) (seen_at s k)
unfolding view
read_at s k = subst (λ (x : Seen). ReadAs (see_at s k) x) (ap₂ (λ (o x : ℕ). seen_as (class_of o) x) (command s k) (first-half s k)) (by_class (class_of (byte (cell_at s k) 0)) (cell_at s k))

module _ {C : Type 0} (see : C → Ins) (seen : C → Seen) (reads : (c : C) → ReadAs (see c) (seen c)) where
  read_next : (asked : Mark) (g : Ins → Option ℕ) → is_asked asked Other ≡ false → ((c : C) → operand_of asked (seen c) ≡ g (see c)) → (p : List C) → operand_of asked (seen_next seen p) ≡ next see g p
  read_next asked g e r [] = rw e
  read_next asked g e r (c ∷ p) = r c

  pub by_labels : (p : List C) → stays_by seen label_goes after_label (record { kept = None }) p ≡ remove_duplicate_consecutive_labels see p
  by_labels p =
      remaining_through (λ (k : Labels). k.kept) (goes_by seen label_goes after_label) (after_by seen label_goes after_label) (same_label see) (λ (c : C). label_of (see c))
      (λ k c q. ap (alike k.kept) (reads c).label) (λ c. (reads c).label) (record { kept = None }) p

  pub by_unreachable : (p : List C) → stays_by seen unreachable_goes after_end (record { ended = false }) p ≡ remove_unreachable_until_label see p
  by_unreachable p =
      remaining_through (λ (k : Unreachable). k.ended) (goes_by seen unreachable_goes after_end) (after_by seen unreachable_goes after_end) (λ (t : Bool) (c : C) (_ : List C). cut_off see t c) (λ (c : C). terminal (see c))
      (λ k c q. ap (λ (l : Option ℕ). k.ended && not (is_there l)) (reads c).label) (λ c. (reads c).ends) (record { ended = false }) p

  pub by_jumps : (k : Jumps) (p : List C) → stays_by seen jump_goes (λ _. record {}) k p ≡ remove_noop_jumps see p
  by_jumps k p =
      remaining_through (λ (_ : Jumps). tt) (goes_by seen jump_goes (λ _. record {})) (λ (_ : C). record {}) (same_next see jump_of label_of) (λ (_ : C). tt)
      (λ j c q. ap₂ alike (reads c).jump (read_next Label label_of refl (λ d. (reads d).label) q)) (λ c. refl) k p

  pub by_loads : (k : Loads) (p : List C) → stays_by seen load_goes (λ _. record {}) k p ≡ remove_redundant_consecutive_loads see p
  by_loads k p =
      remaining_through (λ (_ : Loads). tt) (goes_by seen load_goes (λ _. record {})) (λ (_ : C). record {}) (same_next see removable_load removable_load) (λ (_ : C). tt)
      (λ j c q. ap₂ alike (reads c).load (read_next Load removable_load refl (λ d. (reads d).load) q)) (λ c. refl) k p
