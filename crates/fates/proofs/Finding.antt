-- The walk to the function that has a cell.
use mathlib.Core.Path.{◌≡◌, refl, sym, ◌∙◌, ap, subst}
use mathlib.Core.List.{List, [], ◌∷◌, ◌++◌, map}
use Prim.Native.Nat.{ℕ, zero, suc, ◌+◌, ◌-◌, ◌/◌, ◌%◌, ◌≤◌, ◌<◌}
use native.Mathlib.Nat.{le_of_suc-le-suc, not-suc-le-zero}
use native.Mathlib.Omega.{arith}
use lib.ListN.{length, get_or, length-map}
use lib.Seq.{get_or-append-add}
use Rattle.cells.specs.Cells.{cells}
use Rattle.cells.specs.Check.{max_image}
use Rattle.cells.specs.Functions.{Function, function_of, functions}
use Rattle.cells.specs.Lists.{All}
use Rattle.cells.specs.WellFormed.{WellFormed}
use Rattle.cells.proofs.Cells.{length-cells}
use Rattle.cells.proofs.Walking.{cells_taken}
use Rattle.image.specs.SiteCheck.{site_answer}
use Rattle.image.proofs.Again.{image_formed, parts_fit}
use Rattle.image.proofs.Good.{site-good, InRange, good-registers}
use Rattle.fates.specs.Fates.{function_fates}
use Rattle.fates.specs.Answer.{fates_from, image_fates, told_at, told}
use Rattle.fates.specs.Steps.{FunctionParts}
use Rattle.fates.specs.declared.Fate.{Fate}
use Rattle.fates.specs.declared.Fate.TheVariants.{RepeatedLabel}
use Rattle.fates.proofs.Whole.{length_fates}
use Rattle.std.specs.Prelude.{Ok, Err, Option, None, Some}
use Rattle.fates.specs.declared.FateError.TheVariants.{NothingToTell}

-- the functions of the bytes `left`, the first of which has its head at the cell `at`, have the cell, if any has
pub record Finding (s : List ℕ) (cell : ℕ) (left : List ℕ) (at : ℕ) : Type 0 where
  pub short : length s ≤ max_image
  pub count : at + length left / 16 ≡ length s / 16
  pub here : at ≤ cell
  pub formed : All WellFormed (functions (cells left))
  pub in_range : All InRange (functions (cells left))
  pub answer : told_at (fates_from at (functions (cells left))) (cell - at) ≡ told_at (image_fates s) cell

pub finding_start : (s : List ℕ) (cell : ℕ) {left : List ℕ} → left ≡ s → site_answer s ≡ Ok tt → Finding s cell left 0
unfolding image_fates
finding_start s cell e g =
    let p = (site-good s).0 g in
    let z : cell - 0 ≡ cell = omega arith in
    rw e (record {
      short = p.image.short;
      count = omega arith;
      here = omega arith;
      formed = image_formed s p.image;
      in_range = good-registers s p.image;
      answer = ap (λ (k : ℕ). told_at (fates_from 0 (functions (cells s))) k) z;
    })

-- ---- the entries of a function: its head's, its cells', and those behind it
pub get_or-cell : (fates : List Fate) (rest : List (Option Fate)) (k : ℕ) → k < length fates → get_or (map Some fates ++ rest) k None ≡ Some (get_or fates k RepeatedLabel)
get_or-cell [] rest k h = absurd (not-suc-le-zero h)
get_or-cell (x ∷ fates) rest zero h = refl
get_or-cell (x ∷ fates) rest (suc k) h = get_or-cell fates rest k (le_of_suc-le-suc h)

pub get_or-behind : (fates : List Fate) (rest : List (Option Fate)) (k : ℕ) → get_or (map Some fates ++ rest) (length fates + k) None ≡ get_or rest k None
get_or-behind fates rest k = ap (λ (j : ℕ). get_or (map Some fates ++ rest) (j + k) None) (sym (length-map fates Some)) ∙ get_or-append-add (map Some fates) rest k None

-- past the last function there is no entry
pub finding_end : {s : List ℕ} {cell : ℕ} {left : List ℕ} {at : ℕ} → Finding s cell left at → functions (cells left) ≡ [] → Err NothingToTell ≡ told_at (image_fates s) cell
finding_end {s} {cell} {left} {at} f e = sym (ap (λ (fs : List Function). told_at (fates_from at fs) (cell - at)) e) ∙ f.answer

-- ---- a turn: the function of the head h, the instructions' bytes code and the events' bytes evs, behind which the bytes `behind` are left

module _ {s : List ℕ} {cell : ℕ} {left : List ℕ} {at : ℕ} (f : Finding s cell left at) (behind h code evs : List ℕ)
    (z : functions (cells left) ≡ function_of h code evs ∷ functions (cells behind)) where
  abbrev own : List Fate
  own = function_fates (at + 1) (cells code) (cells evs)

  abbrev next : ℕ
  next = at + 1 + length code / 16 + length evs / 16

  taken : length left / 16 ≡ 1 + length code / 16 + length evs / 16 + length behind / 16
  taken = cells_taken left behind h code evs z

  pub next_within : next + length behind / 16 ≡ length s / 16
  next_within = omega (arith, taken, f.count)

  formed_here : WellFormed (function_of h code evs) × All WellFormed (functions (cells behind))
  formed_here = subst (All WellFormed) z f.formed

  range_here : InRange (function_of h code evs) × All InRange (functions (cells behind))
  range_here = subst (All InRange) z f.in_range

  ahead : told_at (fates_from at (function_of h code evs ∷ functions (cells behind))) (cell - at) ≡ told_at (image_fates s) cell
  ahead = ap (λ (fs : List Function). told_at (fates_from at fs) (cell - at)) (sym z) ∙ f.answer

  own_length : length own ≡ length code / 16 + length evs / 16
  own_length = omega (arith, length_fates (at + 1) (cells code) (cells evs), length-cells code, length-cells evs)

  -- what is asked of the function's parts, at any position that is not behind its first cell's
  pub parts_asked : length code % 16 ≡ 0 → {first : ℕ} → first ≤ at + 1 → FunctionParts code evs first
  parts_asked even near =
      let few = parts_fit h code evs formed_here.0 in
      record {
        instructions = record {
          even = even;
          few = few.0;
          in_range = range_here.0;
          near = omega (arith, next_within, f.short);
        };
        few = few.1;
      }

  pub cell_inside : cell < next → (cell ≡ at → ⊥) → cell - at - 1 < length code / 16 + length evs / 16
  cell_inside l o = omega (arith, o, f.here)

  pub finding_cell : cell < next → (cell ≡ at → ⊥) → {x : Fate} → x ≡ get_or own (cell - at - 1) RepeatedLabel → Ok x ≡ told_at (image_fates s) cell
  finding_cell l o {x} e =
      let d : cell - at ≡ suc (cell - at - 1) = omega (arith, o, f.here) in
      ap Ok e
      ∙ sym (ap told (get_or-cell own _ (cell - at - 1) (omega (arith, own_length, cell_inside l o))))
      ∙ sym (ap (told_at (fates_from at (function_of h code evs ∷ functions (cells behind)))) d) ∙ ahead

  pub finding_next : next ≤ cell → Finding s cell behind next
  finding_next l =
      let d : cell - at ≡ suc (length own + (cell - next)) = omega (arith, own_length) in
      let n : next ≡ at + 1 + length (cells code) + length (cells evs) = omega (arith, length-cells code, length-cells evs) in
      record {
        short = f.short;
        count = next_within;
        here = l;
        formed = formed_here.1;
        in_range = range_here.1;
        answer =
            ap (λ (m : ℕ). told_at (fates_from m (functions (cells behind))) (cell - next)) n
            ∙ sym (ap told (get_or-behind own (fates_from (at + 1 + length (cells code) + length (cells evs)) (functions (cells behind))) (cell - next)))
            ∙ sym (ap (told_at (fates_from at (function_of h code evs ∷ functions (cells behind)))) d) ∙ ahead;
      }
