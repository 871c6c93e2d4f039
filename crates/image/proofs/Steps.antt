-- Laws of the image check's answers: one step over cells, and one over functions.
use mathlib.Core.Path.{◌≡◌, ap, sym, ◌∙◌}
use mathlib.Core.List.{List, [], ◌∷◌}
use Prim.Native.Nat.{ℕ, ◌+◌, ◌/◌, ◌%◌, ◌≤◌, ◌<◌}
use native.Mathlib.Nat.{add_assoc}
use native.Mathlib.Omega.{arith}
use borrow.Author.Tests.{leb-true, lt-leb, le-leb, ne_eqb, eqb-true}
use lib.Dec.{leb, eqb}
use lib.ListN.{length, get_or, drop, drop_of_length-le}
use Rattle.cells.specs.Answers.{or_else}
use Rattle.cells.specs.Cells.{Cell, cells}
use Rattle.cells.specs.Check.{max_image, head_check}
use Rattle.cells.specs.Functions.{Function, there, function_of, function_from, functions}
use Rattle.cells.specs.Spans.{part, SpanAt}
use Rattle.cells.specs.declared.walk.Span.{Span}
use Rattle.cells.specs.declared.refusal.Refusal.TheVariants.{Length}
use Rattle.cells.proofs.Answers.{test_good}
use Rattle.cells.proofs.Cells.{length-cells}
use Rattle.cells.proofs.Facts.{and_true}
use Rattle.cells.proofs.Functions.{functions_nil}
use Rattle.cells.proofs.Spans.{drop-next}
use Rattle.sites.specs.Validators.{site_check}
use Rattle.cells.specs.declared.walk.Part.{Part}
use Rattle.cells.specs.declared.walk.Part.TheVariants.{Events}
use Rattle.image.specs.Image.{image_answer, good_length, cell_check, cells_answer, function_answer, functions_answer}
use Rattle.image.specs.SiteCheck.{sites_answer}
use Rattle.std.specs.Prelude.{Ok, Err}
use Rattle.cells.specs.Checked.{Checked}

-- a turn over cells: what was said of the cell at i decides, or the cells from i + 1 on do
pub cells_turn : (q : Part) (p d : ℕ) (cs : List Cell) (i : ℕ) {all r : Checked} → i < length cs → r ≡ cell_check q p (d + i) (get_or cs i [])
    → all ≡ cells_answer q p (d + i) (drop i cs) → all ≡ or_else r (cells_answer q p (d + (i + 1)) (drop (i + 1) cs))
cells_turn q p d cs i {all} {r} h e w =
    w ∙ ap (cells_answer q p (d + i)) (drop-next cs i h)
    ∙ ap (λ (x : Checked). or_else x (cells_answer q p (d + i + 1) (drop (i + 1) cs))) (sym e)
    ∙ ap (λ (n : ℕ). or_else r (cells_answer q p n (drop (i + 1) cs))) (add_assoc d i 1)

-- the answers of the head and of the events, by the lengths of the parts
pub events_said : (code evs : List ℕ) (p d : ℕ) {x : Checked} → x ≡ cells_answer Events p (d + 1 + length code / 16) (cells evs) → x ≡ cells_answer Events p (d + 1 + length (cells code)) (cells evs)
events_said code evs p d e = rw (length-cells code) e

pub head_said : (h code evs : List ℕ) (p d : ℕ) {x : Checked} → x ≡ head_check p d (length code / 16 + length evs / 16) h → x ≡ head_check p d (there (function_of h code evs)) h
head_said h code evs p d e = rw (length-cells code, length-cells evs) e

-- a turn of the walk over functions: what was said of the one at a cell decides, or the functions behind it do
module _ {s : List ℕ} {at : ℕ} {r : Span} (z : SpanAt s at r) where
  abbrev pub this : Function
  this = function_of (part s r.head r.code) (part s r.code r.events) (part s r.events r.end)

  abbrev pub behind : List Function
  behind = functions (drop (r.end / 16) (cells s))

  pub functions_turn : (p : ℕ) {all x : Checked} → all ≡ functions_answer p at (functions (drop at (cells s))) → x ≡ function_answer p at this
      → all ≡ or_else x (functions_answer (p + 1) (r.end / 16) behind)
  functions_turn p {all} {x} w e =
      let f : Function = function_from (cells s) at in
      let n : at + 1 + length f.code + length f.events ≡ r.end / 16 = omega (arith, z.code, z.events, z.end) in
      w ∙ ap (functions_answer p at) z.next
      ∙ ap (λ (y : Checked). or_else y (functions_answer (p + 1) (at + 1 + length f.code + length f.events) behind)) (sym (e ∙ ap (function_answer p at) z.is))
      ∙ ap (λ (j : ℕ). or_else x (functions_answer (p + 1) j behind)) n

  pub sites_turn : (p : ℕ) {all x : Checked} → all ≡ sites_answer p (functions (drop at (cells s))) → x ≡ site_check p this.code this.events
      → all ≡ or_else x (sites_answer (p + 1) behind)
  sites_turn p w e =
      w ∙ ap (sites_answer p) z.next
      ∙ ap (λ (y : Checked). or_else y (sites_answer (p + 1) behind)) (sym (e ∙ ap (λ (g : Function). site_check p g.code g.events) z.is))

-- past the last cell there is no function
pub functions_end : (s : List ℕ) (at : ℕ) → length s / 16 ≤ at → functions (drop at (cells s)) ≡ []
functions_end s at h =
    let l : length (cells s) ≤ at = omega (arith, length-cells s) in
    ap functions (drop_of_length-le (cells s) l) ∙ functions_nil

-- the whole answer, by the tests on the length
pub image_long : (s : List ℕ) → max_image < length s → Err Length ≡ image_answer s
unfolding image_answer
image_long s h = simp (lt-leb _ _ h)

pub image_uneven : (s : List ℕ) → length s ≤ max_image → (length s % 16 ≡ 0 → ⊥) → Err Length ≡ image_answer s
unfolding image_answer
image_uneven s h n = simp (le-leb _ _ h, ne_eqb _ _ n)

pub image_even : (s : List ℕ) → length s ≤ max_image → length s % 16 ≡ 0 → functions_answer 0 0 (functions (cells s)) ≡ image_answer s
unfolding image_answer
image_even s h e = simp (le-leb _ _ h, e)

-- an accepted image: its length, and its functions
pub accepted : (s : List ℕ) → image_answer s ≡ Ok tt → (length s ≤ max_image) × (length s % 16 ≡ 0) × (functions_answer 0 0 (functions (cells s)) ≡ Ok tt)
unfolding image_answer
accepted s g =
    let w = test_good (good_length s) (functions_answer 0 0 (functions (cells s))) Length g in
    let t = and_true (leb (length s) max_image) (eqb (length s % 16) 0) w.0 in
    (leb-true _ _ t.0, eqb-true _ _ t.1, w.1)

-- a turn of the walk over functions: what was said of the next one decides, or those behind it do
module _ (s t h c e : List ℕ) (x : functions (cells s) ≡ function_of h c e ∷ functions (cells t)) where
  pub function_turn : (p at : ℕ) {all r : Checked} → all ≡ functions_answer p at (functions (cells s)) → r ≡ function_answer p at (function_of h c e)
      → all ≡ or_else r (functions_answer (p + 1) (at + (1 + length c / 16 + length e / 16)) (functions (cells t)))
  function_turn p at {all} {r} w v =
      let n : at + 1 + length (cells c) + length (cells e) ≡ at + (1 + length c / 16 + length e / 16) = omega (arith, length-cells c, length-cells e) in
      w ∙ ap (functions_answer p at) x
      ∙ ap (λ (y : Checked). or_else y (functions_answer (p + 1) (at + 1 + length (cells c) + length (cells e)) (functions (cells t)))) (sym v)
      ∙ ap (λ (j : ℕ). or_else r (functions_answer (p + 1) j (functions (cells t)))) n

  pub site_turn : (p : ℕ) {all r : Checked} → all ≡ sites_answer p (functions (cells s)) → r ≡ site_check p (cells c) (cells e)
      → all ≡ or_else r (sites_answer (p + 1) (functions (cells t)))
  site_turn p w v = w ∙ ap (sites_answer p) x ∙ ap (λ (y : Checked). or_else y (sites_answer (p + 1) (functions (cells t)))) (sym v)
