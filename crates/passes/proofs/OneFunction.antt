-- One function, by its head and its two parts: what cleanup asks of them, and its cells copied over the start of an output.
use mathlib.Core.Path.{◌≡◌, refl, sym, ◌∙◌, ap, ap₂}
use mathlib.Core.List.{List, [], ◌∷◌, ◌++◌, append_assoc}
use Prim.Native.Nat.{ℕ, ◌+◌, ◌-◌, ◌/◌, ◌≤◌, ◌<◌}
use native.Mathlib.Omega.{arith}
use lib.ListN.{length, take, drop, length-append, length-drop}
use Rattle.cells.specs.Cells.{Cell, cells, flat, over}
use Rattle.cells.specs.Check.{max_instructions, max_events, code_count, event_count}
use Rattle.cells.specs.Functions.{Function, function_of, there, cells_of, new_head}
use Rattle.cells.specs.WellFormed.{WellFormed}
use Rattle.cells.proofs.Cells.{length-cells, flat-cells, flat_append}
use Rattle.cells.proofs.Checks.{head_fits}
use Rattle.cells.proofs.Lists.{nothing_in}
use Rattle.cells.proofs.Over.{over-part, copied, length_over}
use Rattle.cleanup.specs.Cleanup.{clean_function, clean_code, clean_events, clean_count}
use Rattle.cleanup.specs.Output.{Parts, Holds}
use Rattle.cleanup.specs.declared.FunctionReport.{FunctionReport}
use Rattle.passes.specs.Steps.{Room}

-- ---- the function by its head and its two parts

module _ (h code evs out : List ℕ) (r : Room h code evs out) where
  abbrev f : Function
  f = function_of h code evs

  head-length : length h ≡ 16
  head-length = r.formed.full.0

  -- no part is longer than the limits
  limits : (length code / 16 ≤ max_instructions) × (length evs / 16 ≤ max_events)
  limits =
      let t = head_fits 0 0 (there f) h (r.formed.head 0 0) in
      let c = r.formed.counted in
      (omega (arith, t.0, c.0, length-cells code), omega (arith, t.1, c.1, length-cells evs))

  -- what cleanup asks
  pub clean_parts : (length h ≡ 16) × (16 ≤ length out) × Parts code evs (drop 16 out)
  clean_parts = (
    head-length,
    omega (arith, r.room),
    record {
      code_even = r.code_even;
      events_even = r.events_even;
      few_instructions = limits.0;
      few_events = limits.1;
      room = omega (arith, r.room, length-drop 16 out);
    },
  )

  -- the function as it is: its parts, each copied behind the one before
  pub copy_holds : (o₁ part₁ o₂ part₂ o₃ : List ℕ) → o₁ ≡ take (length h) h ++ drop (length h) out
      → part₁ ≡ take (length code) code ++ drop (length code) (take (length o₁ - 16) (drop 16 o₁)) → o₂ ≡ take 16 o₁ ++ (part₁ ++ drop (length o₁ - 16) (drop 16 o₁))
      → part₂ ≡ take (length evs) evs ++ drop (length evs) (take (length o₂ - (16 + length code)) (drop (16 + length code) o₂))
      → o₃ ≡ take (16 + length code) o₂ ++ (part₂ ++ drop (length o₂ - (16 + length code)) (drop (16 + length code) o₂))
      → Holds f 0 out o₃ (record { instructions = length code / 16; events = length evs / 16; rewrites = 0 })
  copy_holds o₁ part₁ o₂ part₂ o₃ e₁ p₁ e₂ p₂ e₃ =
      let a : o₁ ≡ over h out = e₁ ∙ copied h out in
      let la : length o₁ ≡ length out = rw a (length_over h out (omega (arith, head-length, r.room))) in
      let b : o₂ ≡ over (h ++ code) out = e₂ ∙ over-part h code out o₁ part₁ 16 head-length (omega (arith, la, r.room)) a (p₁ ∙ copied code (take (length o₁ - 16) (drop 16 o₁))) in
      let lh : length (h ++ code) ≡ 16 + length code = simp length-append (omega (arith, head-length)) in
      let lb : length o₂ ≡ length out = rw b (length_over (h ++ code) out (omega (arith, lh, r.room))) in
      let c : o₃ ≡ over ((h ++ code) ++ evs) out =
      e₃ ∙ over-part (h ++ code) evs out o₂ part₂ (16 + length code) lh (omega (arith, lb, r.room)) b (p₂ ∙ copied evs (take (length o₂ - (16 + length code)) (drop (16 + length code) o₂))) in
      let w : flat (cells_of f) ≡ (h ++ code) ++ evs =
      ap (λ (t : List ℕ). h ++ t) (flat_append (cells code) (cells evs) ∙ ap₂ (λ (x y : List ℕ). x ++ y) (flat-cells code r.code_even) (flat-cells evs r.events_even))
      ∙ sym (append_assoc h code evs) in
      record { bytes = rw w c; instructions = sym (length-cells code); events = sym (length-cells evs); rewrites = refl }

-- ---- a function without cells is handed back as it is

same_head : (h : Cell) → 7 ≤ length h → code_count h ≡ 0 → event_count h ≡ 0 → new_head h 0 0 ≡ h
same_head [] l k e = absurd (omega arith)
same_head (a ∷ []) l k e = absurd (omega arith)
same_head (a ∷ b ∷ []) l k e = absurd (omega arith)
same_head (a ∷ b ∷ c ∷ []) l k e = absurd (omega arith)
same_head (a ∷ b ∷ c ∷ d ∷ []) l k e = absurd (omega arith)
same_head (a ∷ b ∷ c ∷ d ∷ f ∷ []) l k e = absurd (omega arith)
same_head (a ∷ b ∷ c ∷ d ∷ f ∷ g ∷ []) l k e = absurd (omega arith)
same_head (a ∷ b ∷ c ∷ d ∷ f ∷ g ∷ i ∷ t) l k e =
    let d0 : d ≡ 0 = omega arith in
    let f0 : f ≡ 0 = omega arith in
    let g0 : g ≡ 0 = omega arith in
    let i0 : i ≡ 0 = omega arith in
    rw (d0, f0, g0, i0)

clean_empty : (h : Cell) → 7 ≤ length h → code_count h ≡ 0 → event_count h ≡ 0 → clean_function (record { head = h; code = []; events = [] }) ≡ record { head = h; code = []; events = [] }
unfolding clean_function clean_code clean_events
clean_empty h l k e = ap (λ (c : Cell). record { head = c; code = []; events = [] }) (same_head h l k e)

empty_holds : (h : Cell) (cs es : List Cell) → cs ≡ [] → es ≡ [] → 7 ≤ length h → code_count h ≡ 0 → event_count h ≡ 0 → (before after : List ℕ) (r : FunctionReport)
    → Holds (record { head = h; code = cs; events = es }) 0 before after r
    → Holds (clean_function (record { head = h; code = cs; events = es })) (clean_count cs) before after r
unfolding clean_count clean_code
empty_holds h cs es c e l k m before after r x =
    let y : Holds (record { head = h; code = []; events = [] }) 0 before after r = rw (c, e) at x in
    rw (c, e, clean_empty h l k m) y

pub none-holds : (h code evs : List ℕ) → WellFormed (function_of h code evs) → length code + length evs < 16 → (before after : List ℕ) (r : FunctionReport)
    → Holds (function_of h code evs) 0 before after r → Holds (clean_function (function_of h code evs)) (clean_count (cells code)) before after r
none-holds h code evs w n before after r x =
    let lc : length (cells code) ≡ 0 = omega (arith, length-cells code) in
    let le : length (cells evs) ≡ 0 = omega (arith, length-cells evs) in
    let l : 7 ≤ length h = omega (arith, w.full.0) in
    empty_holds h (cells code) (cells evs) (nothing_in (cells code) lc) (nothing_in (cells evs) le) l (sym w.counted.0 ∙ lc) (sym w.counted.1 ∙ le) before after r x
