-- The laws behind the walk over an image's functions: the one whose head is the cell at.
use mathlib.Core.Path.{◌≡◌, ap, sym, ◌∙◌}
use mathlib.Core.List.{List, [], ◌∷◌}
use Prim.Native.Nat.{ℕ, ◌+◌, ◌-◌, ◌*◌, ◌/◌, ◌≤◌, ◌<◌, min}
use native.Mathlib.Numerals.{add-one}
use native.Mathlib.Omega.{arith}
use lib.ListN.{length, get_or, take, drop, length-take, length-drop}
use lib.Seq.{drop-cons, drop-drop}
use Rattle.cells.specs.Cells.{Cell, cells, cell_at}
use Rattle.cells.specs.Check.{code_count, event_count}
use Rattle.cells.specs.Functions.{Function, function_at, function_from, behind, functions}
use Rattle.cells.specs.Spans.{SpanAt, part}
use Rattle.cells.specs.declared.walk.Span.{Span}
use Rattle.cells.proofs.Cells.{length-cells, cell_at_lem, part-cell, part-cells}
use Rattle.cells.proofs.Functions.{functions_cons}
use Rattle.cells.proofs.Lists.{take-there, drop-there}

-- the cells from a place on that is in the list
pub drop-next : (cs : List Cell) (i : ℕ) → i < length cs → drop i cs ≡ get_or cs i [] ∷ drop (i + 1) cs
drop-next cs i h = rw (add-one, drop-cons cs i [])

pub length_part : (s : List ℕ) (a b : ℕ) → a ≤ b → b ≤ length s → length (part s a b) ≡ b - a
length_part s a b h k = simp (length-take, length-drop) (omega arith)

-- behind the cells that are there for a head is what is behind those that it promises
behind_is : (h : Cell) (cs : List Cell) → behind h cs ≡ drop (length (function_at h cs).code + length (function_at h cs).events) cs
behind_is h cs =
    let k : ℕ = code_count h in
    let m : ℕ = event_count h in
    sym (drop-drop m k cs) ∙ sym (drop-there m (drop k cs)) ∙ ap (drop (length (take m (drop k cs)))) (sym (drop-there k cs)) ∙ drop-drop (length (take m (drop k cs))) (length (take k cs)) cs

-- how many cells are there of k from the cell b on, of n in all; and how many behind those
there_of : (n b k x c : ℕ) → c ≡ 16 * b → x ≡ min k (n - b) → min (16 * n - c) (16 * k) ≡ 16 * x
there_of n b k x c e f = omega arith

behind_of : (n b k x l : ℕ) → l ≡ n - b → x ≡ min k l → l - k ≡ n - (b + x)
behind_of n b k x l e f = omega arith

fits_of : (n b k x : ℕ) → b ≤ n → x ≡ min k (n - b) → b + x ≤ n
fits_of n b k x h f = omega arith

module _ (s : List ℕ) (at : ℕ) (h : at < length s / 16) where
  abbrev f : Function
  f = function_from (cells s) at

  abbrev rest : List Cell
  rest = drop (at + 1) (cells s)

  length_rest : length rest ≡ length s / 16 - (at + 1)
  length_rest = length-drop (at + 1) (cells s) ∙ ap (λ (j : ℕ). j - (at + 1)) (length-cells s)

  length_code : length f.code ≡ min (code_count f.head) (length s / 16 - (at + 1))
  length_code = length-take (code_count f.head) rest ∙ ap (min (code_count f.head)) length_rest

  length_events : length f.events ≡ min (event_count f.head) (length s / 16 - (at + 1 + length f.code))
  length_events =
      let k : ℕ = code_count f.head in
      length-take (event_count f.head) (drop k rest)
      ∙ ap (min (event_count f.head)) (length-drop k rest ∙ behind_of (length s / 16) (at + 1) k (length f.code) (length rest) length_rest (length-take k rest))

  fits : at + 1 + length f.code + length f.events ≤ length s / 16
  fits =
      fits_of (length s / 16) (at + 1 + length f.code) (event_count f.head) (length f.events)
      (fits_of (length s / 16) (at + 1) (code_count f.head) (length f.code) (omega arith) length_code) length_events

  module _ (r : Span) (a : r.head ≡ 16 * at) (b : r.code ≡ 16 * at + 16) where
    parts : r.events ≡ r.code + 16 * length f.code → r.end ≡ r.events + 16 * length f.events → SpanAt s at r
    parts ev en =
        let k : ℕ = code_count f.head in
        let m : ℕ = event_count f.head in
        let wi : r.end ≤ length s = omega (arith, fits) in
        let code : cells (part s r.code r.events) ≡ f.code =
        part-cells s r.code r.events (at + 1) (length f.code) (omega arith) (omega arith) (omega arith) ∙ take-there k rest in
        let evs : cells (part s r.events r.end) ≡ f.events =
        part-cells s r.events r.end (at + 1 + length f.code) (length f.events) (omega arith) (omega arith) wi
        ∙ ap (take (length f.events)) (sym (drop-drop (length f.code) (at + 1) (cells s)) ∙ drop-there k rest) ∙ take-there m (drop k rest) in
        let e : at + 1 + (length f.code + length f.events) ≡ r.end / 16 = omega arith in
        record {
          head = a;
          code = b;
          events = ev;
          end = en;
          within = wi;
          is = rw (part-cell s r.head r.code at a b (omega arith), code, evs);
          next =
              ap functions (drop-next (cells s) at (omega (arith, length-cells s)))
              ∙ functions_cons f.head rest
              ∙ ap (λ (cs : List Cell). f ∷ functions cs) (behind_is f.head rest ∙ drop-drop (length f.code + length f.events) (at + 1) (cells s) ∙ ap (λ (j : ℕ). drop j (cells s)) e);
        }

    -- the numbers as the code finds them
    pub spanned : r.events ≡ r.code + min (16 * (length s / 16) - r.code) (16 * code_count (cell_at s at))
        → r.end ≡ r.events + min (16 * (length s / 16) - r.events) (16 * event_count (cell_at s at)) → SpanAt s at r
    spanned c d =
        let n : ℕ = length s / 16 in
        let hd : cell_at s at ≡ f.head = sym (cell_at_lem s at h) in
        let ev : r.events ≡ r.code + 16 * length f.code =
        c ∙ ap (λ (j : ℕ). r.code + j)
        (ap (λ (x : Cell). min (16 * n - r.code) (16 * code_count x)) hd ∙ there_of n (at + 1) (code_count f.head) (length f.code) r.code (omega (arith, b)) length_code) in
        let en : r.end ≡ r.events + 16 * length f.events =
        d ∙ ap (λ (j : ℕ). r.events + j)
        (ap (λ (x : Cell). min (16 * n - r.events) (16 * event_count x)) hd
        ∙ there_of n (at + 1 + length f.code) (event_count f.head) (length f.events) r.events (omega (arith, b, ev)) length_events) in
        parts ev en
