-- The functions of an image as they come from its start: the first, and those of the bytes behind it.
use mathlib.Core.Path.{◌≡◌, ap, ap₂, sym, subst, ◌∙◌}
use mathlib.Core.List.{List, [], ◌∷◌, ◌++◌}
use Prim.Native.Nat.{ℕ, ◌+◌, ◌-◌, ◌*◌, ◌/◌, ◌≤◌, ◌<◌}
use native.Mathlib.Omega.{arith}
use lib.ListN.{length, take, drop, length-drop, length-append}
use lib.Seq.{take_all}
use Rattle.cells.specs.Cells.{Cell, Full, chunks, cells}
use Rattle.cells.specs.Functions.{Function, function_of, functions, cells_of_all}
use Rattle.cells.specs.Spans.{SpanAt, part}
use Rattle.cells.specs.declared.walk.Span.{Span}
use Rattle.cells.proofs.Cells.{length-cells, chunks-drop, full_cells}
use Rattle.cells.proofs.Functions.{functions_nil, cells_of_functions}
use Rattle.cells.proofs.Lists.{nothing_in, part-all}

-- the bytes from a cell on
pub cells-behind : (s : List ℕ) (e k : ℕ) → e ≡ 16 * k → e ≤ length s → cells (take (length s - e) (drop e s)) ≡ drop k (cells s)
cells-behind s e k p h =
    let all : take (length s - e) (drop e s) ≡ drop e s = take_all (length s - e) (drop e s) (omega (arith, length-drop e s)) in
    let n : length (drop e s) / 16 ≡ length s / 16 - k = omega (arith, length-drop e s) in
    ap cells all
    ∙ ap₂ chunks n (ap (λ (j : ℕ). drop j s) p)
    ∙ sym (chunks-drop k (length s / 16 - k) s)
    ∙ ap (λ (m : ℕ). drop k (chunks m s)) (omega arith)

-- of fewer bytes than a cell's there is none
pub none_left : (s : List ℕ) → length s < 16 → functions (cells s) ≡ []
none_left s h = ap functions (nothing_in (cells s) (omega (arith, length-cells s))) ∙ functions_nil

pub first_then : (s : List ℕ) (r : Span) → SpanAt s 0 r
    → functions (cells s) ≡ function_of (take r.code s) (take (r.events - r.code) (drop r.code s)) (take (r.end - r.events) (drop r.events s))
    ∷ functions (cells (take (length s - r.end) (drop r.end s)))
first_then s r z =
    let a : part s r.head r.code ≡ take r.code s = ap (λ (j : ℕ). part s j r.code) z.head ∙ part-all s r.code in
    let e : r.end ≡ 16 * (r.end / 16) = omega (arith, z.code, z.events, z.end) in
    z.next
    ∙ ap₂ (λ (f : Function) (fs : List Function). f ∷ fs)
    (sym z.is ∙ ap (λ (h : Cell). function_of h (part s r.code r.events) (part s r.events r.end)) a)
    (ap functions (sym (cells-behind s r.end (r.end / 16) e z.within)))

-- ---- what an iteration takes: a head, the cells of its two parts, and what is left behind them

module _ (s t h c e : List ℕ) (x : functions (cells s) ≡ function_of h c e ∷ functions (cells t)) where
  taken : cells s ≡ h ∷ ((cells c ++ cells e) ++ cells t)
  taken =
      sym (cells_of_functions (cells s))
      ∙ ap cells_of_all x
      ∙ ap (λ (cs : List Cell). h ∷ ((cells c ++ cells e) ++ cs)) (cells_of_functions (cells t))

  pub head_taken : length h ≡ 16
  head_taken = (subst Full taken (full_cells s)).0

  pub cells_taken : length s / 16 ≡ 1 + length c / 16 + length e / 16 + length t / 16
  cells_taken =
      let n : length (cells s) ≡ length (h ∷ ((cells c ++ cells e) ++ cells t)) = ap length taken in
      omega (arith, n, length-append (cells c ++ cells e) (cells t), length-append (cells c) (cells e), length-cells s, length-cells c, length-cells e, length-cells t)
