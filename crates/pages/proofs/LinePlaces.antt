-- Where the lines of a function stand.
use mathlib.Core.Path.{◌≡◌, refl, sym, ◌∙◌, ap}
use mathlib.Core.Bool.{cond}
use mathlib.Core.List.{List, [], ◌∷◌, ◌++◌}
use Prim.Native.Nat.{ℕ, zero, suc, ◌+◌, ◌-◌, ◌*◌, ◌/◌, ◌%◌, ◌≤◌, ◌<◌}
use native.Mathlib.Nat.{le_of_suc-le-suc, not-suc-le-zero}
use native.Mathlib.Omega.{arith}
use borrow.Author.Tests.{ltb-true, ltb-false, eqb-false}
use lib.Dec.{ltb, eqb}
use lib.ListN.{length, get_or, length-append, get_or-append}
use lib.Seq.{get_or-append_seam}
use Rattle.cells.specs.Cells.{Cell}
use Rattle.cells.specs.Functions.{Function, there}
use Rattle.cells.specs.declared.walk.Part.{Part}
use Rattle.cells.specs.declared.walk.Part.TheVariants.{Code, Events}
use Rattle.cells.proofs.Facts.{by_test}
use Rattle.pages.specs.LinePlaces.{line_of, FunctionsLaidOut}
use Rattle.pages.specs.Pages.{Line, heading, cell_line, new_page, entry_lines, part_lines, name_in, function_lines, pages_of}
use Rattle.pages.proofs.Lines.{page_some, some_pages, page_more, count_part, count_function}

-- what is behind a list (a law of lists alone)
get_or-behind : {A : Type 0} (d : A) (xs ys : List A) (m n : ℕ) → n ≡ length xs + m → get_or (xs ++ ys) n d ≡ get_or ys m d
get_or-behind d [] ys m n e = ap (λ (i : ℕ). get_or ys i d) (omega arith)
get_or-behind d (x ∷ xs) ys m zero e = absurd (omega arith)
get_or-behind d (x ∷ xs) ys m (suc n) e = get_or-behind d xs ys m n (omega arith)

-- ---- in a part, the first of whose cells is at q: the line t of the lines of its cell i

pages_rise : (q i : ℕ) → pages_of q ≤ pages_of (q + i)
pages_rise q zero =
    let e : q ≡ q + 0 = omega arith in
    omega (arith, ap pages_of e)
pages_rise q (suc i) =
    let e : q + i + 1 ≡ q + suc i = omega arith in
    omega (arith, pages_rise q i, page_more 0 (q + i), ap pages_of e)

entry_length : (p : Part) (name position : ℕ) (c : Cell) → length (entry_lines p name position c) ≡ length (new_page name position) + 1
entry_length p name position c = length-append (new_page name position) (cell_line p position c ∷ [])

part_at : (p : Part) (name q : ℕ) (cs : List Cell) (i t m : ℕ) → i < length cs → t ≤ length (new_page name (q + i)) → m + pages_of q ≡ i + pages_of (q + i) + t
    → get_or (part_lines p name q cs) m [] ≡ get_or (entry_lines p name (q + i) (get_or cs i [])) t []
part_at p name q [] i t m h l e = absurd (not-suc-le-zero h)
part_at p name q (c ∷ cs) zero t m h l e =
    let z : q + 0 ≡ q = omega arith in
    let n : m ≡ t = omega (arith, ap pages_of z) in
    ap (λ (j : ℕ). get_or (part_lines p name q (c ∷ cs)) j []) n
    ∙ get_or-append (entry_lines p name q c) (part_lines p name (q + 1) cs) [] t (omega (arith, entry_length p name q c, ap (λ (j : ℕ). length (new_page name j)) z))
    ∙ ap (λ (j : ℕ). get_or (entry_lines p name j c) t []) (sym z)
part_at p name q (c ∷ cs) (suc i) t m h l e =
    let z : q + suc i ≡ q + 1 + i = omega arith in
    let n = ap pages_of z in
    let r = pages_rise (q + 1) i in
    let s = page_more name q in
    let u = entry_length p name q c in
    let v : m ≡ length (entry_lines p name q c) + (m - length (entry_lines p name q c)) = omega arith in
    get_or-behind [] (entry_lines p name q c) (part_lines p name (q + 1) cs) (m - length (entry_lines p name q c)) m v
    ∙ part_at p name (q + 1) cs i t (m - length (entry_lines p name q c)) (le_of_suc-le-suc h) (omega (arith, ap (λ (j : ℕ). length (new_page name j)) z)) (omega arith)
    ∙ ap (λ (j : ℕ). get_or (entry_lines p name j (get_or cs i [])) t []) (sym z)

-- ---- in a function: its heading, the instructions' lines, the events'

module _ (f : Function) where
  abbrev n : ℕ
  n = length f.code

  abbrev codes : List Line
  codes = part_lines Code (name_in f) 0 f.code

  abbrev evs : List Line
  evs = part_lines Events (name_in f) n f.events

  -- as many lines as the instructions have, with the heading
  codes_length : length codes + 1 ≡ n + pages_of n
  codes_length =
      let e : 0 + n ≡ n = omega arith in
      omega (arith, count_part Code (name_in f) 0 f.code, ap pages_of e)

  in_code : (m : ℕ) → m < length codes → get_or (function_lines f) (m + 1) [] ≡ get_or codes m []
  in_code m h =
      let e : m + 1 ≡ suc m = omega arith in
      ap (λ (j : ℕ). get_or (function_lines f) j []) e ∙ get_or-append codes evs [] m h

  in_events : (m : ℕ) → get_or (function_lines f) (length codes + m + 1) [] ≡ get_or evs m []
  in_events m =
      let e : length codes + m + 1 ≡ suc (length codes + m) = omega arith in
      ap (λ (j : ℕ). get_or (function_lines f) j []) e ∙ get_or-behind [] codes evs m (length codes + m) refl

  -- the lines of the cell at a position
  abbrev entry_of : ℕ → List Line
  entry_of k = cond (ltb k n) (entry_lines Code (name_in f) k (get_or f.code k [])) (entry_lines Events (name_in f) k (get_or f.events (k - n) []))

  function_at_lem : (k t m : ℕ) → k < there f → t ≤ length (new_page (name_in f) k) → m ≡ k + pages_of k + t → get_or (function_lines f) m [] ≡ get_or (entry_of k) t []
  function_at_lem k t m h l e =
      let z : 0 + k ≡ k = omega arith in
      let w = ap pages_of z in
      let y = pages_rise 0 k in
      let x = page_more (name_in f) k in
      by_test (ltb k n)
      (λ b.
      let c = ltb-true k n b in
      let d : k + 1 + (n - (k + 1)) ≡ n = omega arith in
      let u : m - 1 < length codes = omega (arith, codes_length, pages_rise (k + 1) (n - (k + 1)), ap pages_of d) in
      let v : m ≡ m - 1 + 1 = omega arith in
      let a = ap (λ (j : ℕ). length (new_page (name_in f) j)) z in
      let o : get_or (entry_of k) t [] ≡ get_or (entry_lines Code (name_in f) k (get_or f.code k [])) t [] = rw b in
      ap (λ (j : ℕ). get_or (function_lines f) j []) v ∙ in_code (m - 1) u
      ∙ part_at Code (name_in f) 0 f.code k t (m - 1) c (omega arith) (omega arith)
      ∙ ap (λ (j : ℕ). get_or (entry_lines Code (name_in f) j (get_or f.code k [])) t []) z ∙ sym o)
      (λ b.
      let c = ltb-false k n b in
      let d : n + (k - n) ≡ k = omega arith in
      let g = ap pages_of d in
      let r = pages_rise n (k - n) in
      let q = codes_length in
      let v : m ≡ length codes + (m - 1 - length codes) + 1 = omega arith in
      let a = ap (λ (j : ℕ). length (new_page (name_in f) j)) d in
      let o : get_or (entry_of k) t [] ≡ get_or (entry_lines Events (name_in f) k (get_or f.events (k - n) [])) t [] = rw b in
      ap (λ (j : ℕ). get_or (function_lines f) j []) v ∙ in_events (m - 1 - length codes)
      ∙ part_at Events (name_in f) n f.events (k - n) t (m - 1 - length codes) (omega arith) (omega arith) (omega arith)
      ∙ ap (λ (j : ℕ). get_or (entry_lines Events (name_in f) j (get_or f.events (k - n) [])) t []) d ∙ sym o)

  -- the last of these is the cell's own line; the first is a heading, where a page begins
  entry_last : (k : ℕ) → get_or (entry_of k) (length (new_page (name_in f) k)) [] ≡ line_of f k
  entry_last k =
      by_test (ltb k n)
      (λ b. rw b (get_or-append_seam (new_page (name_in f) k) (cell_line Code k (get_or f.code k [])) [] []))
      (λ b. rw b (get_or-append_seam (new_page (name_in f) k) (cell_line Events k (get_or f.events (k - n) [])) [] []))

  entry_first : (k : ℕ) → 0 < k → k % 49 ≡ 0 → get_or (entry_of k) 0 [] ≡ heading (name_in f) (k / 49 + 1)
  entry_first k s z =
      let e = page_some (name_in f) k s z in
      by_test (ltb k n)
      (λ b. rw b (ap (λ (ls : List Line). get_or (ls ++ cell_line Code k (get_or f.code k []) ∷ []) 0 []) e))
      (λ b. rw b (ap (λ (ls : List Line). get_or (ls ++ cell_line Events k (get_or f.events (k - n) []) ∷ []) 0 []) e))

  headings : (p : ℕ) → p < pages_of (there f) → get_or (function_lines f) (50 * p) [] ≡ heading (name_in f) (p + 1)
  headings zero h = refl
  headings (suc p) h =
      let k : ℕ = 49 * suc p in
      let some : 0 < there f = by_test (eqb (there f) 0) (λ t. absurd (omega (arith, rw t at h))) (λ t. omega (arith, eqb-false (there f) 0 t)) in
      let a = some_pages (there f) some in
      let b = some_pages k (omega arith) in
      let e : k / 49 + 1 ≡ suc p + 1 = omega arith in
      function_at_lem k 0 (50 * suc p) (omega arith) (omega arith) (omega arith) ∙ entry_first k (omega arith) (omega arith) ∙ ap (heading (name_in f)) e

  cell_lines_lem : (k : ℕ) → k < there f → get_or (function_lines f) (k + k / 49 + 1) [] ≡ line_of f k
  cell_lines_lem k h =
      function_at_lem k (length (new_page (name_in f) k)) (k + k / 49 + 1) h (omega arith) (omega (arith, page_more (name_in f) k, some_pages (k + 1) (omega arith))) ∙ entry_last k

pub functions_laid_out : FunctionsLaidOut
functions_laid_out f = record { lines = count_function f; headings = headings f; cell_lines = cell_lines_lem f }
