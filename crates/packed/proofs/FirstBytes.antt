-- Of a packed form the first bytes decide: a cell keeps 15 of them at most, and the longest image has 4,096 cells.
use mathlib.Core.Path.{◌≡◌, refl, sym, ◌∙◌, ap, ap₂}
use mathlib.Core.Bool.{Bool, cond, ◌&&◌, ◌||◌}
use mathlib.Core.List.{List, [], ◌∷◌}
use Prim.Native.Nat.{ℕ, zero, suc, ◌+◌, ◌-◌, ◌*◌, ◌≤◌, ◌<◌}
use native.Mathlib.Nat.{not-suc-le-zero}
use native.Mathlib.Omega.{arith}
use borrow.Author.Tests.{leb-true, leb-false, le-leb, lt-leb}
use lib.Dec.{leb}
use lib.ListN.{length, take, drop, length-take}
use lib.Seq.{get_or-take, take-take}
use Rattle.cells.specs.Bytes.{byte, half}
use Rattle.cells.specs.Cells.{Cell}
use Rattle.cells.specs.declared.refusal.Refusal.TheVariants.{UnknownCommand}
use Rattle.cells.proofs.Cells.{drop-take}
use Rattle.cells.proofs.Facts.{by_test}
use Rattle.packed.specs.Form.{Role, promise, role_of, due_behind, size}
use Rattle.packed.specs.Reading.{Result, refused, ends, if_good, and_then, empty, padded, known, cell_check, read_cell, finished, next_position, unpack_from, unpacked}
use Rattle.packed.specs.Claim.{FirstBytesDecide}
use Rattle.packed.proofs.Walk.{later, step_done, step_full, step-more}
use Rattle.packed.proofs.Widths.{size_fits, size-first, known-first}

-- ---- the next cell, by the first m bytes

start_empty : (m : ℕ) (s : List ℕ) → 1 ≤ m → empty (take m s) ≡ empty s
start_empty zero s h = absurd (not-suc-le-zero h)
start_empty (suc m) [] h = refl
start_empty (suc m) (b ∷ s) h = refl

module _ (m : ℕ) (s : List ℕ) (enough : 16 ≤ m) where
  start_byte : (i : ℕ) → i < 16 → byte (take m s) i ≡ byte s i
  start_byte i h = get_or-take m s i 0 (omega arith)

  start_half : (i : ℕ) → i + 1 < 16 → half (take m s) i ≡ half s i
  start_half i h = ap₂ (λ (x y : ℕ). x + 256 * y) (start_byte i (omega arith)) (start_byte (i + 1) h)

  start_size : (r : Role) → size r (take m s) ≡ size r s
  start_size r = size-first r (take m s) s (start_byte 0 (omega arith))

  start_known : (r : Role) → known r (take m s) ≡ known r s
  start_known r = known-first r (take m s) s (start_byte 0 (omega arith))

  start_due : (due : List Role) → due_behind due (take m s) ≡ due_behind due s
  start_due [] = ap₂ promise (start_half 3 (omega arith)) (start_half 5 (omega arith))
  start_due (r ∷ due) = refl

  start_there : (k : ℕ) → k ≤ 15 → leb k (length (take m s)) ≡ leb k (length s)
  start_there k h =
      by_test (leb k (length s))
      (λ y. let l : k ≤ length (take m s) = omega (arith, length-take m s, leb-true k (length s) y) in le-leb _ _ l ∙ sym y)
      (λ n. let l : length (take m s) < k = omega (arith, length-take m s, leb-false k (length s) n) in lt-leb _ _ l ∙ sym n)

  start_read : (r : Role) (p d : ℕ) → read_cell r p d (take m s) ≡ read_cell r p d s
  unfolding read_cell
  start_read r p d =
      let cell : Cell → Result = λ (c : Cell). if_good (cell_check r p d c) c in
      let few = size_fits r s in
      let taken : padded (take (size r (take m s)) (take m s)) ≡ padded (take (size r s) s) =
      ap (λ (k : ℕ). padded (take k (take m s))) (start_size r) ∙ ap padded (take-take (size r s) m s (omega arith)) in
      let there : leb (size r (take m s)) (length (take m s)) ≡ leb (size r s) (length s) =
      ap (λ (k : ℕ). leb k (length (take m s))) (start_size r) ∙ start_there (size r s) few in
      ap₂ (λ (e k : Bool). cond (e || k) (cond (leb (size r (take m s)) (length (take m s))) (cell (padded (take (size r (take m s)) (take m s)))) (ends p d)) (refused (UnknownCommand p d)))
      (start_empty m s (omega arith)) (start_known r)
      ∙ ap₂ (λ (t : Bool) (c : Cell). cond (empty s || known r s) (cond t (cell c) (ends p d)) (refused (UnknownCommand p d))) there taken

-- ---- all cells, 15 bytes and one more for each that there is room for

start_finished : (due : List Role) (m : ℕ) (s : List ℕ) → 1 ≤ m → finished due (take m s) ≡ finished due s
start_finished due m s h = ap (λ (e : Bool). empty due && e) (start_empty m s h)

unpack_start : (room m p d : ℕ) (due : List Role) (s : List ℕ) → 15 * room < m → unpack_from room p d due (take m s) ≡ unpack_from room p d due s
unpack_start zero m p d due s h =
    let same = start_finished due m s (omega arith) in
    by_test (finished due s) (λ y. step_done p d due (take m s) zero (same ∙ y) ∙ sym (step_done p d due s zero y))
    (λ n. step_full p d due (take m s) (same ∙ n) ∙ sym (step_full p d due s n))
unpack_start (suc room) m p d due s h =
    let same = start_finished due m s (omega arith) in
    let enough : 16 ≤ m = omega arith in
    let k : ℕ = size (role_of due) s in
    let few = size_fits (role_of due) s in
    let left : k + (m - k) ≡ m = omega (arith, few) in
    let from : List Role → List ℕ → Result = λ (q : List Role) (t : List ℕ). unpack_from room (next_position p q) (d + 1) q t in
    let rest : drop (size (role_of due) (take m s)) (take m s) ≡ take (m - k) (drop k s) =
    ap (λ (n : ℕ). drop n (take m s)) (start_size m s enough (role_of due))
    ∙ ap (λ (n : ℕ). drop k (take n s)) (sym left) ∙ drop-take k (m - k) s in
    let same-later : later p d due (take m s) room ≡ later p d due s room =
    ap₂ from (start_due m s enough due) rest
    ∙ unpack_start room (m - k) (next_position p (due_behind due s)) (d + 1) (due_behind due s) (drop k s) (omega (arith, few)) in
    by_test (finished due s) (λ y. step_done p d due (take m s) (suc room) (same ∙ y) ∙ sym (step_done p d due s (suc room) y))
    (λ n.
    step-more p d due (take m s) room (same ∙ n)
    ∙ ap₂ and_then (start_read m s enough (role_of due) p d) same-later
    ∙ sym (step-more p d due s room n))

pub first-bytes_decide : FirstBytesDecide
unfolding unpacked
first-bytes_decide s n h = unpack_start 4096 n 0 0 [] s (omega arith)
