-- The table of widths at work, for all commands, events and heads together: a cell's first byte and what it is decide how many bytes it keeps;
-- reading back what was kept gives the cell; keeping of what was read gives the bytes; and the check sees the kept bytes alone.
use mathlib.Core.Path.{◌≡◌, refl, ap, ap₂, sym, ◌∙◌}
use mathlib.Core.List.{List, [], ◌∷◌, ◌++◌}
use mathlib.Core.Bool.{Bool, true, false, ◌&&◌}
use Prim.Native.Nat.{ℕ, zero, suc, ◌+◌, ◌-◌, ◌*◌, ◌/◌, ◌%◌, ◌^◌, ◌≤◌, ◌<◌}
use native.Mathlib.Nat.{add_assoc, add-zero, div-one, not-suc-le-zero}
use native.Mathlib.Omega.{arith}
use borrow.Author.Tests.{lt-ltb, le-leb, lt-leb, ltb-true, ltb-false, eqb-true}
use lib.Dec.{eqb, ltb, leb, leb→le}
use lib.ListN.{length, take, drop, replicate, length-append, length-drop, length-replicate, take-append-drop, drop_of_length-le, get_or-eq_default, get_or-append}
use lib.Pow.{shr-shr}
use lib.Seq.{length-take-le, get_or-take, get_or-drop, take_at, drop_at}
use Rattle.cells.specs.Answers.{unless}
use Rattle.cells.specs.Bytes.{byte, half, word, zeros}
use Rattle.cells.specs.Cells.{Cell}
use Rattle.cells.specs.Check.{operand_ok, operands_ok, row_ok, code_count, event_count, head_check, instruction_check, event_check, registers, present}
use Rattle.cells.specs.Table.{Row, row, rows, row_of, total, width_of, head_row, event_row}
use Rattle.cells.specs.declared.table.Kind.{Kind}
use Rattle.cells.specs.declared.table.Kind.TheVariants.{Reg, OptReg, Flag, Quad, Two, Four, Eight, Site}
use Rattle.cells.specs.declared.table.Class.TheVariants.{NoCommand}
use Rattle.cells.specs.declared.refusal.Refusal.TheVariants.{Operand}
use Rattle.cells.proofs.Facts.{by_test, and_true}
use Rattle.cells.proofs.Every.{at_any}
use Rattle.cells.proofs.Checks.{instruction_good, event_good, head-good}
use Rattle.packed.specs.Form.{Role, Head, Code, Event, promise, role_of, due_behind, row_for, row_size, size, keep}
use Rattle.packed.specs.Reading.{padded, next_cell, known, cell_check}
use Rattle.packed.specs.Steps.{size_digits}
use Rattle.std.specs.Prelude.{Ok}

-- ---- sizes

rows_past : (k : ℕ) → 84 ≤ k → row_of k ≡ []
unfolding rows
rows_past k h = ap (λ (r : Row). r.operands) (get_or-eq_default rows (row NoCommand []) h)

pub size_past : (k : ℕ) → 84 ≤ k → 1 ≡ row_size k
unfolding row_size
size_past k h = sym (ap (λ (ks : List Kind). 1 + total ks) (rows_past k h))

pub size_some : (r : Role) (s : List ℕ) → 1 ≤ size r s
unfolding row_size
size_some r s = omega arith

-- no row fills its cell
keeps_few : ℕ → Row → Bool
keeps_few k r = leb (1 + total r.operands) 15

size_within : (k : ℕ) → k < 84 → row_size k ≤ 15
unfolding rows keeps_few row_size
size_within k h = leb→le (row_size k) 15 (at_any (row NoCommand []) keeps_few rows tt k h)

row_fits : (k : ℕ) → row_size k ≤ 15
row_fits k = by_test (ltb k 84) (λ y. size_within k (ltb-true _ _ y)) (λ n. omega (arith, size_past k (ltb-false _ _ n)))

pub size_fits : (r : Role) (s : List ℕ) → size r s ≤ 15
size_fits r s = row_fits (row_for r s)

-- so that each is a hexadecimal digit, found at its place among others
digit_at : (n k j : ℕ) → j < n → size_digits n k / 2 ^ (4 * j) % 16 ≡ row_size (k + j)
digit_at zero k j h = absurd (not-suc-le-zero h)
digit_at (suc n) k zero h = omega (arith, div-one (size_digits (suc n) k), row_fits k, ap row_size (add-zero k))
digit_at (suc n) k (suc j) h =
    let e : 4 * suc j ≡ 4 + 4 * j = omega arith in
    let d : size_digits (suc n) k / 16 ≡ size_digits n (k + 1) = omega (arith, row_fits k) in
    let i : k + 1 + j ≡ k + suc j = omega arith in
    ap (λ (m : ℕ). size_digits (suc n) k / 2 ^ m % 16) e ∙ ap (λ (m : ℕ). m % 16) (sym (shr-shr (size_digits (suc n) k) 4 (4 * j)))
    ∙ ap (λ (m : ℕ). m / 2 ^ (4 * j) % 16) d ∙ digit_at n (k + 1) j (omega arith) ∙ ap row_size i

pub size-digit : (k : ℕ) → size_digits 16 (16 * (k / 16)) / 2 ^ (4 * (k % 16)) % 16 ≡ row_size k
size-digit k =
    let e : 16 * (k / 16) + k % 16 ≡ k = omega arith in
    digit_at 16 (16 * (k / 16)) (k % 16) (omega arith) ∙ ap row_size e

-- past the table each is 1
ones : ℕ → ℕ
ones zero = 0
ones (suc n) = 1 + 16 * ones n

digits_past : (n k : ℕ) → 84 ≤ k → ones n ≡ size_digits n k
unfolding ones
digits_past zero k h = refl
digits_past (suc n) k h = omega (arith, size_past k h, digits_past n (k + 1) (omega arith))

pub sixteen_past : (k : ℕ) → 6 ≤ k → 0x1111111111111111 ≡ size_digits 16 (16 * k)
unfolding ones
sixteen_past k h = digits_past 16 (16 * k) (omega arith)

pub head-size : (s : List ℕ) → size Head s ≡ 7
unfolding row_size rows
head-size s = refl

pub event_size : (s : List ℕ) → size Event s ≡ 15
unfolding row_size rows
event_size s = refl

-- the first byte decides
pub size-first : (r : Role) (s t : List ℕ) → byte s 0 ≡ byte t 0 → size r s ≡ size r t
size-first Head s t e = refl
size-first Code s t e = ap row_size e
size-first Event s t e = refl

pub known-first : (r : Role) (s t : List ℕ) → byte s 0 ≡ byte t 0 → known r s ≡ known r t
known-first Head s t e = refl
known-first Code s t e = rw e
known-first Event s t e = rw e

-- ---- bytes at the start of others

module _ (b t : List ℕ) where
  pub byte_start : (i : ℕ) → i < length b → byte (b ++ t) i ≡ byte b i
  byte_start i h = get_or-append b t 0 i h

  pub half_start : (i : ℕ) → i + 2 ≤ length b → half (b ++ t) i ≡ half b i
  half_start i h = ap₂ (λ (x y : ℕ). x + 256 * y) (byte_start i (omega arith)) (byte_start (i + 1) (omega arith))

  pub word_start : (i : ℕ) → i + 4 ≤ length b → word (b ++ t) i ≡ word b i
  word_start i h = ap₂ (λ (x y : ℕ). x + 65536 * y) (half_start i (omega arith)) (half_start (i + 2) (omega arith))

-- what a head promises stands in the bytes it keeps
pub due_start : (due : List Role) (b t : List ℕ) → size (role_of due) b ≤ length b → due_behind due (b ++ t) ≡ due_behind due b
due_start [] b t h =
    let l : 7 ≤ length b = omega (arith, head-size b) in
    ap₂ promise (half_start b t 3 (omega arith)) (half_start b t 5 (omega arith))
due_start (r ∷ due) b t h = refl

-- ---- the check sees the kept bytes alone

operand_start : (k : Kind) (b t : List ℕ) (at : ℕ) → at + width_of k ≤ length b → operand_ok k (b ++ t) at ≡ operand_ok k b at
operand_start Reg b t at h = ap (λ (n : ℕ). ltb n registers) (half_start b t at h)
operand_start OptReg b t at h =
    ap₂ (λ (p v : ℕ). present p v && ltb v registers) (byte_start b t at (omega arith)) (half_start b t (at + 1) (omega arith))
operand_start Flag b t at h = ap (λ (n : ℕ). ltb n 2) (byte_start b t at (omega arith))
operand_start Quad b t at h = ap (λ (n : ℕ). ltb n 4) (byte_start b t at (omega arith))
operand_start Two b t at h = refl
operand_start Four b t at h = refl
operand_start Eight b t at h = refl
operand_start Site b t at h = ap₂ present (byte_start b t at (omega arith)) (word_start b t (at + 1) (omega arith))

operands_start : (ks : List Kind) (b t : List ℕ) (at : ℕ) → zeros t ≡ true → at + total ks ≡ length b → operands_ok ks (b ++ t) at ≡ operands_ok ks b at
operands_start [] b t at z h =
    ap zeros (drop_at b t at (omega arith)) ∙ z ∙ sym (ap zeros (drop_of_length-le b {i = at} (omega arith)))
operands_start (k ∷ ks) b t at z h =
    ap₂ (λ (x y : Bool). x && y) (operand_start k b t at (omega arith)) (operands_start ks b t (at + width_of k) z (omega arith))

pub zeros-replicate : (n : ℕ) → zeros (replicate n 0) ≡ true
zeros-replicate zero = refl
zeros-replicate (suc n) = zeros-replicate n

pub row_start : (n : ℕ) (b t : List ℕ) → zeros t ≡ true → row_size n ≡ length b → row_ok n (b ++ t) ≡ row_ok n b
unfolding row_size
row_start n b t z h = operands_start (row_of n) b t 1 z h

module _ (p d : ℕ) (b t : List ℕ) (z : zeros t ≡ true) where
  pub head_start : size Head b ≡ length b → head_check p d (code_count (b ++ t) + event_count (b ++ t)) (b ++ t) ≡ head_check p d (code_count b + event_count b) b
  unfolding head_check
  head_start h =
      let l : 7 ≡ length b = sym (head-size b) ∙ h in
      rw (byte_start b t 0 (omega arith), half_start b t 3 (omega arith), half_start b t 5 (omega arith), row_start head_row b t z h)

  pub code_start : size Code b ≡ length b → known Code b ≡ true → instruction_check p d (b ++ t) ≡ unless (row_ok (byte b 0) b) (Operand p d)
  unfolding instruction_check
  code_start h k =
      let f : byte (b ++ t) 0 ≡ byte b 0 = byte_start b t 0 (omega (arith, size_some Code b)) in
      rw (f, k, row_start (byte b 0) b t z h)

  pub event_start : size Event b ≡ length b → known Event b ≡ true → event_check p d (b ++ t) ≡ unless (row_ok event_row b) (Operand p d)
  unfolding event_check
  event_start h k =
      let f : byte (b ++ t) 0 ≡ byte b 0 = byte_start b t 0 (omega (arith, size_some Event b)) in
      rw (f, k, row_start event_row b t z h)

-- ---- a good cell is zero behind what is kept

operands_zeros : (ks : List Kind) (c : Cell) (at : ℕ) → operands_ok ks c at ≡ true → zeros (drop (at + total ks) c) ≡ true
operands_zeros [] c at g = rw (add-zero at) g
operands_zeros (k ∷ ks) c at g =
    rw (← add_assoc at (width_of k) (total ks)) (operands_zeros ks c (at + width_of k) (and_true (operand_ok k c at) (operands_ok ks c (at + width_of k)) g).1)

right-row : (r : Role) (p d : ℕ) (c : Cell) → cell_check r p d c ≡ Ok tt → row_ok (row_for r c) c ≡ true
right-row Head p d c g = ((head-good p d (code_count c + event_count c) c).0 g).1
right-row Code p d c g = ((instruction_good p d c).0 g).1
right-row Event p d c g = ((event_good p d c).0 g).1

pub right-zeros : (r : Role) (p d : ℕ) (c : Cell) → cell_check r p d c ≡ Ok tt → zeros (drop (size r c) c) ≡ true
unfolding row_size
right-zeros r p d c g = operands_zeros (row_of (row_for r c)) c 1 (right-row r p d c g)

pub right-known : (r : Role) (p d : ℕ) (c : Cell) → cell_check r p d c ≡ Ok tt → known r c ≡ true
right-known Head p d c g = refl
right-known Code p d c g = ((instruction_good p d c).0 g).0
right-known Event p d c g = ((event_good p d c).0 g).0

pub right_anywhere : (r : Role) (p d : ℕ) (c : Cell) → cell_check r p d c ≡ Ok tt → (q e : ℕ) → cell_check r q e c ≡ Ok tt
right_anywhere Head p d c g q e = (head-good q e (code_count c + event_count c) c).1 ((head-good p d (code_count c + event_count c) c).0 g)
right_anywhere Code p d c g q e = (instruction_good q e c).1 ((instruction_good p d c).0 g)
right_anywhere Event p d c g q e = (event_good q e c).1 ((event_good p d c).0 g)

zeros_are : (s : List ℕ) → zeros s ≡ true → s ≡ replicate (length s) 0
zeros_are [] z = refl
zeros_are (b ∷ s) z =
    let t = and_true (eqb b 0) (zeros s) z in
    ap₂ (λ (x : ℕ) (xs : List ℕ). x ∷ xs) (eqb-true b 0 t.0) (zeros_are s t.1)

-- ---- reading back what was kept

pub first-take : (n : ℕ) (s : List ℕ) → 1 ≤ n → byte (take n s) 0 ≡ byte s 0
first-take n s h = get_or-take n s 0 0 h

-- the first byte that is left
pub first-left : (s : List ℕ) (at : ℕ) → byte (drop at s) 0 ≡ byte s at
first-left s at = get_or-drop at s 0 0 ∙ ap (byte s) (add-zero at)

module _ (r : Role) (c : Cell) (full : length c ≡ 16) where
  pub keep-length : length (keep r c) ≡ size r c
  keep-length = length-take-le (size r c) c (omega (arith, size_fits r c))

  keep-first : byte (keep r c) 0 ≡ byte c 0
  keep-first = first-take (size r c) c (size_some r c)

  pub keep-whole : size r (keep r c) ≡ length (keep r c)
  keep-whole = size-first r (keep r c) c keep-first ∙ sym keep-length

  module _ (rest : List ℕ) where
    pub next-first : byte (keep r c ++ rest) 0 ≡ byte c 0
    next-first = byte_start (keep r c) rest 0 (omega (arith, keep-length, size_some r c)) ∙ keep-first

    pub next-size : size r (keep r c ++ rest) ≡ size r c
    next-size = size-first r (keep r c ++ rest) c next-first

    at_end_lem : length (keep r c) ≡ size r (keep r c ++ rest)
    at_end_lem = keep-length ∙ sym next-size

    pub next-rest : drop (size r (keep r c ++ rest)) (keep r c ++ rest) ≡ rest
    next-rest = drop_at (keep r c) rest (size r (keep r c ++ rest)) at_end_lem

    -- one lemma for all commands, events and heads: what a good cell keeps is read as this cell
    pub next_back : zeros (drop (size r c) c) ≡ true → next_cell r (keep r c ++ rest) ≡ c
    next_back z =
        let e : length (drop (size r c) c) ≡ 16 - length (keep r c) = omega (arith, length-drop (size r c) c, keep-length) in
        ap padded (take_at (keep r c) rest (size r (keep r c ++ rest)) at_end_lem)
        ∙ ap (λ (t : List ℕ). keep r c ++ t) (ap (λ (n : ℕ). replicate n 0) (sym e) ∙ sym (zeros_are (drop (size r c) c) z))
        ∙ take-append-drop (size r c) c

-- what is promised behind a cell, by its bytes and by those it keeps
pub due_kept : (due : List Role) (c : Cell) (rest : List ℕ) → length c ≡ 16 → due_behind due (keep (role_of due) c ++ rest) ≡ due_behind due c
due_kept due c rest full =
    let k = keep (role_of due) c in
    let l : size (role_of due) k ≤ length k = omega (arith, keep-whole (role_of due) c full) in
    due_start due k rest l ∙ sym (due_start due k (drop (size (role_of due) c) c) l) ∙ ap (due_behind due) (take-append-drop (size (role_of due) c) c)

-- ---- keeping of what was read

module _ (r : Role) (s : List ℕ) (fits : size r s ≤ length s) where
  abbrev start : List ℕ
  start = take (size r s) s

  pub start_length : length start ≡ size r s
  start_length = length-take-le (size r s) s fits

  start_first : byte start 0 ≡ byte s 0
  start_first = first-take (size r s) s (size_some r s)

  pub start_whole : size r start ≡ length start
  start_whole = size-first r start s start_first ∙ sym start_length

  pub start_known : known r start ≡ known r s
  start_known = known-first r start s start_first

  pub cell-length : length (next_cell r s) ≡ 16
  cell-length =
      omega (arith, length-append start (replicate (16 - length start) 0), start_length, length-replicate {A = ℕ} (16 - length start) 0, size_fits r s)

  cell-first : byte (next_cell r s) 0 ≡ byte s 0
  cell-first = byte_start start (replicate (16 - length start) 0) 0 (omega (arith, start_length, size_some r s)) ∙ start_first

  pub cell-keep : keep r (next_cell r s) ≡ start
  cell-keep =
      take_at start (replicate (16 - length start) 0) (size r (next_cell r s)) (start_length ∙ sym (size-first r (next_cell r s) s cell-first))

pub due_read : (due : List Role) (s : List ℕ) → size (role_of due) s ≤ length s → due_behind due (next_cell (role_of due) s) ≡ due_behind due s
due_read due s fits =
    let k = take (size (role_of due) s) s in
    let l : size (role_of due) k ≤ length k = omega (arith, start_whole (role_of due) s fits) in
    due_start due k (replicate (16 - length k) 0) l ∙ sym (due_start due k (drop (size (role_of due) s) s) l) ∙ ap (due_behind due) (take-append-drop (size (role_of due) s) s)

-- ---- the check of a cell by the bytes it keeps, the first k of those that are left

module _ (p d : ℕ) (s : List ℕ) (k : ℕ) (there : k ≤ length s) where
  pub head-taken : (n : ℕ) → k ≡ size Head s → n ≡ code_count s + event_count s → cell_check Head p d (next_cell Head s) ≡ head_check p d n (take k s)
  head-taken n is en =
      let l : size Head s ≤ length s = omega arith in
      let b = take (size Head s) s in
      let w = start_whole Head s l in
      let h : 7 ≡ length b = sym (head-size b) ∙ w in
      let c : code_count b + event_count b ≡ n =
      sym (en ∙ ap (λ (t : List ℕ). code_count t + event_count t) (sym (take-append-drop (size Head s) s))
      ∙ ap₂ (λ (x y : ℕ). x + y) (half_start b (drop (size Head s) s) 3 (omega arith)) (half_start b (drop (size Head s) s) 5 (omega arith))) in
      head_start p d b _ (zeros-replicate (16 - length b)) w ∙ ap₂ (λ (m j : ℕ). head_check p d m (take j s)) c (sym is)

  pub code_taken : (n : ℕ) → k ≡ size Code s → n ≡ byte s 0 → known Code s ≡ true → cell_check Code p d (next_cell Code s) ≡ unless (row_ok n (take k s)) (Operand p d)
  code_taken n is en y =
      let l : size Code s ≤ length s = omega arith in
      let b = take (size Code s) s in
      code_start p d b _ (zeros-replicate (16 - length b)) (start_whole Code s l) (start_known Code s l ∙ y)
      ∙ ap₂ (λ (m j : ℕ). unless (row_ok m (take j s)) (Operand p d)) (start_first Code s l ∙ sym en) (sym is)

  pub event_taken : k ≡ size Event s → known Event s ≡ true → cell_check Event p d (next_cell Event s) ≡ unless (row_ok event_row (take k s)) (Operand p d)
  event_taken is y =
      let l : size Event s ≤ length s = omega arith in
      let b = take (size Event s) s in
      event_start p d b _ (zeros-replicate (16 - length b)) (start_whole Event s l) (start_known Event s l ∙ y)
      ∙ ap (λ (j : ℕ). unless (row_ok event_row (take j s)) (Operand p d)) (sym is)

-- commands are 01 to 51, event kinds 0 and 1
module _ (s : List ℕ) (n : ℕ) (is : n ≡ byte s 0) where
  pub known_code : (n ≡ 0 → ⊥) → n ≤ 0x51 → known Code s ≡ true
  known_code some few =
      let h : 0 < n = omega (arith, some) in
      rw (← is, lt-ltb 0 n h, le-leb n 0x51 few)

  pub zero_unknown : n ≡ 0 → known Code s ≡ false
  zero_unknown e = rw (← is, e)

  pub past_unknown : 0x51 < n → known Code s ≡ false
  past_unknown h =
      let z : 0 < n = omega arith in
      rw (← is, lt-ltb 0 n z, lt-leb n 0x51 h)

pub kind_known : (s : List ℕ) → byte s 0 ≤ 1 → known Event s ≡ true
kind_known s h = le-leb _ _ h

pub kind_unknown : (s : List ℕ) → 1 < byte s 0 → known Event s ≡ false
kind_unknown s h = lt-leb _ _ h

-- the operands of a row are among them
pub taken_room : (s : List ℕ) (k n : ℕ) → k ≤ length s → k ≡ row_size n → 1 + total (row_of n) ≤ length (take k s)
unfolding row_size
taken_room s k n there is = omega (arith, length-take-le k s there)
