-- Laws of a list of cells: its length, the cell at a position, what a part of the bytes is among the cells, and cells as bytes.
use mathlib.Core.Path.{◌≡◌, refl, ap, sym, ◌∙◌}
use mathlib.Core.List.{List, [], ◌∷◌, ◌++◌, append_assoc}
use Prim.Native.Nat.{ℕ, zero, suc, ◌+◌, ◌-◌, ◌*◌, ◌/◌, ◌%◌, ◌≤◌, ◌<◌}
use native.Mathlib.Nat.{le_of_suc-le-suc, not-suc-le-zero, zero-add, suc-add}
use native.Mathlib.Omega.{arith}
use lib.ListN.{length, get_or, take, drop, length-drop, length-append, take-append-drop}
use lib.Seq.{drop-drop, take-take, take-nil, length-take-le, take_at, drop_at, take-append-le, drop-append-le}
use Rattle.cells.specs.Cells.{Cell, Full, chunks, cells, cell_at, flat}

pub length-chunks : (n : ℕ) (s : List ℕ) → length (chunks n s) ≡ n
length-chunks zero s = refl
length-chunks (suc n) s = ap suc (length-chunks n (drop 16 s))

sixteen_more : (k : ℕ) → 16 + 16 * k ≡ 16 * suc k
sixteen_more k = omega arith

-- the cell at i is the 16 bytes from 16 * i on
pub chunk_at : (n : ℕ) (s : List ℕ) (i : ℕ) → i < n → get_or (chunks n s) i [] ≡ take 16 (drop (16 * i) s)
chunk_at zero s i h = absurd (not-suc-le-zero h)
chunk_at (suc n) s zero h = refl
chunk_at (suc n) s (suc i) h = chunk_at n (drop 16 s) i (le_of_suc-le-suc h) ∙ rw (drop-drop, sixteen_more)

-- the cells from k on are those of the bytes from 16 * k on
pub chunks-drop : (k m : ℕ) (s : List ℕ) → drop k (chunks (k + m) s) ≡ chunks m (drop (16 * k) s)
chunks-drop zero m s = rw zero-add
chunks-drop (suc k) m s = rw suc-add (chunks-drop k m (drop 16 s) ∙ rw (drop-drop, sixteen_more))

-- the first k cells are those of the first 16 * k bytes
pub chunks-take : (k m : ℕ) (s : List ℕ) → take k (chunks (k + m) s) ≡ chunks k s
chunks-take zero m s = refl
chunks-take (suc k) m s = rw suc-add (ap (λ (t : List Cell). take 16 s ∷ t) (chunks-take k m (drop 16 s)))

pub drop-take : (n m : ℕ) (s : List ℕ) → drop n (take (n + m) s) ≡ take m (drop n s)
drop-take zero m s = rw zero-add
drop-take (suc n) m [] = rw (suc-add, take-nil)
drop-take (suc n) m (b ∷ s) = rw suc-add (drop-take n m s)

pub chunks_of_take : (k : ℕ) (s : List ℕ) → chunks k (take (16 * k) s) ≡ chunks k s
chunks_of_take zero s = refl
chunks_of_take (suc k) s =
    let h : 16 ≤ 16 + 16 * k = omega arith in
    rw (← sixteen_more)
    (ap (λ (c : List ℕ). c ∷ chunks k (drop 16 (take (16 + 16 * k) s))) (take-take 16 (16 + 16 * k) s h)
    ∙ ap (λ (t : List Cell). take 16 s ∷ t) (ap (chunks k) (drop-take 16 (16 * k) s) ∙ chunks_of_take k (drop 16 s)))

-- a part of the bytes, from the cell a on and k cells long, is that part of the cells
pub chunks-part : (a k m : ℕ) (s : List ℕ) → chunks k (take (16 * k) (drop (16 * a) s)) ≡ take k (drop a (chunks (a + (k + m)) s))
chunks-part a k m s =
    chunks_of_take k (drop (16 * a) s) ∙ sym (ap (take k) (chunks-drop a (k + m) s) ∙ chunks-take k m (drop (16 * a) s))

pub length-cells : (s : List ℕ) → length (cells s) ≡ length s / 16
length-cells s = length-chunks (length s / 16) s

pub cell_at_lem : (s : List ℕ) (i : ℕ) → i < length s / 16 → get_or (cells s) i [] ≡ take 16 (drop (16 * i) s)
cell_at_lem s i h = chunk_at (length s / 16) s i h

-- the bytes from the cell a on, k cells long, are the cells from a on, k of them
pub cells-part : (s : List ℕ) (a k : ℕ) → 16 * (a + k) ≤ length s → cells (take (16 * k) (drop (16 * a) s)) ≡ take k (drop a (cells s))
cells-part s a k h =
    let n = length s / 16 in
    let m = n - (a + k) in
    let l : 16 * k ≤ length (drop (16 * a) s) = omega (arith, length-drop (16 * a) s) in
    let e : length (take (16 * k) (drop (16 * a) s)) / 16 ≡ k = omega (arith, length-take-le (16 * k) (drop (16 * a) s) l) in
    let f : a + (k + m) ≡ n = omega arith in
    ap (λ (j : ℕ). chunks j (take (16 * k) (drop (16 * a) s))) e ∙ chunks-part a k m s ∙ ap (λ (j : ℕ). take k (drop a (chunks j s))) f

-- the same of a part `&s[a..b]` as a call hands it over
pub part-cells : (s : List ℕ) (a b i k : ℕ) → a ≡ 16 * i → b ≡ 16 * (i + k) → b ≤ length s → cells (take (b - a) (drop a s)) ≡ take k (drop i (cells s))
part-cells s a b i k p q h =
    let e : b - a ≡ 16 * k = omega arith in
    let l : 16 * (i + k) ≤ length s = omega arith in
    rw (e, p) (cells-part s i k l)

-- one cell, `&s[a..b]`
pub part-cell : (s : List ℕ) (a b i : ℕ) → a ≡ 16 * i → b ≡ 16 * i + 16 → b ≤ length s → take (b - a) (drop a s) ≡ get_or (cells s) i []
part-cell s a b i p q h =
    let e : b - a ≡ 16 = omega arith in
    let l : i < length s / 16 = omega arith in
    rw (e, p) (sym (cell_at_lem s i l))

-- a cell has 16 bytes
pub length-cell_at : (s : List ℕ) (k : ℕ) → 16 * k + 16 ≤ length s → length (cell_at s k) ≡ 16
length-cell_at s k h = length-take-le 16 (drop (16 * k) s) (omega (arith, length-drop (16 * k) s))

full_chunks : (n : ℕ) (s : List ℕ) → 16 * n ≤ length s → Full (chunks n s)
full_chunks zero s h = tt
full_chunks (suc n) s h =
    (length-take-le 16 s (omega arith), full_chunks n (drop 16 s) (omega (arith, length-drop 16 s)))

pub full_cells : (s : List ℕ) → Full (cells s)
full_cells s = full_chunks (length s / 16) s (omega arith)

-- cells as bytes, and back
pub length-flat : (cs : List Cell) → Full cs → length (flat cs) ≡ 16 * length cs
length-flat [] f = refl
length-flat (c ∷ cs) f = omega (arith, length-append c (flat cs), length-flat cs f.1, f.0)

chunks-flat : (cs : List Cell) → Full cs → chunks (length cs) (flat cs) ≡ cs
chunks-flat [] f = refl
chunks-flat (c ∷ cs) f =
    rw (take_at c (flat cs) 16 f.0, drop_at c (flat cs) 16 f.0) (ap (◌∷◌ c) (chunks-flat cs f.1))

pub cells-flat : (cs : List Cell) → Full cs → cells (flat cs) ≡ cs
cells-flat cs f =
    let e : length (flat cs) / 16 ≡ length cs = omega (arith, length-flat cs f) in
    ap (λ (n : ℕ). chunks n (flat cs)) e ∙ chunks-flat cs f

flat-chunks : (n : ℕ) (s : List ℕ) → length s ≡ 16 * n → flat (chunks n s) ≡ s
flat-chunks zero [] e = refl
flat-chunks zero (b ∷ s) e = absurd (omega arith)
flat-chunks (suc n) s e =
    ap (λ (t : List ℕ). take 16 s ++ t) (flat-chunks n (drop 16 s) (omega (arith, length-drop 16 s))) ∙ take-append-drop 16 s

pub flat-cells : (s : List ℕ) → length s % 16 ≡ 0 → flat (cells s) ≡ s
flat-cells s e = flat-chunks (length s / 16) s (omega arith)

pub flat_append : (cs ds : List Cell) → flat (cs ++ ds) ≡ flat cs ++ flat ds
flat_append [] ds = refl
flat_append (c ∷ cs) ds = ap (λ (t : List ℕ). c ++ t) (flat_append cs ds) ∙ sym (append_assoc c (flat cs) (flat ds))

-- bytes behind whole cells
chunks-append : (n m : ℕ) (s t : List ℕ) → length s ≡ 16 * n → chunks (n + m) (s ++ t) ≡ chunks n s ++ chunks m t
chunks-append zero m [] t e = rw zero-add
chunks-append zero m (b ∷ s) t e = absurd (omega arith)
chunks-append (suc n) m s t e =
    let h : 16 ≤ length s = omega arith in
    let l : length (drop 16 s) ≡ 16 * n = omega (arith, length-drop 16 s) in
    rw suc-add
    (rw (take-append-le 16 s t h, drop-append-le 16 s t h) (ap (◌∷◌ (take 16 s)) (chunks-append n m (drop 16 s) t l)))

pub cells-append : (s t : List ℕ) → length s % 16 ≡ 0 → cells (s ++ t) ≡ cells s ++ cells t
cells-append s t e =
    let l : length s ≡ 16 * (length s / 16) = omega arith in
    let n : length (s ++ t) / 16 ≡ length s / 16 + length t / 16 = omega (arith, length-append s t) in
    ap (λ (k : ℕ). chunks k (s ++ t)) n ∙ chunks-append (length s / 16) (length t / 16) s t l

-- a walk by `chunks_exact`: with i cells behind it, the next is the cell at i; where fewer than 16 bytes are left, there is none
pub record Walked (s : List ℕ) (i : ℕ) (c next : List ℕ) : Type 0 where
  pub inside : i < length (cells s)
  pub is : c ≡ get_or (cells s) i []
  pub next_is : next ≡ drop (16 * (i + 1)) s

pub walk_turn : (s : List ℕ) (i : ℕ) {rest c next : List ℕ} → rest ≡ drop (16 * i) s → rest ≡ c ++ next → length c ≡ 16 → Walked s i c next
walk_turn s i {rest} {c} {next} e k l =
    let h : i < length s / 16 = omega (arith, ap length (sym k ∙ e), length-append c next, length-drop (16 * i) s) in
    let n : 16 * i + 16 ≡ 16 * (i + 1) = omega arith in
    record {
      inside = omega (arith, length-cells s);
      is = sym (take_at c next 16 l) ∙ ap (take 16) (sym k ∙ e) ∙ sym (cell_at_lem s i h);
      next_is = sym (drop_at c next 16 l) ∙ ap (drop 16) (sym k ∙ e) ∙ rw drop-drop (ap (λ (j : ℕ). drop j s) n);
    }

pub walk_end : (s : List ℕ) (i : ℕ) {rest : List ℕ} → rest ≡ drop (16 * i) s → length rest < 16 → length (cells s) ≤ i
walk_end s i e h = omega (arith, ap length e, length-drop (16 * i) s, length-cells s)
