-- One turn of the loop that counts what cells keep.
use mathlib.Core.Path.{◌≡◌, refl, ap, sym, ◌∙◌}
use mathlib.Core.List.{List, [], ◌∷◌, ◌++◌, append-nil}
use Prim.Native.Nat.{ℕ, zero, suc, ◌+◌, ◌-◌, ◌*◌, ◌/◌, ◌≤◌, ◌<◌}
use native.Mathlib.Omega.{arith}
use lib.ListN.{length, get_or, drop, replicate, length-append, length-drop}
use lib.Seq.{drop-drop}
use Rattle.cells.specs.Cells.{Cell, cells}
use Rattle.cells.specs.Check.{code_count, event_count}
use Rattle.cells.proofs.Cells.{length-cells}
use Rattle.image.specs.Image.{GoodImage}
use Rattle.packed.specs.Form.{Role, Code, Event, promise, role_of, due_behind, size, keep, pack_from, packed}
use Rattle.packed.specs.Steps.{sizes_of, counted_at}
use Rattle.packed.specs.declared.keep.Counted.{Counted}
use Rattle.packed.proofs.Widths.{size_fits, head-size, event_size, keep-length}
use Rattle.packed.proofs.Walk.{Fine}
use Rattle.packed.proofs.Images.{image_fine, fine_run}
use Rattle.packed.proofs.Turns.{cell-there, none-there}
use Rattle.packed.proofs.Runs.{packed-run}

pub record Counting (s : List ℕ) (code events total i : ℕ) : Type 0 where
  pub says : length (packed s) ≡ total + length (pack_from (promise code events) (drop i (cells s)))
  pub fine : Fine (promise code events) (drop i (cells s))
  pub small : total ≤ 16 * i

pub counting_none : (s : List ℕ) → GoodImage s → Counting s 0 0 0 0
unfolding packed
counting_none s g = record { says = omega arith; fine = image_fine s g; small = omega arith }

-- every promised cell is there
pub promised_there : (n m : ℕ) (cs : List Cell) → Fine (promise n m) cs → n + m ≤ length cs
promised_there n m cs f =
    let a = fine_run Code n (replicate m Event) cs f in
    let b = fine_run Event m [] (drop n cs) (rw (append-nil (replicate m Event)) a.then) in
    omega (arith, a.enough, b.enough, length-drop n cs)

events_size : (m : ℕ) (t : List ℕ) → sizes_of Event m t ≡ 15 * m
events_size zero t = refl
events_size (suc m) t = omega (arith, event_size t, events_size m (drop (size Event t) t))

-- past one cell, where these are promised
one_turn : (s : List ℕ) (due : List Role) (total i : ℕ) (c : Cell) → i < length s / 16 → c ≡ get_or (cells s) i []
    → length (packed s) ≡ total + length (pack_from due (drop i (cells s))) → Fine due (drop i (cells s)) → total ≤ 16 * i
    → (length (packed s) ≡ total + size (role_of due) c + length (pack_from (due_behind due c) (drop (i + 1) (cells s))))
    × Fine (due_behind due c) (drop (i + 1) (cells s)) × (total + size (role_of due) c ≤ 16 * (i + 1))
one_turn s due total i c h is says fine small =
    let there = cell-there s i c h is in
    let rest = pack_from (due_behind due c) (drop (i + 1) (cells s)) in
    let f : Fine due (c ∷ drop (i + 1) (cells s)) = rw there at fine in
    let e = ap (λ (cs : List Cell). length (pack_from due cs)) there ∙ length-append (keep (role_of due) c) rest in
    (omega (arith, says, e, keep-length (role_of due) c f.0.0), f.1, omega (arith, small, size_fits (role_of due) c))

-- past all events
events_turn : (s : List ℕ) (m total i : ℕ) → Counting s 0 m total i → Counting s 0 0 (total + 15 * m) (i + m)
events_turn s m total i k =
    let cs = drop i (cells s) in
    let nil = append-nil (replicate m Event) in
    let t = pack_from (replicate m Event ++ []) cs in
    let fine : Fine (replicate m Event ++ []) cs = rw nil k.fine in
    let b = packed-run Event m [] cs fine in
    let e : length (pack_from (promise 0 m) cs) ≡ length t = ap (λ (q : List Role). length (pack_from q cs)) (sym nil) in
    let d : drop m cs ≡ drop (i + m) (cells s) = drop-drop m i (cells s) in
    record {
      says = omega (arith, k.says, e, events_size m t, b.fits, length-drop (sizes_of Event m t) t, ap length b.rest, ap (λ (x : List Cell). length (pack_from [] x)) d);
      fine = rw d at (fine_run Event m [] cs fine).then;
      small = omega (arith, k.small);
    }

pub counting_turn : (s : List ℕ) (code events total i : ℕ) → Counting s code events total i → (c : Cell) → i < length s / 16 → c ≡ get_or (cells s) i []
    → Counting s (counted_at code events c).due.code (counted_at code events c).due.events (total + (counted_at code events c).size) (i + (counted_at code events c).cells)
counting_turn s (suc n) m total i k c h is =
    let w = one_turn s (promise (suc n) m) total i c h is k.says k.fine k.small in record { says = w.0; fine = w.1; small = w.2 }
counting_turn s zero (suc m) total i k c h is = events_turn s (suc m) total i k
counting_turn s zero zero total i k c h is =
    let w = one_turn s [] total i c h is k.says k.fine k.small in record { says = w.0; fine = w.1; small = w.2 }

pub counting_end : (s : List ℕ) (code events total i : ℕ) → Counting s code events total i → length s / 16 ≤ i → total ≡ length (packed s)
counting_end s code events total i k h = omega (arith, k.says, ap (λ (cs : List Cell). length (pack_from (promise code events) cs)) (none-there s i h))

-- what is counted is there, and is some
pub counted-there : (s : List ℕ) (code events total i : ℕ) → Counting s code events total i → (c : Cell) → i < length s / 16
    → (i + (counted_at code events c).cells ≤ length s / 16) × (1 ≤ (counted_at code events c).cells)
counted-there s (suc n) m total i k c h = (omega arith, omega arith)
counted-there s zero (suc m) total i k c h =
    (omega (arith, promised_there 0 (suc m) (drop i (cells s)) k.fine, length-drop i (cells s), length-cells s), omega arith)
counted-there s zero zero total i k c h = (omega arith, omega arith)

-- ---- what the code counts

abbrev counted : ℕ → ℕ → ℕ → ℕ → Counted
counted cells n code events = record { cells = cells; size = n; due = record { code = code; events = events } }

pub counted_code : (code events n : ℕ) (c : Cell) → (code ≡ 0 → ⊥) → n ≡ size Code c → counted 1 n (code - 1) events ≡ counted_at code events c
counted_code zero events n c h e = absurd (h refl)
counted_code (suc k) events n c h e = let f : suc k - 1 ≡ k = omega arith in rw (e, f)

pub counted_events : (code events : ℕ) (c : Cell) → code ≡ 0 → (events ≡ 0 → ⊥) → counted events (15 * events) 0 0 ≡ counted_at code events c
counted_events code zero c z h = absurd (h refl)
counted_events code (suc m) c z h = rw z

pub counted-head : (code events x y : ℕ) (c : Cell) → code ≡ 0 → events ≡ 0 → x ≡ code_count c → y ≡ event_count c → counted 1 7 x y ≡ counted_at code events c
counted-head code events x y c z w e f = rw (z, w, e, f, head-size c)
