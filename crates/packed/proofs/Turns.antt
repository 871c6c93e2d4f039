-- One turn of the loops over all cells: the bytes kept, the packed cells checked.
use mathlib.Core.Path.{◌≡◌, refl, ap, ap₂, sym, ◌∙◌}
use mathlib.Core.List.{List, [], ◌∷◌, ◌++◌, append_assoc, append-nil}
use Prim.Native.Nat.{ℕ, suc, ◌+◌, ◌-◌, ◌*◌, ◌/◌, ◌≤◌, ◌<◌}
use native.Mathlib.Numerals.{add-one}
use native.Mathlib.Omega.{arith}
use lib.ListN.{length, get_or, take, drop, length-append, length-take, length-drop, drop_of_length-le, take-append-drop}
use lib.Seq.{take-append-add, drop-append-add, length-take-le, drop-cons, drop-drop}
use Rattle.cells.specs.Cells.{Cell, cells, over}
use Rattle.cells.proofs.Cells.{length-cells, full_cells, part-cell}
use Rattle.cells.proofs.Lists.{all_parts}
use Rattle.packed.specs.Form.{Role, promise, role_of, size, keep, pack_from, packed}
use Rattle.packed.specs.Reading.{Result, bytes, refused, ends, and_then, next_cell, read_cell}
use Rattle.packed.specs.Steps.{NextCell, taken, taken_as, run_of, sizes_of, taken_run, put_kept}
use Rattle.packed.specs.declared.form.Next.{Next}
use Rattle.packed.proofs.Widths.{size_fits, keep-length, cell-length}
use Rattle.packed.proofs.Walk.{cell_read, taken_none, then_nil, then_then}
use Rattle.packed.proofs.Lengths.{pack_least}
use Rattle.packed.proofs.Puts.{put_start, put_length, put_rest, rest_is}
use Rattle.std.specs.Prelude.{Ok, Err}
use Rattle.packed.specs.Answer.{Packing}
use Rattle.packed.specs.declared.PackingError.{PackingError}
use Rattle.packed.specs.declared.PackingError.TheVariants.{Ends}

-- ---- the image's cell at i, `&image[16 * i..16 * i + 16]`

abbrev pub cell_in : List ℕ → ℕ → Cell
cell_in s i = take (16 * i + 16 - 16 * i) (drop (16 * i) s)

pub in_cells : (s : List ℕ) (i : ℕ) → i < length s / 16 → cell_in s i ≡ get_or (cells s) i []
in_cells s i h = part-cell s (16 * i) (16 * i + 16) i refl refl (omega arith)

pub in_full : (s : List ℕ) (i : ℕ) → i < length s / 16 → length (cell_in s i) ≡ 16
in_full s i h = simp (length-take, length-drop) (omega arith)

-- there is all of it that is kept
pub in_kept : (r : Role) (s : List ℕ) (i : ℕ) → i < length s / 16 → size r (cell_in s i) ≤ length (cell_in s i)
in_kept r s i h = omega (arith, in_full s i h, size_fits r (cell_in s i))

module _ (s : List ℕ) (i : ℕ) (c : Cell) (h : i < length s / 16) (is : c ≡ get_or (cells s) i []) where
  pub cell-there : drop i (cells s) ≡ c ∷ drop (i + 1) (cells s)
  cell-there =
      let l : i < length (cells s) = omega (arith, length-cells s) in
      drop-cons (cells s) i [] l ∙ ap₂ (λ (x : Cell) (j : ℕ). x ∷ drop j (cells s)) (sym is) (sym (add-one i))

  -- what is kept from it on
  module _ (code events : ℕ) (r : Next) (n : NextCell code events c r) where
    kept_on : pack_from (promise code events) (drop i (cells s)) ≡ keep (role_of (promise code events)) c ++ pack_from (promise r.due.code r.due.events) (drop (i + 1) (cells s))
    kept_on =
        ap (pack_from (promise code events)) cell-there
        ∙ ap (λ (due : List Role). keep (role_of (promise code events)) c ++ pack_from due (drop (i + 1) (cells s))) (sym n.due)

pub none-there : (s : List ℕ) (i : ℕ) → length s / 16 ≤ i → drop i (cells s) ≡ []
none-there s i h = drop_of_length-le (cells s) {i = i} (omega (arith, length-cells s))

-- ---- a part of an output written, the part `&mut out[at..]`

pub record Put-part (out part b : List ℕ) (at k : ℕ) : Type 0 where
  pub same : length (take at out ++ (part ++ drop (length out - at) (drop at out))) ≡ length out
  pub start : take (at + k) (take at out ++ (part ++ drop (length out - at) (drop at out))) ≡ take at out ++ b
  pub rest : (m : ℕ) → drop (at + m) (take at out ++ (part ++ drop (length out - at) (drop at out))) ≡ drop m part

pub put-part : (out part b : List ℕ) (at k : ℕ) → at ≤ length out → length part ≡ length (drop at out) → k ≤ length part → take k part ≡ b → Put-part out part b at k
put-part out part b at k h n l e =
    let z : drop (length out - at) (drop at out) ≡ [] = drop_of_length-le (drop at out) {i = length out - at} (omega (arith, length-drop at out)) in
    let f : take at out ++ (part ++ drop (length out - at) (drop at out)) ≡ take at out ++ part = ap (λ (t : List ℕ). take at out ++ t) (ap (λ (t : List ℕ). part ++ t) z ∙ append-nil part) in
    let m : length (take at out) ≡ at = length-take-le at out h in
    record {
      same = ap length f ∙ omega (arith, length-append (take at out) part, length-drop at out);
      start = ap (take (at + k)) f ∙ ap (λ (j : ℕ). take (j + k) (take at out ++ part)) (sym m) ∙ take-append-add (take at out) part k ∙ ap (λ (t : List ℕ). take at out ++ t) e;
      rest = λ j. ap (drop (at + j)) f ∙ ap (λ (i : ℕ). drop (i + j) (take at out ++ part)) (sym m) ∙ drop-append-add (take at out) part j;
    }

-- ---- the bytes kept

pub record Keeping (s out₀ out : List ℕ) (code events at i : ℕ) : Type 0 where
  pub says : packed s ≡ take at out ++ pack_from (promise code events) (drop i (cells s))
  -- what stands behind the packed form is as it was
  pub stays : drop (length (packed s)) out ≡ drop (length (packed s)) out₀
  pub long : length out ≡ length out₀
  pub fits : length (packed s) ≤ length out₀
  pub within : at ≤ length out

pub keeping_none : (s out : List ℕ) → length (packed s) ≤ length out → Keeping s out out 0 0 0 0
unfolding packed
keeping_none s out l = record { says = refl; stays = refl; long = refl; fits = l; within = omega arith }

module _ (s out₀ out : List ℕ) (code events at i : ℕ) (k : Keeping s out₀ out code events at i) where
  -- how many bytes are kept in all
  kept-all : length (packed s) ≡ at + length (pack_from (promise code events) (drop i (cells s)))
  kept-all =
      omega (arith, ap length k.says, length-append (take at out) (pack_from (promise code events) (drop i (cells s))), length-take-le at out k.within)

  -- the cells that are left keep a byte each
  kept-least : at + (length s / 16 - i) ≤ length (packed s)
  kept-least =
      let full = (all_parts (λ (d : Cell). length d ≡ 16) (take i (cells s)) (drop i (cells s)) (rw (take-append-drop i (cells s)) (full_cells s))).1 in
      omega (arith, kept-all, pack_least (promise code events) (drop i (cells s)) full, length-drop i (cells s), length-cells s)

  module _ (c : Cell) (r : Next) (h : i < length s / 16) (is : c ≡ get_or (cells s) i []) (full : length c ≡ 16) (n : NextCell code events c r) where
    kept_room : at + r.size ≤ length (packed s)
    kept_room =
        let role = role_of (promise code events) in
        let rest = pack_from (promise r.due.code r.due.events) (drop (i + 1) (cells s)) in
        omega (arith, kept-all, ap length (kept_on s i c h is code events r n), length-append (keep role c) rest, keep-length role c full, n.keeps)

    -- there is room for what the cell keeps; and for the whole cell, where 16 or more are left
    pub keeping_room : at + r.size ≤ length out
    keeping_room = omega (arith, kept_room, k.fits, k.long)

    pub keeping_whole : 16 ≤ length s / 16 - i → 16 ≤ length (drop at out)
    keeping_whole l = omega (arith, kept-least, k.fits, k.long, length-drop at out)

    pub keeping_next : (part : List ℕ) → part ≡ put_kept c r.size (length s / 16 - i) (take (length out - at) (drop at out))
        → Keeping s out₀ (take at out ++ (part ++ drop (length out - at) (drop at out))) r.due.code r.due.events (at + r.size) (i + 1)
    keeping_next part e =
        let role = role_of (promise code events) in
        let left : ℕ = length s / 16 - i in
        let few : r.size ≤ 16 = omega (arith, n.keeps, size_fits role c) in
        let room : r.size ≤ length (drop at out) = omega (arith, keeping_room, length-drop at out) in
        let p : part ≡ put_kept c r.size left (drop at out) = e ∙ ap (put_kept c r.size left) (rest_is out at) in
        let l : length part ≡ length (drop at out) = ap length p ∙ put_length c r.size left (drop at out) full few room keeping_whole in
        let b : take r.size part ≡ keep role c = ap (take r.size) p ∙ put_start c r.size left (drop at out) full few room keeping_whole ∙ ap (λ (j : ℕ). take j c) n.keeps in
        let w = put-part out part (keep role c) at r.size k.within l (omega arith) b in
        let m : ℕ = length (packed s) - at in
        let behind : drop m part ≡ drop m (drop at out) =
        ap (drop m) p ∙ put_rest c r.size left (drop at out) full few room keeping_whole m (omega (arith, kept_room)) (λ (q : 16 ≤ left). omega (arith, kept-least)) in
        let past : at + m ≡ length (packed s) = omega (arith, kept_room) in
        record {
          says = k.says ∙ ap (λ (t : List ℕ). take at out ++ t) (kept_on s i c h is code events r n)
              ∙ sym (append_assoc (take at out) (keep role c) (pack_from (promise r.due.code r.due.events) (drop (i + 1) (cells s))))
              ∙ ap (λ (t : List ℕ). t ++ pack_from (promise r.due.code r.due.events) (drop (i + 1) (cells s))) (sym w.start);
          stays = ap (λ (j : ℕ). drop j (take at out ++ (part ++ drop (length out - at) (drop at out)))) (sym past) ∙ w.rest m ∙ behind ∙ drop-drop m at out
              ∙ ap (λ (j : ℕ). drop j out) past ∙ k.stays;
          long = w.same ∙ k.long;
          fits = k.fits;
          within = omega (arith, w.same, keeping_room);
        }

  pub keeping_end : length s / 16 ≤ i → (at ≡ length (packed s)) × (out ≡ over (packed s) out₀)
  unfolding over
  keeping_end h =
      let e : packed s ≡ take at out = k.says ∙ ap (λ (cs : List Cell). take at out ++ pack_from (promise code events) cs) (none-there s i h) ∙ append-nil (take at out) in
      let l : at ≡ length (packed s) = sym (ap length e ∙ length-take-le at out k.within) in
      (l, sym (take-append-drop at out) ∙ ap₂ (λ (x : List ℕ) (j : ℕ). x ++ drop j out) (sym e) l ∙ ap (λ (t : List ℕ). packed s ++ t) k.stays)

-- ---- results

-- a fault stays one
stops : (b : List ℕ) (t u : Result) (m k : ℕ) → ((n : ℕ) → taken t k ≡ Ok n → ⊥) → taken (and_then (bytes b) (and_then t u)) m ≡ taken t k
stops b (bytes a) u m k h = absurd (h k refl)
stops b (refused x) u m k h = refl
stops b (ends p d) u m k h = refl

taken-bytes : (t : Result) (k n : ℕ) → taken t k ≡ Ok n → (n ≡ k) × ((c : List ℕ) → ((b : List ℕ) → t ≡ bytes b → b ≡ c) → t ≡ bytes c)
taken-bytes (bytes a) k n e = (cc, λ c f. ap bytes (f a refl))
taken-bytes (refused x) k n e = let z : ◌≡◌ {A = ℕ} 0 1 = cc in absurd (omega arith)
taken-bytes (ends p d) k n e = let z : ◌≡◌ {A = ℕ} 0 1 = cc in absurd (omega arith)

-- the code's arm for what is no count
pub not-bytes : {t : Packing} {x : PackingError} → t ≡ Err x → (n : ℕ) → t ≡ Ok n → ⊥
not-bytes e n i = let z : ◌≡◌ {A = ℕ} 0 1 = cc in omega arith

-- ---- the packed cells checked: a run of them

module _ (r : Role) where
  -- a fault stays one, and what is no fault is the next cell
  pub record Went (p d : ℕ) (s : List ℕ) (k : ℕ) : Type 0 where
    pub is : k ≡ size r s
    pub fits : k ≤ length s
    pub cell_is : read_cell r p d s ≡ bytes (next_cell r s)
    pub full : length (next_cell r s) ≡ 16

  pub went : (p d : ℕ) (s : List ℕ) (k : ℕ) → Ok k ≡ taken (read_cell r p d s) (size r s) → Went p d s k
  went p d s k e =
      let (n, i) = taken-bytes (read_cell r p d s) (size r s) k (sym e) in
      let c = i (next_cell r s) (λ b q. (cell_read r p d s b q).is) in
      let w = cell_read r p d s (next_cell r s) c in
      record { is = n; fits = omega (arith, w.fits); cell_is = c; full = cell-length r s w.fits }

pub record Checking (r : Role) (s : List ℕ) (n p d at i : ℕ) : Type 0 where
  pub done : List ℕ
  pub says : run_of r n (4096 - d) p d s ≡ and_then (bytes done) (run_of r (n - i) (4096 - (d + i)) p (d + i) (drop at s))
  pub takes : sizes_of r n s ≡ at + sizes_of r (n - i) (drop at s)
  pub within : at ≤ length s
  pub place : d + i ≤ 4096

pub checking_none : (r : Role) (s : List ℕ) (n p d : ℕ) → d ≤ 4096 → Checking r s n p d 0 0
checking_none r s n p d l =
    let e : n ≡ n - 0 = omega arith in
    let f : d ≡ d + 0 = omega arith in
    record {
      done = [];
      says = sym (then_nil (run_of r n (4096 - d) p d s)) ∙ ap₂ (λ (j c : ℕ). and_then (bytes []) (run_of r j (4096 - c) p c s)) e f;
      takes = omega (arith, ap (λ (j : ℕ). sizes_of r j s) e);
      within = omega arith;
      place = omega arith;
    }

module _ (r : Role) (s : List ℕ) (n p d at i : ℕ) (g : Checking r s n p d at i) where
  module _ (h : i < n) where
    next_of : n - i ≡ suc (n - (i + 1))
    next_of = omega arith

    module _ (some : d + i < 4096) where
      room_of : 4096 - (d + i) ≡ suc (4096 - (d + (i + 1)))
      room_of = omega arith

      checking_on : run_of r n (4096 - d) p d s
          ≡ and_then (bytes g.done) (and_then (read_cell r p (d + i) (drop at s)) (run_of r (n - (i + 1)) (4096 - (d + (i + 1))) p (d + i + 1) (drop (size r (drop at s)) (drop at s))))
      checking_on = g.says ∙ ap₂ (λ (j q : ℕ). and_then (bytes g.done) (run_of r j q p (d + i) (drop at s))) next_of room_of

      pub checking_fault : (t : Packing) → t ≡ taken_as r p (d + i) (drop at s) → ((k : ℕ) → t ≡ Ok k → ⊥) → t ≡ taken_run r n p d s
      checking_fault t e f =
          e ∙ sym (ap (λ (x : Result). taken x (sizes_of r n s)) checking_on ∙ stops g.done (read_cell r p (d + i) (drop at s)) _ _ (size r (drop at s)) (λ k q. f k (e ∙ q)))

      pub checking_none-left : at ≡ length s → Err (Ends p (d + i)) ≡ taken_run r n p d s
      checking_none-left e =
          checking_fault (Err (Ends p (d + i))) (taken_none r p (d + i) (drop at s) (omega (arith, length-drop at s)))
          (λ k q. let z : ◌≡◌ {A = ℕ} 0 1 = cc in omega arith)

      pub checking_next : (k : ℕ) → Ok k ≡ taken_as r p (d + i) (drop at s) → Checking r s n p d (at + k) (i + 1)
      checking_next k e =
          let w = went r p (d + i) (drop at s) k e in
          let rest = run_of r (n - (i + 1)) (4096 - (d + (i + 1))) p (d + i + 1) (drop (size r (drop at s)) (drop at s)) in
          let b : drop (size r (drop at s)) (drop at s) ≡ drop (at + k) s = ap (λ (j : ℕ). drop j (drop at s)) (sym w.is) ∙ drop-drop k at s in
          let c : d + i + 1 ≡ d + (i + 1) = omega arith in
          record {
            done = g.done ++ next_cell r (drop at s);
            says = checking_on ∙ ap (λ (t : Result). and_then (bytes g.done) (and_then t rest)) w.cell_is ∙ then_then g.done (next_cell r (drop at s)) rest
                ∙ ap₂ (λ (j : ℕ) (x : List ℕ). and_then (bytes (g.done ++ next_cell r (drop at s))) (run_of r (n - (i + 1)) (4096 - (d + (i + 1))) p j x)) c b;
            takes = omega (arith, g.takes, ap (λ (j : ℕ). sizes_of r j (drop at s)) next_of, w.is, ap (sizes_of r (n - (i + 1))) b);
            within = omega (arith, length-drop at s, g.within, w.fits);
            place = omega arith;
          }
