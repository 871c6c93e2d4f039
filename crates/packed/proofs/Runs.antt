-- Cells of one role, one after another, as the code restores them: the loop over them, and function by function a head and two such runs.
use mathlib.Core.Path.{◌≡◌, refl, ap, ap₂, sym, ◌∙◌}
use mathlib.Core.List.{List, [], ◌∷◌, ◌++◌, append_assoc, append-nil}
use Prim.Native.Nat.{ℕ, zero, suc, ◌+◌, ◌-◌, ◌*◌, ◌≤◌, ◌<◌}
use native.Mathlib.Omega.{arith}
use lib.ListN.{length, take, drop, replicate, length-append, length-drop, take-append-drop}
use lib.Seq.{take-append_seam, length-take-le, drop-drop}
use Rattle.cells.specs.Cells.{Cell, flat}
use Rattle.cells.specs.Check.{code_count, event_count}
use Rattle.cells.proofs.Cells.{length-flat, flat_append}
use Rattle.packed.specs.Form.{Role, Head, Code, Event, promise, size, keep, pack_from}
use Rattle.packed.specs.Reading.{bytes, padded, next_cell, unpacked}
use Rattle.packed.specs.Steps.{Room, cells_of, sizes_of, put_restored}
use Rattle.packed.proofs.Widths.{head-size, size_fits, half_start, keep-length, next-size, next-rest, next_back, right-zeros, cell-length}
use Rattle.packed.proofs.Walk.{Fine, read_is}
use Rattle.packed.proofs.Puts.{restored_cell, restored_length, rest_is}
use Rattle.packed.proofs.Images.{fine_full, Run, fine_run}
use Rattle.packed.proofs.Turns.{Put-part, put-part}

-- ---- what right cells of a role keep, read back

pub record Packed-run (r : Role) (n : ℕ) (due : List Role) (cs : List Cell) (t : List ℕ) : Type 0 where
  pub cells_are : cells_of r n t ≡ flat (take n cs)
  pub fits : sizes_of r n t ≤ length t
  pub rest : drop (sizes_of r n t) t ≡ pack_from due (drop n cs)

none_some : {r : Role} {due : List Role} → r ∷ due ≡ [] → ⊥
none_some e = let z : ◌≡◌ {A = ℕ} 1 0 = ap (λ (q : List Role). length (take 1 q)) e in omega arith

pub packed-run : (r : Role) (n : ℕ) (due : List Role) (cs : List Cell) → Fine (replicate n r ++ due) cs → Packed-run r n due cs (pack_from (replicate n r ++ due) cs)
packed-run r zero due cs f = record { cells_are = refl; fits = omega arith; rest = refl }
packed-run r (suc n) due [] f = absurd (none_some f)
packed-run r (suc n) due (c ∷ cs) f =
    let t = pack_from (replicate n r ++ due) cs in
    let s = keep r c ++ t in
    let full = f.0.0 in
    let k = packed-run r n due cs f.1 in
    let d : drop (size r s) s ≡ t = next-rest r c full t in
    let e : sizes_of r n (drop (size r s) s) ≡ sizes_of r n t = ap (sizes_of r n) d in
    record {
      cells_are = ap₂ (λ (x y : List ℕ). x ++ y) (next_back r c full t (right-zeros r 0 0 c (f.0.1 0 0))) (ap (cells_of r n) d ∙ k.cells_are);
      fits = omega (arith, e, k.fits, length-append (keep r c) t, keep-length r c full, next-size r c full t);
      rest = sym (drop-drop (sizes_of r n (drop (size r s) s)) (size r s) s) ∙ ap₂ drop e d ∙ k.rest;
    }

-- ---- the loop over them

pub record Running (r : Role) (s out : List ℕ) (n at i : ℕ) : Type 0 where
  pub says : cells_of r n s ≡ take (16 * i) out ++ cells_of r (n - i) (drop at s)
  pub takes : sizes_of r n s ≡ at + sizes_of r (n - i) (drop at s)
  pub long : length out ≡ 16 * n
  pub fits : sizes_of r n s ≤ length s

pub running_none : (r : Role) (s out : List ℕ) (n : ℕ) → sizes_of r n s ≤ length s → length out ≡ 16 * n → Running r s out n 0 0
running_none r s out n h l =
    let e : n ≡ n - 0 = omega arith in
    record { says = ap (λ (j : ℕ). cells_of r j s) e; takes = omega (arith, ap (λ (j : ℕ). sizes_of r j s) e); long = l; fits = h }

module _ (r : Role) (s out : List ℕ) (n at i : ℕ) (k : Running r s out n at i) where
  module _ (h : i < n) where
    more : n - i ≡ suc (n - (i + 1))
    more = omega arith

    -- the bytes of the next cell are there
    pub running_there : at + size r (drop at s) ≤ length s
    running_there = omega (arith, k.takes, k.fits, ap (λ (j : ℕ). sizes_of r j (drop at s)) more)

    pub running_some : size r (drop at s) ≤ length (drop at s)
    running_some = omega (arith, running_there, length-drop at s)

    pub running_room : 16 ≤ length (drop (16 * i) out)
    running_room = omega (arith, k.long, length-drop (16 * i) out)

    pub running_next : (n' : ℕ) (part : List ℕ) → n' ≡ size r (drop at s) → part ≡ put_restored (drop at s) n' (take (length out - 16 * i) (drop (16 * i) out))
        → Running r s (take (16 * i) out ++ (part ++ drop (length out - 16 * i) (drop (16 * i) out))) n (at + n') (i + 1)
    running_next n' part is e =
        let few : n' ≤ 16 = omega (arith, size_fits r (drop at s)) in
        let there : n' ≤ length (drop at s) = omega (arith, running_some) in
        let room = running_room in
        let p : part ≡ put_restored (drop at s) n' (drop (16 * i) out) = e ∙ ap (put_restored (drop at s) n') (rest_is out (16 * i)) in
        let l : length part ≡ length (drop (16 * i) out) = ap length p ∙ restored_length (drop at s) n' (drop (16 * i) out) there few room in
        let b : take 16 part ≡ next_cell r (drop at s) =
        ap (take 16) p ∙ restored_cell (drop at s) n' (drop (16 * i) out) there few room ∙ ap (λ (j : ℕ). padded (take j (drop at s))) is in
        let w = put-part out part (next_cell r (drop at s)) (16 * i) 16 (omega (arith, k.long)) l (omega arith) b in
        let d : drop (size r (drop at s)) (drop at s) ≡ drop (at + n') s = ap (λ (j : ℕ). drop j (drop at s)) (sym is) ∙ drop-drop n' at s in
        let o : 16 * i + 16 ≡ 16 * (i + 1) = omega arith in
        record {
          says = k.says ∙ ap (λ (j : ℕ). take (16 * i) out ++ cells_of r j (drop at s)) more
              ∙ sym (append_assoc (take (16 * i) out) (next_cell r (drop at s)) (cells_of r (n - (i + 1)) (drop (size r (drop at s)) (drop at s))))
              ∙ ap₂ (λ (x y : List ℕ). x ++ cells_of r (n - (i + 1)) y) (sym w.start ∙ ap (λ (j : ℕ). take j (take (16 * i) out ++ (part ++ drop (length out - 16 * i) (drop (16 * i) out)))) o) d;
          takes = omega (arith, k.takes, ap (λ (j : ℕ). sizes_of r j (drop at s)) more, ap (sizes_of r (n - (i + 1))) d);
          long = w.same ∙ k.long;
          fits = k.fits;
        }

-- ---- function by function

pub record Restoring (s out : List ℕ) (at to : ℕ) : Type 0 where
  -- the cells that are left
  pub cs : List Cell
  pub fine : Fine [] cs
  pub packs : pack_from [] cs ≡ drop at s
  pub says : unpacked s ≡ bytes (take to out ++ flat cs)
  pub long : length out ≡ to + 16 * length cs
  pub within : at ≤ length s

pub restoring_none : (s out : List ℕ) → Room (unpacked s) (length out) → Restoring s out 0 0
unfolding unpacked
restoring_none s out m =
    let r = read_is 4096 0 0 [] s m.image m.is in
    record {
      cs = r.cs;
      fine = r.fine;
      packs = r.packs;
      says = m.is ∙ ap bytes r.is;
      long = omega (arith, m.long, ap length r.is, length-flat r.cs (fine_full [] r.cs r.fine));
      within = omega arith;
    }

-- the bytes of a function: those behind its head, and those behind its instructions
abbrev pub behind_head : List ℕ → ℕ → List ℕ
behind_head s at = drop (at + 7) s

abbrev pub behind_code : List ℕ → ℕ → ℕ → List ℕ
behind_code s at n = drop (at + 7 + sizes_of Code n (behind_head s at)) s

-- its cells
abbrev pub function_cells : List ℕ → ℕ → ℕ → ℕ → List ℕ
function_cells s at n m = padded (take 7 (drop at s)) ++ (cells_of Code n (behind_head s at) ++ cells_of Event m (behind_code s at n))

pub record Function-left (s out : List ℕ) (at to n m : ℕ) : Type 0 where
  pub there : 7 ≤ length (drop at s)
  pub code_fits : sizes_of Code n (behind_head s at) ≤ length (behind_head s at)
  pub event_fits : sizes_of Event m (behind_code s at n) ≤ length (behind_code s at n)
  pub room : to + 16 + 16 * n + 16 * m ≤ length out
  pub next : (out' : List ℕ) → length out' ≡ length out → take (to + 16 + 16 * n + 16 * m) out' ≡ take to out ++ function_cells s at n m
      → Restoring s out' (at + 7 + sizes_of Code n (behind_head s at) + sizes_of Event m (behind_code s at n)) (to + 16 + 16 * n + 16 * m)

-- a head's counts stand in the bytes it keeps
head-counts : (h : Cell) (t : List ℕ) → length h ≡ 16 → (code_count (keep Head h ++ t) ≡ code_count h) × (event_count (keep Head h ++ t) ≡ event_count h)
head-counts h t full =
    let l : 7 ≤ length (keep Head h) = omega (arith, keep-length Head h full, head-size h) in
    let b = take-append-drop (size Head h) h in (
      half_start (keep Head h) t 3 (omega arith) ∙ sym (half_start (keep Head h) (drop (size Head h) h) 3 (omega arith)) ∙ ap code_count b,
      half_start (keep Head h) t 5 (omega arith) ∙ sym (half_start (keep Head h) (drop (size Head h) h) 5 (omega arith)) ∙ ap event_count b,
    )

module _ (s out : List ℕ) (at to : ℕ) (h : Cell) (cs : List Cell) (f : Fine [] (h ∷ cs)) (p : pack_from [] (h ∷ cs) ≡ drop at s)
    (u : unpacked s ≡ bytes (take to out ++ flat (h ∷ cs))) (l : length out ≡ to + 16 * length (h ∷ cs)) where
  abbrev n₀ : ℕ
  n₀ = code_count h

  abbrev m₀ : ℕ
  m₀ = event_count h

  abbrev t₀ : List ℕ
  t₀ = pack_from (promise n₀ m₀) cs

  code_run : Run Code n₀ (replicate m₀ Event) cs
  code_run = fine_run Code n₀ (replicate m₀ Event) cs f.1

  events_fine : Fine (replicate m₀ Event ++ []) (drop n₀ cs)
  events_fine = rw (append-nil (replicate m₀ Event)) code_run.then

  event_run : Run Event m₀ [] (drop n₀ cs)
  event_run = fine_run Event m₀ [] (drop n₀ cs) events_fine

  code_packed : Packed-run Code n₀ (replicate m₀ Event) cs t₀
  code_packed = packed-run Code n₀ (replicate m₀ Event) cs f.1

  events_packed : Packed-run Event m₀ [] (drop n₀ cs) (pack_from (replicate m₀ Event ++ []) (drop n₀ cs))
  events_packed = packed-run Event m₀ [] (drop n₀ cs) events_fine

  head_is : padded (take 7 (drop at s)) ≡ h
  head_is =
      ap (λ (j : ℕ). padded (take j (drop at s))) (sym (head-size (drop at s))) ∙ ap (next_cell Head) (sym p)
      ∙ next_back Head h f.0.0 t₀ (right-zeros Head 0 0 h (f.0.1 0 0))

  code_at : behind_head s at ≡ t₀
  code_at =
      sym (drop-drop 7 at s) ∙ ap (drop 7) (sym p) ∙ ap (λ (j : ℕ). drop j (keep Head h ++ t₀)) (sym (head-size (keep Head h ++ t₀)))
      ∙ next-rest Head h f.0.0 t₀

  events_at : behind_code s at n₀ ≡ pack_from (replicate m₀ Event ++ []) (drop n₀ cs)
  events_at =
      sym (drop-drop (sizes_of Code n₀ (behind_head s at)) (at + 7) s) ∙ ap (λ (x : List ℕ). drop (sizes_of Code n₀ x) x) code_at ∙ code_packed.rest
      ∙ ap (λ (q : List Role). pack_from q (drop n₀ cs)) (sym (append-nil (replicate m₀ Event)))

  there₀ : 7 ≤ length (drop at s)
  there₀ = omega (arith, ap length p, length-append (keep Head h) t₀, keep-length Head h f.0.0, head-size h)

  code_fits₀ : sizes_of Code n₀ (behind_head s at) ≤ length (behind_head s at)
  code_fits₀ = rw code_at code_packed.fits

  event_fits₀ : sizes_of Event m₀ (behind_code s at n₀) ≤ length (behind_code s at n₀)
  event_fits₀ = rw events_at events_packed.fits

  cells_left : List Cell
  cells_left = drop m₀ (drop n₀ cs)

  -- the function's cells before those that are left
  cells-split : function_cells s at n₀ m₀ ++ flat (drop m₀ (drop n₀ cs)) ≡ h ++ flat cs
  cells-split =
      let a = flat (take n₀ cs) in
      let b = flat (take m₀ (drop n₀ cs)) in
      let c = flat (drop m₀ (drop n₀ cs)) in
      let is : function_cells s at n₀ m₀ ≡ h ++ (a ++ b) =
      ap₂ (λ (x y : List ℕ). x ++ y) head_is
      (ap₂ (λ (x y : List ℕ). x ++ y) (ap (cells_of Code n₀) code_at ∙ code_packed.cells_are) (ap (cells_of Event m₀) events_at ∙ events_packed.cells_are)) in
      let tail : b ++ c ≡ flat (drop n₀ cs) = sym (flat_append (take m₀ (drop n₀ cs)) (drop m₀ (drop n₀ cs))) ∙ ap flat (take-append-drop m₀ (drop n₀ cs)) in
      let all : a ++ flat (drop n₀ cs) ≡ flat cs = sym (flat_append (take n₀ cs) (drop n₀ cs)) ∙ ap flat (take-append-drop n₀ cs) in
      ap (λ (x : List ℕ). x ++ c) is ∙ append_assoc h (a ++ b) c ∙ ap (λ (x : List ℕ). h ++ x) (append_assoc a b c ∙ ap (λ (x : List ℕ). a ++ x) tail ∙ all)

  function-left : Function-left s out at to n₀ m₀
  function-left = record {
    there = there₀;
    code_fits = code_fits₀;
    event_fits = event_fits₀;
    room = omega (arith, l, code_run.enough, event_run.enough, length-drop n₀ cs);
    next = λ out' same start. record {
      cs = drop m₀ (drop n₀ cs);
      fine = event_run.then;
      packs = sym events_packed.rest ∙ ap (λ (x : List ℕ). drop (sizes_of Event m₀ x) x) (sym events_at)
          ∙ drop-drop (sizes_of Event m₀ (behind_code s at n₀)) (at + 7 + sizes_of Code n₀ (behind_head s at)) s;
      says = u ∙ ap bytes (ap (λ (x : List ℕ). take to out ++ x) (sym cells-split) ∙ sym (append_assoc (take to out) (function_cells s at n₀ m₀) (flat (drop m₀ (drop n₀ cs))))
          ∙ ap (λ (x : List ℕ). x ++ flat (drop m₀ (drop n₀ cs))) (sym start));
      long = omega (arith, same, l, code_run.enough, event_run.enough, length-drop n₀ cs, length-drop m₀ (drop n₀ cs));
      within = omega (arith, there₀, code_fits₀, event_fits₀, length-drop at s, length-drop (at + 7) s, length-drop (at + 7 + sizes_of Code n₀ (behind_head s at)) s);
    };
  }

function-by : (s out : List ℕ) (at to : ℕ) (cs : List Cell) → Fine [] cs → pack_from [] cs ≡ drop at s → unpacked s ≡ bytes (take to out ++ flat cs)
    → length out ≡ to + 16 * length cs → to < length out → Function-left s out at to (code_count (drop at s)) (event_count (drop at s))
function-by s out at to [] f p u l h = absurd (omega arith)
function-by s out at to (c ∷ cs) f p u l h =
    let (n, m) = head-counts c (pack_from (promise (code_count c) (event_count c)) cs) f.0.0 in
    let en : code_count (drop at s) ≡ code_count c = ap code_count (sym p) ∙ n in
    let em : event_count (drop at s) ≡ event_count c = ap event_count (sym p) ∙ m in
    rw (en, em) (function-left s out at to c cs f p u l)

module _ (s out : List ℕ) (at to : ℕ) (k : Restoring s out at to) where
  pub restoring_function : to < length out → Function-left s out at to (code_count (drop at s)) (event_count (drop at s))
  restoring_function h = function-by s out at to k.cs k.fine k.packs k.says k.long h

-- ---- the three parts of a function written, the head to the part `&mut out[to..]`, the others to `&mut out[a..e]`

pub record Written-part (out part : List ℕ) (a e : ℕ) : Type 0 where
  pub same : length (take a out ++ (part ++ drop (e - a) (drop a out))) ≡ length out
  pub start : take e (take a out ++ (part ++ drop (e - a) (drop a out))) ≡ take a out ++ part

pub written-part : (out part : List ℕ) (a e : ℕ) → a ≤ e → e ≤ length out → length part ≡ e - a → Written-part out part a e
written-part out part a e h l n =
    let t = drop (e - a) (drop a out) in
    let m : length (take a out) ≡ a = length-take-le a out (omega arith) in
    let i : length (take a out ++ part) ≡ e = omega (arith, length-append (take a out) part) in
    let f : take a out ++ (part ++ t) ≡ (take a out ++ part) ++ t = sym (append_assoc (take a out) part t) in
    record {
      same = omega (arith, length-append (take a out) (part ++ t), length-append part t, length-drop (e - a) (drop a out), length-drop a out);
      start = ap (take e) f ∙ ap (λ (j : ℕ). take j ((take a out ++ part) ++ t)) (sym i) ∙ take-append_seam (take a out ++ part) t;
    }

pub cells-length : (r : Role) (n : ℕ) (s : List ℕ) → sizes_of r n s ≤ length s → length (cells_of r n s) ≡ 16 * n
cells-length r zero s h = refl
cells-length r (suc n) s h =
    let l : size r s ≤ length s = omega arith in
    let k = cells-length r n (drop (size r s) s) (omega (arith, length-drop (size r s) s)) in
    omega (arith, length-append (next_cell r s) (cells_of r n (drop (size r s) s)), cell-length r s l, k)

-- a part of an output written
abbrev pub put_in : List ℕ → List ℕ → ℕ → ℕ → List ℕ
put_in out part a e = take a out ++ (part ++ drop (e - a) (drop a out))

pub head-written : (s out part : List ℕ) (at to : ℕ) → 7 ≤ length (drop at s) → to + 16 ≤ length out
    → part ≡ put_restored (take (length s - at) (drop at s)) 7 (take (length out - to) (drop to out)) → Put-part out part (padded (take 7 (drop at s))) to 16
head-written s out part at to there l e =
    let room : 16 ≤ length (drop to out) = omega (arith, length-drop to out) in
    let few : 7 ≤ 16 = omega arith in
    let p : part ≡ put_restored (drop at s) 7 (drop to out) = e ∙ ap₂ (λ (x y : List ℕ). put_restored x 7 y) (rest_is s at) (rest_is out to) in
    let n : length part ≡ length (drop to out) = ap length p ∙ restored_length (drop at s) 7 (drop to out) there few room in
    put-part out part (padded (take 7 (drop at s))) to 16 (omega arith) n (omega arith) (ap (take 16) p ∙ restored_cell (drop at s) 7 (drop to out) there few room)

module _ (s out : List ℕ) (at to n m : ℕ) (f : Function-left s out at to n m) (p₁ : List ℕ) (w : Put-part out p₁ (padded (take 7 (drop at s))) to 16) where
  abbrev out₁ : List ℕ
  out₁ = put_in out p₁ to (length out)

  -- the part for the instructions, and how it is written
  pub code_room : length (take (to + 16 + 16 * n - (to + 16)) (drop (to + 16) out₁)) ≡ 16 * n
  code_room =
      let e : to + 16 + 16 * n - (to + 16) ≡ 16 * n = omega arith in
      length-take-le (to + 16 + 16 * n - (to + 16)) (drop (to + 16) out₁) (omega (arith, length-drop (to + 16) out₁, w.same, f.room)) ∙ e

  module _ (p₂ : List ℕ) (c : p₂ ≡ cells_of Code n (behind_head s at)) where
    abbrev out₂ : List ℕ
    out₂ = put_in out₁ p₂ (to + 16) (to + 16 + 16 * n)

    code_written : Written-part out₁ p₂ (to + 16) (to + 16 + 16 * n)
    code_written =
        let l : length p₂ ≡ 16 * n = ap length c ∙ cells-length Code n (behind_head s at) f.code_fits in
        written-part out₁ p₂ (to + 16) (to + 16 + 16 * n) (omega arith) (omega (arith, w.same, f.room)) (omega arith)

    pub event_room : length (take (to + 16 + 16 * n + 16 * m - (to + 16 + 16 * n)) (drop (to + 16 + 16 * n) out₂)) ≡ 16 * m
    event_room =
        let e : to + 16 + 16 * n + 16 * m - (to + 16 + 16 * n) ≡ 16 * m = omega arith in
        length-take-le (to + 16 + 16 * n + 16 * m - (to + 16 + 16 * n)) (drop (to + 16 + 16 * n) out₂)
        (omega (arith, length-drop (to + 16 + 16 * n) out₂, code_written.same, w.same, f.room)) ∙ e

    pub second_room : to + 16 + 16 * n + 16 * m ≤ length out₂
    second_room = omega (arith, code_written.same, w.same, f.room)

    module _ (p₃ : List ℕ) (d : p₃ ≡ cells_of Event m (behind_code s at n)) where
      abbrev out₃ : List ℕ
      out₃ = put_in out₂ p₃ (to + 16 + 16 * n) (to + 16 + 16 * n + 16 * m)

      pub function-written : (length out₃ ≡ length out)
          × Restoring s out₃ (at + 7 + sizes_of Code n (behind_head s at) + sizes_of Event m (behind_code s at n)) (to + 16 + 16 * n + 16 * m)
      function-written =
          let l : length p₃ ≡ 16 * m = ap length d ∙ cells-length Event m (behind_code s at n) f.event_fits in
          let v = written-part out₂ p₃ (to + 16 + 16 * n) (to + 16 + 16 * n + 16 * m) (omega arith) second_room (omega arith) in
          let same : length out₃ ≡ length out = v.same ∙ code_written.same ∙ w.same in
          let h = padded (take 7 (drop at s)) in
          let start : take (to + 16 + 16 * n + 16 * m) out₃ ≡ take to out ++ function_cells s at n m =
          v.start ∙ ap₂ (λ (x y : List ℕ). x ++ y) (code_written.start ∙ ap₂ (λ (x y : List ℕ). x ++ y) w.start c) d
          ∙ append_assoc (take to out ++ h) (cells_of Code n (behind_head s at)) (cells_of Event m (behind_code s at n))
          ∙ append_assoc (take to out) h (cells_of Code n (behind_head s at) ++ cells_of Event m (behind_code s at n)) in
          (same, f.next out₃ same start)

  pub first_room : to + 16 + 16 * n ≤ length out₁
  first_room = omega (arith, w.same, f.room)
