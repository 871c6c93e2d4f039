-- One cell read, one step of the reading; and both ways between cells and their packed form.
use mathlib.Core.Path.{◌≡◌, refl, ap, ap₂, sym, ◌∙◌}
use mathlib.Core.List.{List, [], ◌∷◌, ◌++◌, append_assoc}
use mathlib.Core.Bool.{Bool, true, false, false≢true, ◌||◌}
use Prim.Native.Nat.{ℕ, zero, suc, ◌+◌, ◌≤◌, ◌<◌}
use native.Mathlib.Nat.{le_of_suc-le-suc, not-suc-le-zero}
use native.Mathlib.Omega.{arith}
use borrow.Author.Tests.{leb-true, le-leb, lt-leb}
use lib.Dec.{leb}
use lib.ListN.{length, take, drop, length-append, take-append-drop}
use Rattle.cells.specs.Answers.{unless}
use Rattle.cells.specs.Cells.{Cell, flat}
use Rattle.cells.specs.declared.refusal.Refusal.{Refusal}
use Rattle.cells.specs.declared.refusal.Refusal.TheVariants.{Length, UnknownCommand}
use Rattle.cells.proofs.Facts.{by_test}
use Rattle.packed.specs.Form.{Role, role_of, due_behind, size, keep, pack_from}
use Rattle.packed.specs.Reading.{Result, bytes, refused, ends, if_good, and_then, empty, finished, known, next_cell, cell_check, read_cell, next_position, unpack_from}
use Rattle.packed.specs.Steps.{taken}
use Rattle.packed.proofs.Widths.{size_some, right-zeros, right-known, right_anywhere, known-first, keep-length, next-first, next-size, next-rest, next_back, due_kept, cell-length, cell-keep, due_read}
use Rattle.std.specs.Prelude.{Ok, Err}
use Rattle.cells.specs.Checked.{Checked}
use Rattle.packed.specs.Answer.{Packing}
use Rattle.packed.specs.declared.PackingError.TheVariants.{Refused as RefusedBy, Ends}

-- ---- results

pub refused-bytes : {x : Refusal} {b : List ℕ} → refused x ≡ bytes b → ⊥
refused-bytes e = let z : ◌≡◌ {A = ℕ} 0 1 = cc in omega arith

pub ends-bytes : {p d : ℕ} {b : List ℕ} → ends p d ≡ bytes b → ⊥
ends-bytes e = let z : ◌≡◌ {A = ℕ} 0 1 = cc in omega arith

pub then_nil : (t : Result) → and_then (bytes []) t ≡ t
then_nil (bytes b) = refl
then_nil (refused x) = refl
then_nil (ends p d) = refl

pub then_then : (a b : List ℕ) (t : Result) → and_then (bytes a) (and_then (bytes b) t) ≡ and_then (bytes (a ++ b)) t
then_then a b (bytes c) = ap bytes (sym (append_assoc a b c))
then_then a b (refused x) = refl
then_then a b (ends p d) = refl

-- bytes come of bytes alone
pub record Both (t u : Result) (b : List ℕ) : Type 0 where
  pub first : List ℕ
  pub rest : List ℕ
  pub first_is : t ≡ bytes first
  pub rest_is : u ≡ bytes rest
  pub is : first ++ rest ≡ b

pub then_bytes : (t u : Result) (b : List ℕ) → and_then t u ≡ bytes b → Both t u b
then_bytes (bytes a) (bytes c) b e = record { first = a; rest = c; first_is = refl; rest_is = refl; is = cc }
then_bytes (bytes a) (refused x) b e = absurd (refused-bytes e)
then_bytes (bytes a) (ends p d) b e = absurd (ends-bytes e)
then_bytes (refused x) u b e = absurd (refused-bytes e)
then_bytes (ends p d) u b e = absurd (ends-bytes e)

good-bytes : (k : Checked) (c b : List ℕ) → if_good k c ≡ bytes b → (k ≡ Ok tt) × (b ≡ c)
good-bytes (Ok tt) c b e = (refl, cc)
good-bytes (Err x) c b e = absurd (refused-bytes e)

-- ---- one cell

some_known : (s : List ℕ) (t : Bool) → 1 ≤ length s → (empty s || t) ≡ t
some_known [] t h = absurd (not-suc-le-zero h)
some_known (b ∷ s) t h = refl

none-known : (s : List ℕ) (t : Bool) → length s ≡ 0 → (empty s || t) ≡ true
none-known [] t e = refl
none-known (b ∷ s) t e = absurd (omega arith)

module _ (r : Role) (p d : ℕ) (s : List ℕ) where
  pub read_none : length s ≡ 0 → read_cell r p d s ≡ ends p d
  unfolding read_cell
  read_none e =
      let h : length s < size r s = omega (arith, size_some r s) in
      rw (none-known s (known r s) e, lt-leb _ _ h)

  pub read_unknown : 1 ≤ length s → known r s ≡ false → read_cell r p d s ≡ refused (UnknownCommand p d)
  unfolding read_cell
  read_unknown some k = rw (some_known s (known r s) some, k)

  pub read_cut : 1 ≤ length s → known r s ≡ true → length s < size r s → read_cell r p d s ≡ ends p d
  unfolding read_cell
  read_cut some k h = rw (some_known s (known r s) some, k, lt-leb _ _ h)

  pub read_whole : known r s ≡ true → size r s ≤ length s → read_cell r p d s ≡ if_good (cell_check r p d (next_cell r s)) (next_cell r s)
  unfolding read_cell
  read_whole k h = rw (some_known s (known r s) (omega (arith, size_some r s)), k, le-leb _ _ h)

  -- what was read: all bytes are there, and the cell is right
  pub record Cell-read (c : List ℕ) : Type 0 where
    pub fits : size r s ≤ length s
    pub right : cell_check r p d (next_cell r s) ≡ Ok tt
    pub is : c ≡ next_cell r s

  pub cell_read : (c : List ℕ) → read_cell r p d s ≡ bytes c → Cell-read c
  unfolding read_cell
  cell_read c e =
      by_test (empty s || known r s)
      (λ y. by_test (leb (size r s) (length s))
      (λ l.
      let (g, i) = good-bytes (cell_check r p d (next_cell r s)) (next_cell r s) c (sym (rw (y, l)) ∙ e) in
      record { fits = leb-true _ _ l; right = g; is = i })
      (λ l. let q : ends p d ≡ bytes c = sym (rw (y, l)) ∙ e in absurd (ends-bytes q)))
      (λ n. let q : refused (UnknownCommand p d) ≡ bytes c = sym (rw n) ∙ e in absurd (refused-bytes q))

-- what the code says of a cell
module _ (r : Role) (p d : ℕ) (s : List ℕ) where
  abbrev says : Result → Packing
  says t = taken t (size r s)

  pub taken_none : length s ≡ 0 → Err (Ends p d) ≡ says (read_cell r p d s)
  taken_none e = sym (ap says (read_none r p d s e))

  pub taken-unknown : 1 ≤ length s → known r s ≡ false → Err (RefusedBy (UnknownCommand p d)) ≡ says (read_cell r p d s)
  taken-unknown some k = sym (ap says (read_unknown r p d s some k))

  pub taken_cut : 1 ≤ length s → known r s ≡ true → length s < size r s → Err (Ends p d) ≡ says (read_cell r p d s)
  taken_cut some k h = sym (ap says (read_cut r p d s some k h))

  module _ (k : known r s ≡ true) (h : size r s ≤ length s) where
    pub taken_refused : (x : Refusal) → cell_check r p d (next_cell r s) ≡ Err x → Err (RefusedBy x) ≡ says (read_cell r p d s)
    taken_refused x e = sym (ap says (read_whole r p d s k h) ∙ ap (λ (t : Checked). says (if_good t (next_cell r s))) e)

    pub taken-good : (n : ℕ) → n ≡ size r s → cell_check r p d (next_cell r s) ≡ Ok tt → Ok n ≡ says (read_cell r p d s)
    taken-good n en e = ap Ok en ∙ sym (ap says (read_whole r p d s k h) ∙ ap (λ (t : Checked). says (if_good t (next_cell r s))) e)

    -- by a test of its operands
    module _ (t : Bool) (x : Refusal) (by : cell_check r p d (next_cell r s) ≡ unless t x) where
      pub taken_unfit : t ≡ false → Err (RefusedBy x) ≡ says (read_cell r p d s)
      taken_unfit f = taken_refused x (by ∙ ap (λ (u : Bool). unless u x) f)

      pub taken_fit : t ≡ true → (n : ℕ) → n ≡ size r s → Ok n ≡ says (read_cell r p d s)
      taken_fit y n en = taken-good n en (by ∙ ap (λ (u : Bool). unless u x) y)

-- ---- one step

module _ (p d : ℕ) (due : List Role) (s : List ℕ) where
  -- what the cells behind this one come to
  abbrev pub later : ℕ → Result
  later room = unpack_from room (next_position p (due_behind due s)) (d + 1) (due_behind due s) (drop (size (role_of due) s) s)

  pub step_done : (room : ℕ) → finished due s ≡ true → unpack_from room p d due s ≡ bytes []
  unfolding unpack_from
  step_done zero f = rw f
  step_done (suc room) f = rw f

  pub step_full : finished due s ≡ false → unpack_from zero p d due s ≡ refused Length
  unfolding unpack_from
  step_full f = rw f

  pub step-more : (room : ℕ) → finished due s ≡ false → unpack_from (suc room) p d due s ≡ and_then (read_cell (role_of due) p d s) (later room)
  unfolding unpack_from
  step-more room f = rw f

-- ---- cells that are right, one after another from where `due` are promised, with nothing promised at the end

abbrev pub Right : Role → Cell → Type 0
Right r c = (length c ≡ 16) × ((p d : ℕ) → cell_check r p d c ≡ Ok tt)

abbrev pub Fine : List Role → List Cell → Type 0
Fine due [] = due ≡ []
Fine due (c ∷ cs) = Right (role_of due) c × Fine (due_behind due c) cs

some_left : (due : List Role) (s : List ℕ) → 1 ≤ length s → finished due s ≡ false
some_left [] [] h = absurd (not-suc-le-zero h)
some_left [] (b ∷ s) h = refl
some_left (r ∷ due) s h = refl

-- the packed form of right cells is read back as these
pub read_back : (due : List Role) (cs : List Cell) (room p d : ℕ) → Fine due cs → length cs ≤ room → unpack_from room p d due (pack_from due cs) ≡ bytes (flat cs)
read_back due [] room p d f l = step_done p d due [] room (rw f)
read_back due (c ∷ cs) zero p d f l = absurd (not-suc-le-zero l)
read_back due (c ∷ cs) (suc room) p d f l =
    let r = role_of due in
    let full = f.0.0 in
    let behind = due_behind due c in
    let t = pack_from behind cs in
    let s = keep r c ++ t in
    let n : length s ≡ size r c + length t = omega (arith, length-append (keep r c) t, keep-length r c full) in
    let back : next_cell r s ≡ c = next_back r c full t (right-zeros r p d c (f.0.1 p d)) in
    let fits : size r s ≤ length s = omega (arith, next-size r c full t) in
    let known_is : known r s ≡ true = known-first r s c (next-first r c full t) ∙ right-known r p d c (f.0.1 p d) in
    let good : read_cell r p d s ≡ bytes c =
    read_whole r p d s known_is fits ∙ ap (λ (x : Cell). if_good (cell_check r p d x) x) back ∙ ap (λ (k : Checked). if_good k c) (f.0.1 p d) in
    let some : finished due s ≡ false = some_left due s (omega (arith, size_some r c)) in
    step-more p d due s room some
    ∙ ap₂ (λ (x : Result) (q : List Role). and_then x (unpack_from room (next_position p q) (d + 1) q (drop (size r s) s))) good (due_kept due c t full)
    ∙ ap (λ (u : List ℕ). and_then (bytes c) (unpack_from room (next_position p behind) (d + 1) behind u)) (next-rest r c full t)
    ∙ ap (and_then (bytes c)) (read_back behind cs room (next_position p behind) (d + 1) f.1 (le_of_suc-le-suc l))

-- what is read is the packed form of right cells
pub record Read (due : List Role) (s b : List ℕ) (room : ℕ) : Type 0 where
  pub cs : List Cell
  pub is : b ≡ flat cs
  pub packs : pack_from due cs ≡ s
  pub fine : Fine due cs
  pub few : length cs ≤ room

none_left : (due : List Role) (s : List ℕ) → finished due s ≡ true → (due ≡ []) × (s ≡ [])
none_left [] [] f = (refl, refl)
none_left [] (b ∷ s) f = absurd (false≢true f)
none_left (r ∷ due) s f = absurd (false≢true f)

nothing_read : (room p d : ℕ) (due : List Role) (s b : List ℕ) → finished due s ≡ true → unpack_from room p d due s ≡ bytes b → Read due s b room
nothing_read room p d due s b f e =
    let (x, y) = none_left due s f in
    let q : bytes [] ≡ bytes b = sym (step_done p d due s room f) ∙ e in
    record { cs = []; is = cc; packs = sym y; fine = x; few = omega arith }

-- a cell before others
one_more : (room p d : ℕ) (due : List Role) (s c t b : List ℕ) → Cell-read (role_of due) p d s c → c ++ t ≡ b → Read (due_behind due s) (drop (size (role_of due) s) s) t room → Read due s b (suc room)
one_more room p d due s c t b w i k =
    let r = role_of due in
    let cell = next_cell r s in
    record {
      cs = cell ∷ k.cs;
      is = sym i ∙ ap₂ (λ (x y : List ℕ). x ++ y) w.is k.is;
      packs = ap₂ (λ (x : List ℕ) (q : List Role). x ++ pack_from q k.cs) (cell-keep r s w.fits) (due_read due s w.fits)
          ∙ ap (λ (y : List ℕ). take (size r s) s ++ y) k.packs ∙ take-append-drop (size r s) s;
      fine = ((cell-length r s w.fits, right_anywhere r p d cell w.right), rw (due_read due s w.fits) k.fine);
      few = omega (arith, k.few);
    }

pub read_is : (room p d : ℕ) (due : List Role) (s b : List ℕ) → unpack_from room p d due s ≡ bytes b → Read due s b room
read_is zero p d due s b e =
    by_test (finished due s) (λ y. nothing_read zero p d due s b y e)
    (λ n. absurd (refused-bytes (sym (step_full p d due s n) ∙ e)))
read_is (suc room) p d due s b e =
    by_test (finished due s) (λ y. nothing_read (suc room) p d due s b y e)
    (λ n.
    let t = then_bytes (read_cell (role_of due) p d s) (later p d due s room) b (sym (step-more p d due s room n) ∙ e) in
    one_more room p d due s t.first t.rest b (cell_read (role_of due) p d s t.first t.first_is) t.is
    (read_is room (next_position p (due_behind due s)) (d + 1) (due_behind due s) (drop (size (role_of due) s) s) t.rest t.rest_is))
