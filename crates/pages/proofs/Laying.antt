-- A line from its pieces; and the walks: over the cells of a part, over the parts of a function, and over the functions of an accepted image.
use mathlib.Core.Path.{◌≡◌, refl, sym, ◌∙◌, ap, ap₂, subst}
use mathlib.Core.List.{List, [], ◌∷◌, ◌++◌, append_assoc, append-nil}
use Prim.Native.Nat.{ℕ, ◌+◌, ◌-◌, ◌/◌, ◌≤◌, ◌<◌}
use native.Mathlib.Omega.{arith}
use lib.ListN.{length, get_or, set, take, drop, length-append, length-drop, drop_of_length-le}
use Rattle.cells.specs.Cells.{Cell, cells, flat}
use Rattle.cells.specs.Functions.{Function, there, functions, function_of}
use Rattle.cells.specs.Lists.{All}
use Rattle.cells.specs.declared.walk.Part.{Part}
use Rattle.cells.specs.declared.walk.Part.TheVariants.{Code, Events}
use Rattle.cells.proofs.Cells.{length-cells, flat_append}
use Rattle.cells.proofs.Walking.{cells_taken}
use Rattle.cells.proofs.Lists.{all_at}
use Rattle.cells.proofs.Spans.{drop-next}
use Rattle.image.specs.SiteCheck.{SitesPass}
use Rattle.listing.specs.Promises.{TextWritten}
use Rattle.listing.specs.Places.{ascii}
use Rattle.listing.specs.Text.{line_feed, hex}
use Rattle.listing.proofs.Lines.{length-hex}
use Rattle.listing.proofs.Pieces.{written_none, written_start, written_byte, written_next, written_both, end_at_lem}
use Rattle.pages.specs.Pages.{heading, cell_line, entry_lines, part_lines, name_in, function_lines, all_lines, page_lines, pages_text, lines_of, lines_of_all, most_lines}
use Rattle.pages.specs.Steps.{cell_title, Listable, ListableFunction, EntryRoom, PartRoom, FunctionRoom}
use Rattle.pages.proofs.Lines.{length_title, length-heading, tail_is, image_listable, most_lines_lem}

-- ---- a cell's line: its position and name, two blanks, its bytes, and the end

module _ (p : Part) (position : ℕ) (c : Cell) (r : Listable p c) (h : position < 4096) {line line₁ line₂ : List ℕ} {a b : ℕ}
    (u : TextWritten (cell_title p position c) line line₁ a) (v : TextWritten (take a line₁ ++ ascii "  ") line₁ line₂ b) where
  titled : TextWritten (cell_title p position c ++ ascii "  ") line line₂ b
  titled = written_next u (ascii "  ") v

  pub title_end : b ≡ 27
  title_end = omega (arith, titled.end, length-append (cell_title p position c) (ascii "  "), length_title p position c r.0 h)

  module _ {line₃ : List ℕ} {k : ℕ} (z : TextWritten (take b line₂ ++ hex (take (length c - 1) (drop 1 c))) line₂ line₃ k) where
    filled : TextWritten (cell_title p position c ++ ascii "  " ++ hex (drop 1 c)) line line₃ k
    filled = written_next titled (hex (drop 1 c)) (rw (tail_is c) at z)

    pub bytes_end : k ≡ 57
    bytes_end =
        omega (
          arith,
          filled.end,
          length-append (cell_title p position c ++ ascii "  ") (hex (drop 1 c)),
          titled.end,
          title_end,
          length-hex (drop 1 c),
          length-drop 1 c,
          r.1,
        )

    pub line-written : length line ≡ 58 → TextWritten (cell_line p position c) line (set line₃ k line_feed) (k + 1)
    unfolding cell_line
    line-written l = written_byte filled line_feed (omega (arith, bytes_end))

-- ---- a part: the cells before i are written

pub record PartPut (p : Part) (name position : ℕ) (cs : List Cell) (text₀ : List ℕ) (at : ℕ) (text : List ℕ) (to i : ℕ) : Type 0 where
  pub within : i ≤ length cs
  pub long : length text ≡ length text₀
  pub done : List ℕ
  pub is : TextWritten (take at text₀ ++ done) text₀ text to
  pub rest : done ++ flat (part_lines p name (position + i) (drop i cs)) ≡ flat (part_lines p name position cs)

pub part_start : (p : Part) (name position : ℕ) (cs : List Cell) (text : List ℕ) (at : ℕ) → at ≤ length text → PartPut p name position cs text at text at 0
part_start p name position cs text at h = record {
  within = omega arith;
  long = refl;
  done = [];
  is = rw (append-nil (take at text)) (written_start text at h);
  rest = let e : position + 0 ≡ position = omega arith in ap (λ (n : ℕ). flat (part_lines p name n cs)) e;
}

module _ {p : Part} {name position : ℕ} {cs : List Cell} {text₀ text : List ℕ} {at to i : ℕ} (w : PartPut p name position cs text₀ at text to i) (h : i < length cs)
    (q : PartRoom p name position cs text₀ at) where
  abbrev here : List ℕ
  here = flat (entry_lines p name (position + i) (get_or cs i []))

  abbrev later : List ℕ
  later = flat (part_lines p name (position + (i + 1)) (drop (i + 1) cs))

  part-split : flat (part_lines p name (position + i) (drop i cs)) ≡ here ++ later
  part-split =
      let e : position + i + 1 ≡ position + (i + 1) = omega arith in
      ap (λ (l : List Cell). flat (part_lines p name (position + i) l)) (drop-next cs i h)
      ∙ flat_append (entry_lines p name (position + i) (get_or cs i [])) (part_lines p name (position + i + 1) (drop (i + 1) cs))
      ∙ ap (λ (n : ℕ). here ++ flat (part_lines p name n (drop (i + 1) cs))) e

  pub entry_room : EntryRoom p name (position + i) (get_or cs i []) text to
  entry_room = record {
    listable = all_at (Listable p) [] cs i h q.listable;
    few = omega (arith, q.few);
    room = omega (
      arith,
      q.room,
      w.long,
      end_at_lem text₀ w.done at to (omega (arith, q.room)) w.is.end,
      ap length w.rest,
      length-append w.done (flat (part_lines p name (position + i) (drop i cs))),
      ap length part-split,
      length-append here later,
    );
  }

  pub part-next : {last : List ℕ} {r : ℕ} → TextWritten (take to text ++ here) text last r → length last ≡ length text → PartPut p name position cs text₀ at last r (i + 1)
  part-next {last} {r} v l = record {
    within = omega arith;
    long = l ∙ w.long;
    done = w.done ++ here;
    is = written_both (take at text₀) w.done here w.is v;
    rest = append_assoc w.done here later ∙ ap (λ (s : List ℕ). w.done ++ s) (sym part-split) ∙ w.rest;
  }

pub part_end : {p : Part} {name position : ℕ} {cs : List Cell} {text₀ : List ℕ} {at : ℕ} {text : List ℕ} {to i : ℕ} → PartPut p name position cs text₀ at text to i → length cs ≤ i
    → TextWritten (take at text₀ ++ flat (part_lines p name position cs)) text₀ text to
part_end {p} {name} {position} {cs} {text₀} {at} {text} {to} {i} w h =
    let d : w.done ≡ flat (part_lines p name position cs) =
    sym (append-nil w.done) ∙ sym (ap (λ (l : List Cell). w.done ++ flat (part_lines p name (position + i) l)) (drop_of_length-le cs h)) ∙ w.rest in
    rw (← d) w.is

-- ---- a function: its heading and its two parts

module _ (f : Function) where
  abbrev pub code_text : List ℕ
  code_text = flat (part_lines Code (name_in f) 0 f.code)

  abbrev pub events_text : List ℕ
  events_text = flat (part_lines Events (name_in f) (length f.code) f.events)

  pub function_text : flat (function_lines f) ≡ heading (name_in f) 1 ++ (code_text ++ events_text)
  function_text =
      ap (λ (t : List ℕ). heading (name_in f) 1 ++ t)
      (flat_append (part_lines Code (name_in f) 0 f.code) (part_lines Events (name_in f) (length f.code) f.events))

  pub function-length : length (flat (function_lines f)) ≡ 58 + length code_text + length events_text
  function-length =
      omega (
        arith,
        ap length function_text,
        length-append (heading (name_in f) 1) (code_text ++ events_text),
        length-append code_text events_text,
        length-heading (name_in f) 1,
      )

  -- `name` and `k` are the function's name and the count of its instructions as the code finds them
  module _ {text : List ℕ} {at : ℕ} (q : FunctionRoom f text at) {name : ℕ} (n : name ≡ name_in f) {text₁ : List ℕ} {a : ℕ}
      (w : TextWritten (take at text ++ heading name 1) text text₁ a) (l : length text₁ ≡ length text) where
    heading_end : a ≡ at + 58
    heading_end = omega (arith, end_at_lem text (heading name 1) at a (omega (arith, q.room)) w.end, length-heading name 1)

    code_is : flat (part_lines Code name 0 f.code) ≡ code_text
    code_is = ap (λ (m : ℕ). flat (part_lines Code m 0 f.code)) n

    pub code_room : PartRoom Code name 0 f.code text₁ a
    code_room = record {
      listable = q.listable.code;
      few = omega (arith, q.listable.few);
      room = omega (arith, heading_end, l, q.room, function-length, ap length code_is);
    }

    module _ {k : ℕ} (e : k ≡ length f.code) {text₂ : List ℕ} {b : ℕ} (v : TextWritten (take a text₁ ++ flat (part_lines Code name 0 f.code)) text₁ text₂ b)
        (m : length text₂ ≡ length text₁) where
      code_end : b ≡ a + length code_text
      code_end =
          omega (
            arith,
            end_at_lem text₁ (flat (part_lines Code name 0 f.code)) a b (omega (arith, heading_end, l, q.room, function-length)) v.end,
            ap length code_is,
          )

      events_is : flat (part_lines Events name k f.events) ≡ events_text
      events_is = ap₂ (λ (i j : ℕ). flat (part_lines Events i j f.events)) n e

      pub events_room : PartRoom Events name k f.events text₂ b
      events_room = record {
        listable = q.listable.events;
        few = omega (arith, q.listable.few);
        room = omega (arith, heading_end, code_end, l, m, q.room, function-length, ap length events_is);
      }

      pub function-written : {text₃ : List ℕ} {r : ℕ} → TextWritten (take b text₂ ++ flat (part_lines Events name k f.events)) text₂ text₃ r
          → TextWritten (take at text ++ flat (function_lines f)) text text₃ r
      function-written x =
          let u = written_both (take at text) (heading (name_in f) 1) code_text (rw n at w) (rw code_is at v) in
          rw (function_text, ← append_assoc (heading (name_in f) 1) code_text events_text)
          (written_both (take at text) (heading (name_in f) 1 ++ code_text) events_text u (rw events_is at x))

-- ---- the functions of an image, written one behind another: the bytes that are left of it

pub record Laying (s text₀ text left : List ℕ) (to : ℕ) : Type 0 where
  pub listable : All ListableFunction (functions (cells left))
  pub long : length text ≡ length text₀
  pub done : List ℕ
  pub is : TextWritten done text₀ text to
  pub rest : done ++ flat (all_lines (functions (cells left))) ≡ pages_text s

pub laying_start : (s text left : List ℕ) → SitesPass s → left ≡ s → Laying s text text left 0
unfolding pages_text page_lines
laying_start s text left g e = record {
  listable = rw e (image_listable s g.image);
  long = refl;
  done = [];
  is = written_none text;
  rest = rw e refl;
}

-- the next function, and what is left behind it
module _ {s text₀ text left : List ℕ} {to : ℕ} (w : Laying s text₀ text left to) (t h c e : List ℕ) (x : functions (cells left) ≡ function_of h c e ∷ functions (cells t))
    (full : length (pages_text s) ≤ length text₀) where
  abbrev this : Function
  this = function_of h c e

  abbrev behind : List ℕ
  behind = flat (all_lines (functions (cells t)))

  laying_listable : All ListableFunction (this ∷ functions (cells t))
  laying_listable = rw x at w.listable

  laying_split : flat (all_lines (functions (cells left))) ≡ flat (function_lines this) ++ behind
  laying_split = ap (λ (fs : List Function). flat (all_lines fs)) x ∙ flat_append (function_lines this) (all_lines (functions (cells t)))

  pub laying_room : FunctionRoom this text to
  laying_room = record {
    listable = laying_listable.0;
    room = omega (
      arith,
      full,
      w.long,
      w.is.end,
      ap length w.rest,
      length-append w.done (flat (all_lines (functions (cells left)))),
      ap length laying_split,
      length-append (flat (function_lines this)) behind,
    );
  }

  pub laying_next : {last : List ℕ} {n : ℕ} → TextWritten (take to text ++ flat (function_lines this)) text last n → length last ≡ length text → Laying s text₀ last t n
  laying_next {last} {n} v l =
      let u = flat (function_lines this) in
      record {
        listable = laying_listable.1;
        long = l ∙ w.long;
        done = w.done ++ u;
        is = written_next w.is u v;
        rest = append_assoc w.done u behind ∙ ap (λ (y : List ℕ). w.done ++ y) (sym laying_split) ∙ w.rest;
      }

pub laying_end : {s text₀ text left : List ℕ} {to : ℕ} → Laying s text₀ text left to → functions (cells left) ≡ [] → TextWritten (pages_text s) text₀ text to
laying_end {s} {text₀} {text} {left} {to} w n =
    let d : w.done ≡ pages_text s =
    sym (append-nil w.done) ∙ sym (ap (λ (fs : List Function). w.done ++ flat (all_lines fs)) n) ∙ w.rest in
    rw (← d) w.is

-- ---- their lines, counted

pub record Counted (s left : List ℕ) (lines : ℕ) : Type 0 where
  pub within : length left / 16 ≤ length s / 16
  pub sum : lines + lines_of_all (functions (cells left)) ≡ lines_of_all (functions (cells s))

pub counted_start : (s left : List ℕ) → left ≡ s → Counted s left 0
counted_start s left e = record { within = rw e (omega arith); sum = rw e (omega arith) }

module _ {s left : List ℕ} {lines : ℕ} (w : Counted s left lines) (t h c e : List ℕ) (x : functions (cells left) ≡ function_of h c e ∷ functions (cells t)) where
  taken : length left / 16 ≡ 1 + length c / 16 + length e / 16 + length t / 16
  taken = cells_taken left t h c e x

  pub few_cells : length s ≤ 65536 → length c / 16 + length e / 16 ≤ 4096
  few_cells n = omega (arith, taken, w.within, n)

  counted-sum : lines + lines_of (length c / 16 + length e / 16) + lines_of_all (functions (cells t)) ≡ lines_of_all (functions (cells s))
  counted-sum =
      let k : there (function_of h c e) ≡ length c / 16 + length e / 16 = omega (arith, length-cells c, length-cells e) in
      omega (arith, w.sum, ap lines_of_all x, ap lines_of k)

  pub counted-most : SitesPass s → lines + lines_of (length c / 16 + length e / 16) ≤ most_lines
  counted-most g = omega (arith, counted-sum, most_lines_lem s g)

  pub counted_next : (n : ℕ) → n ≡ lines_of (length c / 16 + length e / 16) → Counted s t (lines + n)
  counted_next n p = record { within = omega (arith, taken, w.within); sum = omega (arith, counted-sum, p) }

pub counted_end : {s left : List ℕ} {lines : ℕ} → Counted s left lines → functions (cells left) ≡ [] → lines ≡ lines_of_all (functions (cells s))
counted_end w n = omega (arith, w.sum, ap lines_of_all n)
