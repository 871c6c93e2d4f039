-- The texts of one image: its numbers read back, and its line.
use mathlib.Core.Path.{◌≡◌, refl, sym, ap}
use mathlib.Core.Bool.{Bool, true, false, cond}
use mathlib.Core.List.{List, ◌++◌}
use Prim.Native.Nat.{ℕ, ◌+◌, ◌-◌, ◌≤◌}
use native.Mathlib.Omega.{arith}
use borrow.Author.Tests.{eq-eqb, ne_eqb}
use lib.Dec.{eqb}
use lib.ListN.{length, take, drop, length-append, length-take, length-drop}
use lib.Seq.{length-take-le}
use Rattle.input.specs.Prefix.{IsPrefixLen}
use Rattle.cells.specs.Bytes.{word}
use Rattle.cells.specs.Cells.{over}
use Rattle.cells.specs.declared.refusal.Numbers.{Numbers}
use Rattle.cells.proofs.Over.{over-part}
use Rattle.listing.specs.Promises.{TextWritten}
use Rattle.listing.specs.Text.{field, blank, rewrites_line, refused_text}
use Rattle.listing.proofs.Pieces.{written-length}
use Rattle.listing.proofs.Whole.{length-field, length-rewrites, length-refused}
use Rattle.release.specs.Release.{three_numbers}
use Rattle.release.proofs.Frames.{four_back}
use Rattle.matchdesk_release.specs.Program.{answer_text, image_line}

-- ---- an answer's three numbers

module _ (x : Numbers) (s : List ℕ) where
  pub first_back : word (over (three_numbers x) s) 0 ≡ x.number
  unfolding over
  first_back = four_back x.number

  pub second_back : word (over (three_numbers x) s) 4 ≡ x.position
  unfolding over
  second_back = four_back x.position

  pub third_back : word (over (three_numbers x) s) 8 ≡ x.detail
  unfolding over
  third_back = four_back x.detail

pub numbers_are : (x : Numbers) (a b c : ℕ) → a ≡ x.number → b ≡ x.position → c ≡ x.detail → record { number = a; position = b; detail = c } ≡ x
numbers_are x a b c e f g = rw (e, f, g) refl

-- ---- its line

pub by_number : (x : Numbers) → x.number ≡ 0 → answer_text x ≡ rewrites_line x.position
by_number x e = ap (λ (b : Bool). cond b (rewrites_line x.position) (refused_text x.number x.position x.detail)) (eq-eqb x.number 0 e)

pub by_refusal : (x : Numbers) → (x.number ≡ 0 → ⊥) → answer_text x ≡ refused_text x.number x.position x.detail
by_refusal x e = ap (λ (b : Bool). cond b (rewrites_line x.position) (refused_text x.number x.position x.detail)) (ne_eqb x.number 0 e)

either_length : (b : Bool) (s t : List ℕ) → length s ≤ 71 → length t ≤ 71 → length (cond b s t) ≤ 71
either_length true s t h k = h
either_length false s t h k = k

answer-length : (x : Numbers) → length (answer_text x) ≤ 71
answer-length x =
    either_length (eqb x.number 0) (rewrites_line x.position) (refused_text x.number x.position x.detail) (omega (arith, length-rewrites x.position)) (length-refused x.number x.position x.detail)

pub answer_short : (x : Numbers) {before after : List ℕ} {r : ℕ} → TextWritten (answer_text x) before after r → r ≤ 71
answer_short x w = omega (arith, w.end, answer-length x)

pub line-length : (place : ℕ) (x : Numbers) → length (image_line place x) ≤ 92
unfolding image_line
line-length place x = omega (arith, length-append (field place blank) (answer_text x), length-field place blank, answer-length x)

-- a text that fits counts bytes of the buffer
pub counted : (text before after : List ℕ) (r : ℕ) → TextWritten text before after r → length text ≤ length before → IsPrefixLen r after
counted text before after r w h =
    let e : length after ≡ length before = written-length w (omega (arith, w.end)) in
    let l : r ≤ length after = omega (arith, w.end) in
    (l, sym (length-take-le r after l))

module _ (place : ℕ) (x : Numbers) (line first : List ℕ) (k : ℕ) (h : 92 ≤ length line) (w : TextWritten (field place blank) line first k) where
  -- behind the place and a blank there is room for the answer
  pub place_short : k ≤ 21
  place_short = omega (arith, w.end, length-field place blank)

  pub place_within : length first ≡ length line
  place_within = written-length w (omega (arith, place_short))

  pub answer_room : 71 ≤ length (take (length first - k) (drop k first))
  answer_room = omega (arith, length-take (length first - k) (drop k first), length-drop k first, place_short, place_within)

  module _ (part : List ℕ) (r : ℕ) (v : TextWritten (answer_text x) (take (length first - k) (drop k first)) part r) where
    pub line-written : TextWritten (image_line place x) line (take k first ++ (part ++ drop (length first - k) (drop k first))) (k + r)
    unfolding image_line
    line-written = record {
      end = omega (arith, w.end, v.end, length-append (field place blank) (answer_text x));
      bytes = over-part (field place blank) (answer_text x) line first part k (sym w.end) (omega (arith, place_short, place_within)) w.bytes v.bytes;
    }

    pub line-counted : IsPrefixLen (k + r) (take k first ++ (part ++ drop (length first - k) (drop k first)))
    line-counted = counted (image_line place x) line _ (k + r) line-written (omega (arith, line-length place x))
