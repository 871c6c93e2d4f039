-- Pieces of text written one behind another over the start of a buffer.
use mathlib.Core.Path.{◌≡◌, refl, sym, ◌∙◌, ap}
use mathlib.Core.List.{List, [], ◌∷◌, ◌++◌, append_assoc, append-nil}
use Prim.Native.Nat.{ℕ, ◌+◌, ◌-◌, ◌≤◌, ◌<◌}
use native.Mathlib.Omega.{arith}
use lib.ListN.{length, set, take, drop, length-append, length-drop, take-append-drop, drop_of_length-le}
use lib.Seq.{take_all, take-length, length-take-le}
use Rattle.cells.specs.Cells.{over}
use Rattle.cells.proofs.Over.{over_nil, over-take, over-drop, over-over, over-set, length_over}
use Rattle.listing.specs.Promises.{TextWritten}

pub written_none : (s : List ℕ) → TextWritten [] s s 0
written_none s = record { end = refl; bytes = sym (over_nil s) }

-- what stands before a position, written over itself
pub written_start : (s : List ℕ) (at : ℕ) → at ≤ length s → TextWritten (take at s) s s at
unfolding over
written_start s at h =
    let e : length (take at s) ≡ at = length-take-le at s h in
    record { end = sym e; bytes = sym (rw e (take-append-drop at s)) }

module _ {text before after : List ℕ} {at : ℕ} (w : TextWritten text before after at) where
  pub written-take : take at after ≡ text
  written-take = rw (w.end, w.bytes) (over-take text before)

  pub written-length : at ≤ length before → length after ≡ length before
  written-length h = rw w.bytes (length_over text before (omega (arith, w.end)))

  -- a text as long as the buffer
  pub written-whole : length text ≡ length before → after ≡ text
  unfolding over
  written-whole e =
      let l : length before ≤ length text = omega arith in
      w.bytes ∙ rw (drop_of_length-le before l) (append-nil text)

  -- one byte more
  pub written_byte : (x : ℕ) → at < length before → TextWritten (text ++ x ∷ []) before (set after at x) (at + 1)
  written_byte x h = record {
    end = simp length-append (omega (arith, w.end));
    bytes = rw w.bytes (over-set text before x at (sym w.end) h);
  }

  -- a piece more, as a function appends it
  pub written_next : (piece : List ℕ) {last : List ℕ} {r : ℕ} → TextWritten (take at after ++ piece) after last r → TextWritten (text ++ piece) before last r
  unfolding over
  written_next piece {last} {r} v =
      let t : take at after ++ piece ≡ text ++ piece = ap (λ (s : List ℕ). s ++ piece) written-take in
      let l : length text ≤ length (text ++ piece) = omega (arith, length-append text piece) in
      record {
        end = v.end ∙ ap length t;
        bytes = v.bytes ∙ rw (t, w.bytes) (ap (λ (s : List ℕ). (text ++ piece) ++ s) (over-drop text before (length (text ++ piece)) l));
      }

-- two pieces one behind the other
pub written_both : (start p q : List ℕ) {before after last : List ℕ} {at r : ℕ} → TextWritten (start ++ p) before after at → TextWritten (take at after ++ q) after last r
    → TextWritten (start ++ (p ++ q)) before last r
written_both start p q w v = rw (append_assoc start p q) at (written_next w q v)

-- one byte more, behind a piece
pub written_behind : (start piece : List ℕ) (x : ℕ) {before after : List ℕ} {at : ℕ} → TextWritten (start ++ piece) before after at → at < length before
    → TextWritten (start ++ (piece ++ x ∷ [])) before (set after at x) (at + 1)
written_behind start piece x w h = rw (append_assoc start piece (x ∷ [])) at (written_byte w x h)

-- where a piece appended at a position ends
pub end_at_lem : (s piece : List ℕ) (at r : ℕ) → at ≤ length s → r ≡ length (take at s ++ piece) → r ≡ at + length piece
end_at_lem s piece at r h e = omega (arith, e, length-append (take at s) piece, length-take-le at s h)

-- a copy into the part of a buffer from a position on
pub written_copy : (piece s part : List ℕ) (at r : ℕ) → at ≤ length s → r ≡ length piece
    → part ≡ take (length piece) piece ++ drop (length piece) (take (length s - at) (drop at s))
    → TextWritten (take at s ++ piece) s (take at s ++ (part ++ drop (length s - at) (drop at s))) (at + r)
unfolding over
written_copy piece s part at r h e f =
    let l : length (take at s) ≡ at = length-take-le at s h in
    let m : length (drop at s) ≤ length s - at = omega (arith, length-drop at s) in
    let p : part ≡ over piece (drop at s) = f ∙ rw (take-length piece, take_all (length s - at) (drop at s) m) in
    record {
      end = simp length-append (omega (arith, e, l));
      bytes = rw (p, drop_of_length-le (drop at s) m, append-nil (over piece (drop at s)))
          (ap (λ (j : ℕ). take at s ++ over piece (drop j s)) (sym l) ∙ over-over (take at s) piece s);
    }
