-- What the program writes of a whole release.
use mathlib.Core.Path.{◌≡◌, refl, sym, ◌∙◌, ap}
use mathlib.Core.Bool.{Bool, true, false, cond, true≢false}
use mathlib.Core.List.{List, [], ◌∷◌, ◌++◌}
use Prim.Native.Nat.{ℕ, suc, ◌+◌, ◌<◌, ◌≤◌}
use native.Mathlib.Omega.{arith}
use borrow.Author.Tests.{lt-leb}
use lib.Dec.{leb}
use lib.ListN.{length, drop, replicate, length-replicate}
use Rattle.cells.specs.Bytes.{word}
use Rattle.cells.proofs.Facts.{by_test}
use Rattle.release.specs.Frames.{Image, frame, images_of}
use Rattle.release.specs.Release.{handed_back}
use Rattle.release.proofs.Frames.{Next, next-whole}
use Rattle.matchdesk_release.specs.Program.{max_release, image_texts, refused_texts, program_texts, OutputReleased, LongInputs}
use Rattle.matchdesk_release.specs.Promises.{is_none, is_refused, Framed}
use Rattle.std.specs.Prelude.{Some, None, Option}

pub output-released : OutputReleased
unfolding image_texts
output-released place [] = refl
output-released place (i ∷ is) = ap (λ (s : List ℕ). frame (handed_back i) ++ s) (output-released (suc place) is)

long_text : (s : List ℕ) → max_release < length s → program_texts s ≡ refused_texts
unfolding program_texts
long_text s h = rw (lt-leb (length s) max_release h) refl

pub long_inputs : LongInputs
long_inputs input kept h k = long_text kept k ∙ sym (long_text input h)

-- ---- the test for 33

is_some : (o : Option (List Image)) → is_none o ≡ false → (is : List Image) × (o ≡ Some is)
is_some None e = absurd (true≢false e)
is_some (Some is) e = (is, refl)

pub not-refused : (s : List ℕ) → false ≡ is_refused s → Framed s
unfolding is_refused
not-refused s e =
    by_test (leb (length s) max_release)
    (λ t. is_some (images_of s) (sym (ap (λ (b : Bool). cond b (is_none (images_of s)) true) t) ∙ sym e))
    (λ t. absurd (true≢false (sym (ap (λ (b : Bool). cond b (is_none (images_of s)) true) t) ∙ sym e)))

-- ---- the loop: from a place on there are whole images, and the buffers have their sizes

pub record Writing (s out line : List ℕ) (at place : ℕ) : Type 0 where
  pub rest : List Image
  pub left : images_of (drop at s) ≡ Some rest
  pub within : at ≤ length s
  pub few : place ≤ at
  pub for_frame : length out ≡ 65540
  pub for_line : length line ≡ 92

pub writing_start : (s out line : List ℕ) → Framed s → out ≡ replicate 65540 0 → line ≡ replicate 92 0 → Writing s out line 0 0
writing_start s out line (is, e) f l = record {
  rest = is;
  left = e;
  within = omega arith;
  few = omega arith;
  for_frame = ap length f ∙ length-replicate {A = ℕ} 65540 0;
  for_line = ap length l ∙ length-replicate {A = ℕ} 92 0;
}

module _ {s out line : List ℕ} {at place : ℕ} (w : Writing s out line at place) (h : at < length s) where
  pub following : Next s at w.rest
  following = next-whole s at w.rest h w.left

  pub writing_next : (size : ℕ) (out' line' : List ℕ) → size ≡ word s at → length out' ≡ length out → length line' ≡ length line
      → Writing s out' line' (at + 4 + size) (place + 1)
  writing_next size out' line' e f l =
      let a : at + 4 + size ≡ at + 4 + word s at = omega (arith, e) in
      record {
        rest = following.others;
        left = ap (λ (n : ℕ). images_of (drop n s)) a ∙ following.read;
        within = omega (arith, a, following.within);
        few = omega (arith, w.few);
        for_frame = f ∙ w.for_frame;
        for_line = l ∙ w.for_line;
      }
