-- The promises of `rewrite_release` follow from the answer and the bytes of both buffers.
use mathlib.Core.Path.{◌≡◌, refl, sym, ◌∙◌, ap, ap₂}
use mathlib.Core.Logic.{◌↔◌}
use mathlib.Core.List.{List, [], ◌∷◌, ◌++◌, map}
use mathlib.Core.Bool.{Bool, true, cond, true≢false}
use Prim.Native.Nat.{ℕ, zero, suc, ◌+◌, ◌*◌, ◌≤◌, ◌<◌, min}
use native.Mathlib.Omega.{arith}
use borrow.Author.Tests.{leb-true}
use lib.Dec.{leb}
use lib.ListN.{length, take, drop, get_or, length-append}
use lib.Seq.{drop-drop}
use Rattle.cells.specs.Cells.{over}
use Rattle.cells.specs.Check.{max_image}
use Rattle.cells.proofs.Facts.{by_test}
use Rattle.cells.proofs.Over.{over-take}
use Rattle.crystalfold.specs.declared.rules.RuleSet.TheVariants.{Default}
use Rattle.passes.specs.Promises.{RewriteDone, length_written as length_alone}
use Rattle.passes.specs.declared.Pass.TheVariants.{Both}
use Rattle.passes.proofs.Done.{pass_done, rewrite_done}
use Rattle.release.specs.Frames.{Image, frame, framed, images_of}
use Rattle.release.specs.Release.{handed_back, numbers_as, three_numbers, answer_to, released, answers_to, with_room, admitted, answer_as, buffer_as, release_answer, release_output, release_answers}
use Rattle.release.specs.Promises.{reply_of, is_written, length_written, Admissible, answer_alone, output_alone, AsAlone, HandedBack, ReleaseDone}
use Rattle.release.specs.Claim.{NeighboursStay, ReleasesJoin}
use Rattle.release.proofs.Alone.{back_length, back_shorter, same_answer, same-output}
use Rattle.release.proofs.Frames.{Byte, framed-bytes, read_back}
use Rattle.release.proofs.Images.{framed-append, released-append, answers_append, are_admitted}
use Rattle.std.specs.Prelude.{Option, None, Some}
use Rattle.passes.specs.Rewrite.{Rewrite}

-- ---- one image, as alone

module _ (i : Image) (lent : List ℕ) (h : length i ≤ length lent) where
  alone_done : RewriteDone Default i lent (output_alone i lent) (answer_alone i lent)
  alone_done = rewrite_done Default i lent (output_alone i lent) (answer_alone i lent) (pass_done (Both Default) i lent (output_alone i lent) (answer_alone i lent) refl refl)

  alone-bytes : handed_back i ≡ take (length_alone (answer_alone i lent)) (output_alone i lent)
  alone-bytes =
      let m : min (length i) max_image ≤ length lent = omega arith in
      sym (ap₂ (λ (n : ℕ) (u : List ℕ). take n u) (ap length_alone (same_answer i lent m) ∙ back_length i) (same-output i lent m) ∙ over-take (handed_back i) lent)

  as_alone : AsAlone i (handed_back i) (answer_to i) lent
  as_alone = record {
    done = alone_done;
    numbers = ap (λ (r : Rewrite). three_numbers (numbers_as r)) (sym (same_answer i lent (omega arith)));
    bytes = alone-bytes;
    records = λ e. rw alone-bytes (alone_done.records e);
  }

-- ---- all of them, by their places

back_at : (is : List Image) (k : ℕ) → k < length is → get_or (map handed_back is) k [] ≡ handed_back (get_or is k [])
back_at [] k h = absurd (omega arith)
back_at (i ∷ is) zero h = refl
back_at (i ∷ is) (suc k) h = back_at is k (omega arith)

answer_at : (is : List Image) (rest : List ℕ) (k : ℕ) → k < length is → take 12 (drop (12 * k) (answers_to is ++ rest)) ≡ answer_to (get_or is k [])
answer_at [] rest k h = absurd (omega arith)
answer_at (i ∷ is) rest zero h = refl
answer_at (i ∷ is) rest (suc k) h =
    let e : 12 * suc k ≡ 12 + 12 * k = omega arith in
    ap (λ (n : ℕ). take 12 (drop n (answers_to (i ∷ is) ++ rest))) e
    ∙ ap (take 12) (sym (drop-drop (12 * k) 12 (answers_to (i ∷ is) ++ rest))) ∙ answer_at is rest k (omega arith)

back_count : (is : List Image) → length (map handed_back is) ≡ length is
back_count [] = refl
back_count (i ∷ is) = ap suc (back_count is)

released_shorter : (is : List Image) → length (released is) ≤ length (framed is)
released_shorter [] = omega arith
released_shorter (i ∷ is) =
    omega (arith, released_shorter is, back_shorter i, length-append (frame (handed_back i)) (released is), length-append (frame i) (framed is))

handed : (is : List Image) (out answers : List ℕ) → HandedBack is (take (length (released is)) (over (released is) out)) (over (answers_to is) answers)
unfolding over
handed is out answers = record {
  backs = map handed_back is;
  framing = over-take (released is) out;
  count = back_count is;
  each = λ k h lent l. rw (back_at is k h, answer_at is (drop (length (answers_to is)) answers) k h) (as_alone (get_or is k []) lent l);
}

-- ---- what is admitted

no_none : {A : Type 0} {is : List Image} → None ≡ Some is → A
no_none e = let z : ◌≡◌ {A = ℕ} 0 1 = cc in absurd (omega arith)

-- which images these are, and that there is room for them
record Admitted (s : List ℕ) (m k : ℕ) (is : List Image) : Type 0 where
  read : images_of s ≡ Some is
  room : length s ≤ m
  numbers : 12 * length is ≤ k

with_room_lem : (k : ℕ) (o : Option (List Image)) (is : List Image) → with_room k o ≡ Some is → (o ≡ Some is) × (12 * length is ≤ k)
with_room_lem k None is e = no_none e
with_room_lem k (Some js) is e =
    by_test (leb (12 * length js) k)
    (λ t. let f : Some js ≡ Some is = sym (ap (λ (b : Bool). cond b (Some js) None) t) ∙ e in
    let j : js ≡ is = cc in
    (f, omega (arith, leb-true (12 * length js) k t, ap length j)))
    (λ t. no_none (sym (ap (λ (b : Bool). cond b (Some js) None) t) ∙ e))

are_images : (s : List ℕ) (m k : ℕ) (is : List Image) → admitted s m k ≡ Some is → Admitted s m k is
unfolding admitted
are_images s m k is e =
    by_test (leb (length s) m)
    (λ t. let (r, n) = with_room_lem k (images_of s) is (sym (ap (λ (b : Bool). cond b (with_room k (images_of s)) None) t) ∙ e) in
    record { read = r; room = leb-true (length s) m t; numbers = n })
    (λ t. no_none (sym (ap (λ (b : Bool). cond b (with_room k (images_of s)) None) t) ∙ e))

-- ---- the promises

record Facts (s out out' answers answers' : List ℕ) (r : Option ℕ) : Type 0 where
  accepted : (is_written r ≡ true) ↔ Admissible s (length out) (length answers)
  shorter : length_written r ≤ length s
  images : is_written r ≡ true → (is : List Image) → s ≡ framed is → HandedBack is (take (length_written r) out') answers'

facts : (s out answers : List ℕ) → Byte s → (o : Option (List Image)) → admitted s (length out) (length answers) ≡ o
    → Facts s out (buffer_as o released out) answers (buffer_as o answers_to answers) (answer_as o)
facts s out answers b None e = record {
  accepted = (
    (λ f. absurd (true≢false (sym f))),
    (λ a. no_none (sym e ∙ are_admitted s a.images (length out) (length answers) (ap images_of a.framing ∙ read_back a.images) a.room a.answers)),
  );
  shorter = omega arith;
  images = λ f. absurd (true≢false (sym f));
}
facts s out answers b (Some js) e =
    let a = are_images s (length out) (length answers) js e in
    let f : s ≡ framed js = framed-bytes s js b a.read in
    record {
      accepted = ((λ _. record { images = js; framing = f; room = a.room; answers = a.numbers }), (λ _. refl));
      shorter = omega (arith, released_shorter js, ap length f);
      images = λ _ is g.
          let r : Some js ≡ Some is = sym a.read ∙ ap images_of g ∙ read_back is in
          let j : js ≡ is = cc in
          rw j (handed is out answers);
    }

pub release_done : (s out out' answers answers' : List ℕ) (r : Option ℕ) → Byte s
    → (r ≡ release_answer s (length out) (length answers)) × (out' ≡ release_output s out (length answers)) × (answers' ≡ release_answers s (length out) answers)
    → ReleaseDone s out out' answers answers' r
unfolding release_answer release_output release_answers
release_done s out out' answers answers' r b (x, y, z) =
    let k : Facts s out out' answers answers' r = rw (x, y, z) (facts s out answers b (admitted s (length out) (length answers)) refl) in
    record {
      answer = x;
      reply = ap reply_of x;
      bytes = y;
      numbers = z;
      accepted = k.accepted;
      shorter = k.shorter;
      images = k.images;
    }

-- ---- images don't lean on each other

pub releases-join : ReleasesJoin
releases-join is js = record { framing = framed-append is js; bytes = released-append is js; numbers = answers_append is js }

pub neighbours : NeighboursStay
neighbours is x js = record { bytes = released-append is (x ∷ js); numbers = answers_append is (x ∷ js) }
