-- The images of a release one after another: what is written of all of them, and how the loop goes.
use mathlib.Core.Path.{◌≡◌, refl, sym, ◌∙◌, ap}
use mathlib.Core.List.{List, [], ◌∷◌, ◌++◌, append_assoc, append-nil}
use mathlib.Core.Bool.{Bool, true, false, cond}
use Prim.Native.Nat.{ℕ, ◌+◌, ◌-◌, ◌*◌, ◌≤◌, ◌<◌}
use native.Mathlib.Omega.{arith}
use borrow.Author.Tests.{le-leb, lt-leb}
use lib.Dec.{leb}
use lib.ListN.{length, take, drop, length-append, length-take, length-drop}
use lib.Seq.{length-take-le}
use Rattle.cells.specs.Bytes.{word}
use Rattle.cells.specs.Cells.{over}
use Rattle.cells.proofs.Over.{length_over, over-part, over_nil}
use Rattle.release.specs.Frames.{Image, frame, framed, images_of, count_as}
use Rattle.release.specs.Release.{handed_back, answer_to, released, answers_to, with_room, admitted, answer_as, buffer_as, release_answer, release_output, release_answers}
use Rattle.release.specs.Steps.{Place, Placed, Ready}
use Rattle.release.proofs.Alone.{back_shorter}
use Rattle.release.proofs.Frames.{image_at, Next, next-whole, none_left}
use Rattle.std.specs.Prelude.{Some, None, Option}

-- ---- what is written of images one behind the other

pub framed-append : (is js : List Image) → framed (is ++ js) ≡ framed is ++ framed js
framed-append [] js = refl
framed-append (i ∷ is) js = ap (λ (s : List ℕ). frame i ++ s) (framed-append is js) ∙ sym (append_assoc (frame i) (framed is) (framed js))

pub released-append : (is js : List Image) → released (is ++ js) ≡ released is ++ released js
released-append [] js = refl
released-append (i ∷ is) js =
    ap (λ (s : List ℕ). frame (handed_back i) ++ s) (released-append is js) ∙ sym (append_assoc (frame (handed_back i)) (released is) (released js))

pub answers_append : (is js : List Image) → answers_to (is ++ js) ≡ answers_to is ++ answers_to js
answers_append [] js = refl
answers_append (i ∷ is) js = ap (λ (s : List ℕ). answer_to i ++ s) (answers_append is js) ∙ sym (append_assoc (answer_to i) (answers_to is) (answers_to js))

pub answers_length : (is : List Image) → length (answers_to is) ≡ 12 * length is
answers_length [] = refl
answers_length (i ∷ is) = omega (arith, answers_length is)

-- ---- which images are rewritten

pub are_admitted : (s : List ℕ) (is : List Image) (m k : ℕ) → images_of s ≡ Some is → length s ≤ m → 12 * length is ≤ k → admitted s m k ≡ Some is
unfolding admitted
are_admitted s is m k e h l = rw (le-leb (length s) m h, e, le-leb (12 * length is) k l) refl

pub too_short : (s : List ℕ) (m k : ℕ) → m < length s → admitted s m k ≡ None
unfolding admitted
too_short s m k h = rw (lt-leb (length s) m h) refl

by_length : (t : Bool) (o : Option (List Image)) → o ≡ None → cond t o None ≡ None
by_length true o e = e
by_length false o e = refl

pub past_end_none : (s : List ℕ) (m k : ℕ) → images_of s ≡ None → admitted s m k ≡ None
unfolding admitted
past_end_none s m k e = by_length (leb (length s) m) (with_room k (images_of s)) (ap (with_room k) e)

pub few_numbers : (s : List ℕ) (is : List Image) (m k : ℕ) → images_of s ≡ Some is → k < 12 * length is → admitted s m k ≡ None
unfolding admitted
few_numbers s is m k e h =
    by_length (leb (length s) m) (with_room k (images_of s)) (ap (with_room k) e ∙ ap (λ (t : Bool). cond t (Some is) None) (lt-leb (12 * length is) k h))

-- the count tells whether there are images
abbrev pub CountedImages : List ℕ → ℕ → Type 0
CountedImages s n = (is : List Image) × (images_of s ≡ Some is) × (length is ≡ n)

pub no_images : (o : Option (List Image)) → count_as o ≡ None → o ≡ None
no_images None e = refl
no_images (Some is) e = let z : ◌≡◌ {A = ℕ} 0 1 = cc in absurd (omega arith)

pub some_images : (o : Option (List Image)) (n : ℕ) → count_as o ≡ Some n → (is : List Image) × (o ≡ Some is) × (length is ≡ n)
some_images None n e = let z : ◌≡◌ {A = ℕ} 0 1 = cc in absurd (omega arith)
some_images (Some is) n e = (is, refl, cc)

-- the whole operation, by these
pub refused_so : (s out answers : List ℕ) → admitted s (length out) (length answers) ≡ None
    → (None ≡ release_answer s (length out) (length answers)) × (out ≡ release_output s out (length answers)) × (answers ≡ release_answers s (length out) answers)
unfolding release_answer release_output release_answers
refused_so s out answers e =
    (sym (ap answer_as e), sym (ap (λ (o : Option (List Image)). buffer_as o released out) e), sym (ap (λ (o : Option (List Image)). buffer_as o answers_to answers) e))

pub written_so : (s out answers : List ℕ) (is : List Image) → admitted s (length out) (length answers) ≡ Some is
    → (Some (length (released is)) ≡ release_answer s (length out) (length answers)) × (over (released is) out ≡ release_output s out (length answers))
    × (over (answers_to is) answers ≡ release_answers s (length out) answers)
unfolding release_answer release_output release_answers
written_so s out answers is e =
    (sym (ap answer_as e), sym (ap (λ (o : Option (List Image)). buffer_as o released out) e), sym (ap (λ (o : Option (List Image)). buffer_as o answers_to answers) e))

-- ---- the loop

-- the images before the place `at` are done: `to` bytes of the output and k of the answers are written
pub record Rewriting (s out₀ answers₀ out answers : List ℕ) (at to k : ℕ) : Type 0 where
  pub done : List Image
  pub rest : List Image
  pub whole : images_of s ≡ Some (done ++ rest)
  pub left : images_of (drop at s) ≡ Some rest
  pub within : at ≤ length s
  pub bytes : out ≡ over (released done) out₀
  pub numbers : answers ≡ over (answers_to done) answers₀
  pub written : to ≡ length (released done)
  pub answered : k ≡ length (answers_to done)
  pub behind : to ≤ at
  pub room : length s ≤ length out₀
  pub enough : k + 12 * length rest ≤ length answers₀
  pub same_out : length out ≡ length out₀
  pub same_answers : length answers ≡ length answers₀

pub rewriting_start : (s out answers : List ℕ) → Ready s out answers → Rewriting s out answers out answers 0 0 0
rewriting_start s out answers r = record {
  done = [];
  rest = r.images;
  whole = r.read;
  left = r.read;
  within = omega arith;
  bytes = sym (over_nil out);
  numbers = sym (over_nil answers);
  written = refl;
  answered = refl;
  behind = omega arith;
  room = r.room;
  enough = omega (arith, r.numbers);
  same_out = refl;
  same_answers = refl;
}

module _ {s out₀ answers₀ out answers : List ℕ} {at to k : ℕ} (w : Rewriting s out₀ answers₀ out answers at to k) where
  module _ (h : at < length s) where
    pub following : Next s at w.rest
    following = next-whole s at w.rest h w.left

    -- the next image's answer has room
    pub answer_room : k + 12 ≤ length answers
    answer_room = omega (arith, w.enough, w.same_answers, ap length following.are)

    image_length : length (image_at s at) ≡ word s at
    image_length = length-take-le (word s at) (drop (at + 4) s) (omega (arith, length-drop (at + 4) s, following.within))

    -- as the code cuts it out
    module _ (size : ℕ) (e : size ≡ word s at) where
      pub image_is : take (at + 4 + size - (at + 4)) (drop (at + 4) s) ≡ image_at s at
      image_is = let m : at + 4 + size - (at + 4) ≡ word s at = omega (arith, e) in ap (λ (n : ℕ). take n (drop (at + 4) s)) m

      pub place : Place (take (at + 4 + size - (at + 4)) (drop (at + 4) s)) (take (length out - to) (drop to out)) (take (length answers - k) (drop k answers))
      place = record {
        room = omega (arith, ap length image_is, image_length, length-take (length out - to) (drop to out), length-drop to out, following.within, w.behind, w.room, w.same_out);
        numbers = omega (arith, length-take (length answers - k) (drop k answers), length-drop k answers, answer_room);
      }

      module _ (part answer : List ℕ) (n : ℕ)
          (p : Placed (take (at + 4 + size - (at + 4)) (drop (at + 4) s)) (take (length out - to) (drop to out)) part (take (length answers - k) (drop k answers)) answer n) where
        i : Image
        i = image_at s at

        placed : Placed i (take (length out - to) (drop to out)) part (take (length answers - k) (drop k answers)) answer n
        unfolding i
        placed = rw image_is at p

        one_more : released (w.done ++ i ∷ []) ≡ released w.done ++ frame (handed_back i)
        one_more = released-append w.done (i ∷ []) ∙ ap (λ (x : List ℕ). released w.done ++ x) (append-nil (frame (handed_back i)))

        one_answer : answers_to (w.done ++ i ∷ []) ≡ answers_to w.done ++ answer_to i
        one_answer = answers_append w.done (i ∷ []) ∙ ap (λ (x : List ℕ). answers_to w.done ++ x) (append-nil (answer_to i))

        -- the image's part of the output is no longer than its frame in the release
        pub part_short : n ≤ 4 + size
        unfolding i
        part_short = omega (arith, placed.count, back_shorter i, image_length, e)

        out_next : take to out ++ (part ++ drop (length out - to) (drop to out)) ≡ over (released (w.done ++ i ∷ [])) out₀
        out_next =
            over-part (released w.done) (frame (handed_back i)) out₀ out part to (sym w.written) (omega (arith, w.behind, w.within, w.room, w.same_out)) w.bytes placed.bytes
            ∙ ap (λ (x : List ℕ). over x out₀) (sym one_more)

        answers_next : take k answers ++ (answer ++ drop (length answers - k) (drop k answers)) ≡ over (answers_to (w.done ++ i ∷ [])) answers₀
        answers_next =
            over-part (answers_to w.done) (answer_to i) answers₀ answers answer k (sym w.answered) (omega (arith, answer_room)) w.numbers placed.numbers
            ∙ ap (λ (x : List ℕ). over x answers₀) (sym one_answer)

        pub rewriting_next : Rewriting s out₀ answers₀ (take to out ++ (part ++ drop (length out - to) (drop to out)))
            (take k answers ++ (answer ++ drop (length answers - k) (drop k answers))) (at + 4 + size) (to + n) (k + 12)
        unfolding i
        rewriting_next =
            let a : at + 4 + size ≡ at + 4 + word s at = omega (arith, e) in
            let t : to + n ≡ length (released (w.done ++ i ∷ [])) = omega (arith, w.written, placed.count, ap length one_more, length-append (released w.done) (frame (handed_back i))) in
            let u : k + 12 ≡ length (answers_to (w.done ++ i ∷ [])) = omega (arith, w.answered, ap length one_answer, length-append (answers_to w.done) (answer_to i)) in
            let l : to + n ≤ at + 4 + size = omega (arith, w.behind, part_short) in
            record {
              done = w.done ++ i ∷ [];
              rest = following.others;
              whole = w.whole ∙ ap (λ (x : List Image). Some (w.done ++ x)) following.are ∙ ap Some (sym (append_assoc w.done (i ∷ []) following.others));
              left = ap (λ (x : ℕ). images_of (drop x s)) a ∙ following.read;
              within = omega (arith, following.within, a);
              bytes = out_next;
              numbers = answers_next;
              written = t;
              answered = u;
              behind = l;
              room = w.room;
              enough = omega (arith, w.enough, ap length following.are);
              same_out = ap length out_next ∙ length_over (released (w.done ++ i ∷ [])) out₀ (omega (arith, t, l, following.within, a, w.room));
              same_answers = ap length answers_next ∙ length_over (answers_to (w.done ++ i ∷ [])) answers₀ (omega (arith, u, answer_room, w.same_answers));
            }

  -- at the end all are done
  pub rewriting_end : length s ≤ at
      → (Some to ≡ release_answer s (length out₀) (length answers₀)) × (out ≡ release_output s out₀ (length answers₀)) × (answers ≡ release_answers s (length out₀) answers₀)
  rewriting_end h =
      let n : w.rest ≡ [] = none_left s at w.rest h w.left in
      let e : images_of s ≡ Some w.done = w.whole ∙ ap (λ (x : List Image). Some (w.done ++ x)) n ∙ ap Some (append-nil w.done) in
      let a : admitted s (length out₀) (length answers₀) ≡ Some w.done
      = are_admitted s w.done (length out₀) (length answers₀) e w.room (omega (arith, w.enough, w.answered, answers_length w.done)) in
      let (x, y, z) = written_so s out₀ answers₀ w.done a in
      (ap Some w.written ∙ x, w.bytes ∙ y, w.numbers ∙ z)
