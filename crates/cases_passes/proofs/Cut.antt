-- The lent bytes of a release, cut in two: the answers are copied out and back; what is answered.
use Prim.Native.Nat.{ℕ, ◌+◌, ◌*◌, ◌-◌, ◌≤◌}
use mathlib.Core.Path.{◌≡◌, refl, sym, ◌∙◌, ap, ap₂}
use mathlib.Core.Bool.{Bool, true, false, cond}
use mathlib.Core.List.{List, [], ◌++◌, append-nil}
use native.Mathlib.Omega.{arith}
use borrow.Author.Tests.{leb-true}
use lib.Dec.{leb}
use lib.ListN.{length, take, drop, length-append, length-take, length-drop, drop_of_length-le}
use lib.Seq.{take-length, take_all, take-append_seam}
use Rattle.cells.specs.Refusals.{numbered}
use Rattle.release.specs.Frames.{Image, images_of, count_as}
use Rattle.release.specs.Release.{with_room, admitted, answer_as, release_answer, release_output, release_answers}
use Rattle.cases_passes.specs.Operations.{good_reply, refused_reply, images_in, release_reply, parts_reply, parts_output}
use Rattle.cases_passes.specs.declared.operation.Reply.{Reply}
use Rattle.std.specs.Prelude.{Option, unwrap_or, Some, None}

-- ---- the two parts

-- as the code cuts the second one out
abbrev behind : ℕ → List ℕ → List ℕ
behind cut l = take (length l - cut) (drop cut l)

behind_is : (cut : ℕ) (l : List ℕ) → behind cut l ≡ drop cut l
behind_is cut l = take_all (length l - cut) (drop cut l) (omega (arith, length-drop cut l))

-- a copy over a list of the same length
whole_copy : (xs ys : List ℕ) → length xs ≡ length ys → take (length xs) xs ++ drop (length xs) ys ≡ xs
whole_copy xs ys e =
    let l : length ys ≤ length xs = omega arith in
    ap₂ (λ (u v : List ℕ). u ++ v) (take-length xs) (drop_of_length-le ys l) ∙ append-nil xs

module _ (s lent answers : List ℕ) (cut : ℕ) (fit : cut + length answers ≡ length lent) where
  pub first-length : cut ≡ length (take cut lent)
  first-length = omega (arith, length-take cut lent)

  -- the answers' buffer is a copy
  module _ (copy : List ℕ) (e : copy ≡ take (length (behind cut lent)) (behind cut lent) ++ drop (length (behind cut lent)) answers) where
    copy_is : copy ≡ drop cut lent
    copy_is =
        let l : length (behind cut lent) ≡ length answers = omega (arith, ap length (behind_is cut lent), length-drop cut lent) in
        e ∙ whole_copy (behind cut lent) answers l ∙ behind_is cut lent

    copy_length : length copy ≡ length lent - cut
    copy_length = ap length copy_is ∙ length-drop cut lent

    pub parts_answer : (r : Option ℕ) → r ≡ release_answer s (length (take cut lent)) (length copy) → r ≡ release_answer s cut (length lent - cut)
    parts_answer r f = f ∙ ap₂ (release_answer s) (sym first-length) copy_length

    module _ (numbers : List ℕ) (f : numbers ≡ release_answers s (length (take cut lent)) copy) where
      pub parts_numbers : numbers ≡ release_answers s cut (drop cut lent)
      parts_numbers = f ∙ ap₂ (release_answers s) (sym first-length) copy_is

      -- copied back behind the output, which is as long as it was
      pub parts_bytes : (out back : List ℕ) → length out ≡ length (take cut lent) → length numbers ≡ length copy → out ≡ release_output s (take cut lent) (length copy)
          → back ≡ take (length numbers) numbers ++ drop (length numbers) (behind cut (out ++ drop cut lent))
          → take cut (out ++ drop cut lent) ++ (back ++ drop (length (out ++ drop cut lent) - cut) (drop cut (out ++ drop cut lent))) ≡ parts_output s cut lent
      unfolding parts_output
      parts_bytes out back l m g h =
          let all = out ++ drop cut lent in
          let n : length all ≡ length lent = omega (arith, length-append out (drop cut lent), length-drop cut lent, first-length, fit) in
          let k : length out ≡ cut = omega (arith, first-length) in
          let t : take cut all ≡ out = ap (λ (j : ℕ). take j all) (sym k) ∙ take-append_seam out (drop cut lent) in
          let d : length numbers ≡ length (behind cut all) = omega (arith, ap length (behind_is cut all), length-drop cut all, copy_length) in
          let b : back ≡ release_answers s cut (drop cut lent) = h ∙ whole_copy numbers (behind cut all) d ∙ parts_numbers in
          let i : length (drop cut all) ≤ length all - cut = omega (arith, length-drop cut all) in
          let z : drop (length all - cut) (drop cut all) ≡ [] = drop_of_length-le (drop cut all) i in
          let o : out ≡ release_output s (take cut lent) (length lent - cut) = g ∙ ap (release_output s (take cut lent)) copy_length in
          ap₂ (λ (u v : List ℕ). u ++ v) (t ∙ o) (ap₂ (λ (u v : List ℕ). u ++ v) b z ∙ append-nil (release_answers s cut (drop cut lent)))

-- ---- the images

pub images_counted : (o : Option (List Image)) → unwrap_or (count_as o) 0 ≡ images_in o
images_counted None = refl
images_counted (Some is) = refl

room_for : (is : List Image) (k w : ℕ) (t : Bool) → leb (12 * length is) k ≡ t → Some w ≡ answer_as (cond t (Some is) None) → 12 * length is ≤ k
room_for is k w true h e = leb-true (12 * length is) k h
room_for is k w false h e = let z : ◌≡◌ {A = ℕ} 0 1 = cc in absurd (omega arith)

room_in_lem : (t : Bool) (o : Option (List Image)) (k w : ℕ) → Some w ≡ answer_as (cond t (with_room k o) None) → 12 * images_in o ≤ k
room_in_lem false o k w e = let z : ◌≡◌ {A = ℕ} 0 1 = cc in absurd (omega arith)
room_in_lem true None k w e = omega arith
room_in_lem true (Some is) k w e = room_for is k w (leb (12 * length is) k) refl e

-- ---- the answer

module _ (s : List ℕ) (cut n k : ℕ) (c : cut ≡ n - k) (r : Option ℕ) (e : r ≡ release_answer s cut (n - cut)) where
  -- all answers end within the lent bytes
  pub answers_end : (w : ℕ) → r ≡ Some w → 12 * images_in (images_of s) ≤ n - cut
  unfolding release_answer admitted
  answers_end w f = room_in_lem (leb (length s) cut) (images_of s) (n - cut) w (sym f ∙ e)

  reply_as : (a : Option ℕ) → r ≡ a → release_reply cut (images_of s) a ≡ parts_reply s (n - k) n
  unfolding parts_reply
  reply_as a f = ap (release_reply cut (images_of s)) (sym f ∙ e) ∙ ap (λ (j : ℕ). parts_reply s j n) c

  pub reply-written : (w i : ℕ) (t : Reply) → r ≡ Some w → i ≡ images_in (images_of s) → t ≡ good_reply (cut + 12 * i) w false → t ≡ parts_reply s (n - k) n
  reply-written w i t f g h = h ∙ ap (λ (j : ℕ). good_reply (cut + 12 * j) w false) g ∙ reply_as (Some w) f

  pub reply-refused : (t : Reply) → r ≡ None → t ≡ refused_reply (numbered 33 0 0) → t ≡ parts_reply s (n - k) n
  reply-refused t f h = h ∙ reply_as None f

  pub output_as_lem : (lent after : List ℕ) → after ≡ parts_output s cut lent → after ≡ parts_output s (n - k) lent
  output_as_lem lent after f = f ∙ ap (λ (j : ℕ). parts_output s j lent) c
