-- One image of a release: the rewrite of it in its place is the rewrite of it alone.
use mathlib.Core.Path.{◌≡◌, refl, sym, ◌∙◌, ap}
use mathlib.Core.List.{List, [], ◌++◌, append-nil}
use mathlib.Core.Bool.{true, true≢false}
use Prim.Native.Nat.{ℕ, ◌+◌, ◌-◌, ◌≤◌, min}
use native.Mathlib.Omega.{arith}
use borrow.Author.Tests.{le-leb, leb-true}
use lib.Dec.{eqb, leb}
use lib.ListN.{length, take, drop, length-drop, drop_of_length-le}
use lib.Seq.{take_all, drop_at, length-take-le}
use Rattle.cells.specs.Bytes.{bytes}
use Rattle.cells.specs.Cells.{over}
use Rattle.cells.specs.Check.{max_image}
use Rattle.cells.specs.Refusals.{numbers_of}
use Rattle.cells.specs.declared.refusal.Refusal.{Refusal}
use Rattle.cells.specs.declared.refusal.Refusal.TheVariants.{OutputTooShort}
use Rattle.cells.proofs.Facts.{by_test, and_true}
use Rattle.cells.proofs.Over.{over_nil, over-over}
use Rattle.crystalfold.specs.declared.rules.RuleSet.TheVariants.{Default}
use Rattle.image.specs.Image.{good_length}
use Rattle.passes.specs.Promises.{length_written}
use Rattle.passes.specs.Passes.{pass_bytes, pass_count, pass_check, answer_as, output_as, pass_answer, pass_output}
use Rattle.passes.specs.declared.Pass.TheVariants.{Both}
use Rattle.passes.proofs.Done.{check_good, bytes_shorter, pass_few}
use Rattle.release.specs.Frames.{Image, frame}
use Rattle.release.specs.Release.{outcome, back_as, handed_back, numbers_as}
use Rattle.release.specs.Claim.{NeverFive}
use Rattle.release.specs.Steps.{Small}
use Rattle.release.proofs.Frames.{Byte, byte-all}
use Rattle.release.proofs.Numbers.{Fit, check_fit}
use Rattle.std.specs.Prelude.{Ok, Err}
use Rattle.cells.specs.Checked.{Checked}

-- ---- an output as long as the image is enough; of one that is longer than any image it doesn't matter what is lent

short : (i : Image) → good_length i ≡ true → length i ≤ max_image
short i e = leb-true (length i) max_image (and_true (leb (length i) max_image) _ e).0

same_check : (i : Image) (m : ℕ) → min (length i) max_image ≤ m → pass_check i m ≡ pass_check i (length i)
unfolding pass_check
same_check i m h =
    by_test (good_length i)
    (λ e. rw (le-leb (length i) m (omega (arith, short i e)), le-leb (length i) (length i) (omega arith)) refl)
    (λ e. rw e refl)

-- what is handed back, by the answer of the check
by_check : (i : Image) (u : List ℕ) (a : Checked)
    → output_as a (pass_bytes (Both Default) i) u ≡ over (back_as (answer_as a (length (pass_bytes (Both Default) i)) (pass_count (Both Default) i)) i) u
by_check i u (Ok tt) = refl
by_check i u (Err x) = sym (over_nil u)

length-by_check : (i : Image) (a : Checked)
    → length_written (answer_as a (length (pass_bytes (Both Default) i)) (pass_count (Both Default) i)) ≡ length (back_as (answer_as a (length (pass_bytes (Both Default) i)) (pass_count (Both Default) i)) i)
length-by_check i (Ok tt) = refl
length-by_check i (Err x) = refl

shorter_by_check : (i : Image) (a : Checked) → pass_check i (length i) ≡ a
    → length (back_as (answer_as a (length (pass_bytes (Both Default) i)) (pass_count (Both Default) i)) i) ≤ min (length i) max_image
shorter_by_check i (Ok tt) e =
    let g = ((check_good i (length i)).0 e).0 in
    omega (arith, bytes_shorter (Both Default) i g, g.image.short)
shorter_by_check i (Err x) e = omega arith

small_by_check : (i : Image) (a : Checked) → pass_check i (length i) ≡ a → Fit a → Small (numbers_as (answer_as a (length (pass_bytes (Both Default) i)) (pass_count (Both Default) i)))
small_by_check i (Ok tt) e f =
    let g = ((check_good i (length i)).0 e).0 in
    record { number = omega arith; position = omega (arith, pass_few Default i, g.image.short); detail = omega arith }
small_by_check i (Err x) e f = f.small

five_by_check : (a : Checked) (n count : ℕ) → Fit a → answer_as a n count ≡ Err OutputTooShort → ⊥
five_by_check (Ok tt) n count f e = let z : ◌≡◌ {A = ℕ} 0 1 = cc in absurd (omega arith)
five_by_check (Err x) n count f e =
    let y : x ≡ OutputTooShort = cc in
    true≢false (sym (ap (λ (z : Refusal). eqb (numbers_of z).number 5) y) ∙ f.other)

module _ (i : Image) where
  pub back_length : length_written (outcome i) ≡ length (handed_back i)
  unfolding pass_answer
  back_length = length-by_check i (pass_check i (length i))

  pub back_shorter : length (handed_back i) ≤ min (length i) max_image
  unfolding pass_answer
  back_shorter = shorter_by_check i (pass_check i (length i)) refl

  pub numbers_small : Byte i → Small (numbers_as (outcome i))
  unfolding pass_answer
  numbers_small f = small_by_check i (pass_check i (length i)) refl (check_fit i f)

  module _ (u : List ℕ) (h : min (length i) max_image ≤ length u) where
    pub same_answer : pass_answer (Both Default) i (length u) ≡ outcome i
    unfolding pass_answer
    same_answer = ap (λ (a : Checked). answer_as a (length (pass_bytes (Both Default) i)) (pass_count (Both Default) i)) (same_check i (length u) h)

    pub same-output : pass_output (Both Default) i u ≡ over (handed_back i) u
    unfolding pass_answer pass_output
    same-output = ap (λ (a : Checked). output_as a (pass_bytes (Both Default) i) u) (same_check i (length u) h) ∙ by_check i u (pass_check i (length i))

pub never_five : NeverFive
unfolding pass_answer
never_five i b e = five_by_check (pass_check i (length i)) _ _ (check_fit i (byte-all i b)) e

-- ---- in its place: the image's part of the output begins 4 bytes behind its length

module _ (i : Image) (out : List ℕ) (room : 4 + min (length i) max_image ≤ length out) where
  lent : List ℕ
  lent = take (length out - 4) (drop 4 out)

  lent_is : lent ≡ drop 4 out
  unfolding lent
  lent_is = take_all (length out - 4) (drop 4 out) (omega (arith, length-drop 4 out))

  pub enough_lent : min (length i) max_image ≤ length (take (length out - 4) (drop 4 out))
  unfolding lent
  enough_lent = omega (arith, ap length lent_is, length-drop 4 out)

  -- its length is written over the first 4 bytes, once it stands behind them
  pub frame-placed : (part after : List ℕ) (n : ℕ) → part ≡ pass_output (Both Default) i (take (length out - 4) (drop 4 out)) → n ≡ length (handed_back i)
      → after ≡ over (bytes 4 n) (take 4 out ++ (part ++ drop (length out - 4) (drop 4 out))) → after ≡ over (frame (handed_back i)) out
  unfolding over lent
  frame-placed part after n p e a =
      let l : length (drop 4 out) ≤ length out - 4 = omega (arith, length-drop 4 out) in
      let z : drop (length out - 4) (drop 4 out) ≡ [] = drop_of_length-le (drop 4 out) l in
      let q : part ++ drop (length out - 4) (drop 4 out) ≡ over (handed_back i) (drop 4 out)
      = ap (λ (x : List ℕ). part ++ x) z ∙ append-nil part ∙ p ∙ same-output i (take (length out - 4) (drop 4 out)) enough_lent ∙ ap (over (handed_back i)) lent_is in
      let d : drop 4 (take 4 out ++ (part ++ drop (length out - 4) (drop 4 out))) ≡ part ++ drop (length out - 4) (drop 4 out)
      = drop_at (take 4 out) (part ++ drop (length out - 4) (drop 4 out)) 4 (length-take-le 4 out (omega arith)) in
      a ∙ ap (λ (x : List ℕ). bytes 4 n ++ x) (d ∙ q) ∙ over-over (bytes 4 n) (handed_back i) out ∙ ap (λ (m : ℕ). over (bytes 4 m ++ handed_back i) out) e
