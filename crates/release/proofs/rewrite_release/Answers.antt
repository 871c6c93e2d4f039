-- `release::rewrite_release` meets its contract.
use Prim.Native.Nat.{ℕ}
use mathlib.Core.List.{List}
use mathlib.Core.Path.{◌≡◌, sym, ◌∙◌}
use native.Mathlib.Omega.{arith}
use lib.ListN.{length}
use Rattle.release.specs.Frames.{images_of, count_as}
use Rattle.release.proofs.Images.{refused_so, too_short, past_end_none, few_numbers, no_images, CountedImages, some_images}
use Rattle.release.proofs.Done.{release_done}
use borrow.Author.Rules.{rules}
use Rattle.release.proofs.rewrite_release.Goals as goal
use Rattle.std.specs.Prelude.{Option, Some, None}

pub returns-then-out-release : goal.returns-then-out-release
returns-then-out-release c =
    let s = c.args.release.now in
    let out = c.args.out.now in
    let answers = c.args.answers.now in
    release_done s out out answers answers None (λ i. (c.type_inv.release i).fits) (refused_so s out answers (too_short s (length out) (length answers) (omega (arith, c.if-out-release.true))))

pub returns-in_err-count : goal.returns-in_err-count
returns-in_err-count c =
    let s = c.args.release.now in
    let out = c.args.out.now in
    let answers = c.args.answers.now in
    let e = no_images (images_of s) (sym c.count_images.ensures ∙ c.in_err-count.was) in
    rw c.from_residual.ensures (release_done s out out answers answers None (λ i. (c.type_inv.release i).fits) (refused_so s out answers (past_end_none s (length out) (length answers) e)))

-- the images that were counted
images : (s : List ℕ) {f : Option ℕ} {n : ℕ} → f ≡ count_as (images_of s) → f ≡ Some n → CountedImages s n
images s {n = n} e g = some_images (images_of s) n (sym e ∙ g)

pub returns-then-answers-count : goal.returns-then-answers-count
returns-then-answers-count c =
    let s = c.args.release.now in
    let out = c.args.out.now in
    let answers = c.args.answers.now in
    let (is, e, l) = images s c.count_images.ensures c.in_ok-count.was in
    release_done s out out answers answers None (λ i. (c.type_inv.release i).fits) (refused_so s out answers (few_numbers s is (length out) (length answers) e (omega (arith, l, c.if-answers-count.true))))

pub rewrite_images-requires : goal.rewrite_images-requires
rewrite_images-requires c =
    let (is, e, l) = images c.args.release.now c.count_images.ensures c.in_ok-count.was in
    record { images = is; read = e; room = search rules; numbers = omega (arith, l, c.if-answers-count.false) }

pub returns : goal.returns
returns c =
    let r = c.rewrite_images.ensures in
    release_done c.args.release.now c.args.out.now _ c.args.answers.now _ (Some c.rewrite_images.result) (λ i. (c.type_inv.release i).fits) (r.result_value, r.out_after, r.answers_after)
