-- `release::rewrite_images` meets its contract.
use Prim.Native.Nat.{◌+◌, ◌≤◌}
use native.Mathlib.Omega.{arith}
use lib.ListN.{length}
use Rattle.release.proofs.Frames.{Next}
use Rattle.release.proofs.Images.{rewriting_start, following, answer_room, place, part_short, rewriting_next, rewriting_end}
use Rattle.release.proofs.rewrite_images.Goals as goal
use Rattle.release.proofs.rewrite_images.Goals.{After-rewrite_image-to, In-loop-at}

-- in the loop: the next image is whole; what is written is within the output, and there is room for one more answer
next-image : (c : In-loop-at) → Next c.args.release.now c.loop-at.at c.loop-at.invariant.rest
next-image c = following c.loop-at.invariant c.loop-at-test.true

within : (c : In-loop-at) → c.loop-at.to ≤ length c.loop-at.out
within c = let w = c.loop-at.invariant in omega (arith, w.behind, w.within, w.room, w.same_out)

answer-within : (c : In-loop-at) → c.loop-at.k + 12 ≤ length c.loop-at.answers
answer-within c = answer_room c.loop-at.invariant c.loop-at-test.true

-- once it is rewritten
short-part : (r : After-rewrite_image-to) → r.rewrite_image-to.result ≤ 4 + r.word-size.result
short-part r =
    part_short r.loop-at.invariant r.loop-at-test.true r.word-size.result r.word-size.ensures.0 _ _ r.rewrite_image-to.result r.rewrite_image-to.ensures

pub loop-at-init : goal.loop-at-init
loop-at-init c = rewriting_start c.args.release.now c.args.out.now c.args.answers.now c.requires

pub word-size-requires : goal.word-size-requires
word-size-requires c = omega (arith, (next-image c).within)

pub overflow_add-start : goal.overflow_add-start
overflow_add-start c = omega (arith, (next-image (goal.at.overflow_add-start c).In-loop-at).within)

pub overflow_add-end : goal.overflow_add-end
overflow_add-end c = omega (arith, (next-image (goal.at.overflow_add-end c).In-loop-at).within, c.word-size.ensures.0)

pub slice_bounds-rewrite_image-end : goal.slice_bounds-rewrite_image-end
slice_bounds-rewrite_image-end c = omega (arith, (next-image (goal.at.slice_bounds-rewrite_image-end c).In-loop-at).within, c.word-size.ensures.0)

pub slice_bounds-rewrite_image-count-in-loop-at : goal.slice_bounds-rewrite_image-count-in-loop-at
slice_bounds-rewrite_image-count-in-loop-at c = omega (arith, within (goal.at.slice_bounds-rewrite_image-count-in-loop-at c).In-loop-at)

pub slice_bounds-rewrite_image-count-in-loop-at-2 : goal.slice_bounds-rewrite_image-count-in-loop-at-2
slice_bounds-rewrite_image-count-in-loop-at-2 c = omega (arith, answer-within (goal.at.slice_bounds-rewrite_image-count-in-loop-at-2 c).In-loop-at)

pub rewrite_image-to-requires : goal.rewrite_image-to-requires
rewrite_image-to-requires c = place c.loop-at.invariant c.loop-at-test.true c.word-size.result c.word-size.ensures.0

pub overflow_add-to : goal.overflow_add-to
overflow_add-to c = omega (arith, short-part (goal.at.overflow_add-to c).After-rewrite_image-to, within (goal.at.overflow_add-to c).In-loop-at, (next-image (goal.at.overflow_add-to c).In-loop-at).within)

pub overflow_add-k : goal.overflow_add-k
overflow_add-k c = omega (arith, answer-within (goal.at.overflow_add-k c).In-loop-at)

pub loop-at-smaller : goal.loop-at-smaller
loop-at-smaller c = omega (arith, (next-image (goal.at.loop-at-smaller c).In-loop-at).within, c.word-size.ensures.0)

pub loop-at-preserved : goal.loop-at-preserved
loop-at-preserved c =
    rewriting_next c.loop-at.invariant c.loop-at-test.true c.word-size.result c.word-size.ensures.0 _ _ c.rewrite_image-to.result c.rewrite_image-to.ensures

pub shape_of-out : goal.shape_of-out
shape_of-out c = c.loop-at.invariant.same_out

pub shape_of-answers : goal.shape_of-answers
shape_of-answers c = c.loop-at.invariant.same_answers

pub returns : goal.returns
returns c =
    let (x, y, z) = rewriting_end c.loop-at.invariant c.loop-at-test.false in
    record { result_value = x; out_after = y; answers_after = z }
