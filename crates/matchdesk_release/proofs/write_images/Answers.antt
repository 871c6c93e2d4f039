use mathlib.Core.Path.{sym}
use native.Mathlib.Omega.{arith}
use Rattle.matchdesk_release.proofs.Whole.{writing_start, following, writing_next}
use borrow.Author.Rules.{rules}
use Rattle.matchdesk_release.proofs.write_images.Goals as goal

pub loop-at-init : goal.loop-at-init
loop-at-init g c = writing_start c.args.release.now _ _ c.requires c.zeros-frame.ensures c.zeros-line.ensures

pub word-size-requires : goal.word-size-requires
word-size-requires g c = omega (arith, (following c.loop-at.invariant c.loop-at-test.true).within)

pub overflow_add-start : goal.overflow_add-start
overflow_add-start g c = omega (arith, (following c.loop-at.invariant c.loop-at-test.true).within)

pub overflow_add-end : goal.overflow_add-end
overflow_add-end g c = omega (arith, (following c.loop-at.invariant c.loop-at-test.true).within, c.word-size.ensures.0)

pub slice_bounds-say_image-end : goal.slice_bounds-say_image-end
slice_bounds-say_image-end g c = omega (arith, (following c.loop-at.invariant c.loop-at-test.true).within, c.word-size.ensures.0)

pub slice_bounds-say_image-end-in-loop-at : goal.slice_bounds-say_image-end-in-loop-at
slice_bounds-say_image-end-in-loop-at g c = sym c.loop-at.invariant.for_frame

pub slice_bounds-say_image-end-in-loop-at-2 : goal.slice_bounds-say_image-end-in-loop-at-2
slice_bounds-say_image-end-in-loop-at-2 g c = sym c.loop-at.invariant.for_line

pub say_image-said-requires : goal.say_image-said-requires
say_image-said-requires g c = let w = c.loop-at.invariant in (omega (arith, w.for_frame), omega (arith, w.for_line))

pub slice_bounds-frame-end : goal.slice_bounds-frame-end
slice_bounds-frame-end g c = c.say_image-said.ensures.prefix_len.0.0

pub slice_bounds-write_all-end : goal.slice_bounds-write_all-end
slice_bounds-write_all-end g c = c.say_image-said.ensures.prefix_len.0.1

pub slice_bounds-line-end : goal.slice_bounds-line-end
slice_bounds-line-end g c = c.say_image-said.ensures.prefix_len.1.0

pub slice_bounds-write_all-end-in-loop-at : goal.slice_bounds-write_all-end-in-loop-at
slice_bounds-write_all-end-in-loop-at g c = c.say_image-said.ensures.prefix_len.1.1

pub overflow_add-place : goal.overflow_add-place
overflow_add-place g c = let w = c.loop-at.invariant in omega (arith, w.few, w.within)

pub loop-at-smaller : goal.loop-at-smaller
loop-at-smaller g c = omega (arith, (following c.loop-at.invariant c.loop-at-test.true).within, c.word-size.ensures.0)

pub loop-at-preserved : goal.loop-at-preserved
loop-at-preserved g c =
    let w = c in
    writing_next w.loop-at.invariant w.loop-at-test.true w.word-size.result _ _ w.word-size.ensures.0 (search rules) (search rules)
