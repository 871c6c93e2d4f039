-- `image::check::check_image` meets its contract.
use mathlib.Core.Path.{◌≡◌, sym, ap, ◌∙◌}
use mathlib.Core.List.{List}
use Prim.Native.Nat.{ℕ, ◌+◌, ◌/◌}
use native.Mathlib.Omega.{arith}
use lib.ListN.{length}
use Rattle.std.proofs.lemmas.Result.{err_from_is_err_and}
use Rattle.cells.specs.Answers.{or_else}
use Rattle.cells.specs.Cells.{cells}
use Rattle.cells.specs.Functions.{functions}
use Rattle.cells.specs.declared.walk.Functions.{Functions}
use Rattle.cells.proofs.Walking.{head_taken, cells_taken}
use Rattle.cells.proofs.Answers.{or-good, or-refused}
use Rattle.image.specs.Image.{functions_answer, image_answer}
use Rattle.image.proofs.Steps.{function_turn, image_long, image_uneven, image_even}
use Rattle.image.proofs.check.check_image.Goals as goal
use Rattle.image.proofs.check.check_image.Goals.{At-loop-f, In-Some, After-check_function}

pub returns-then-image-gt-MAX_IMAGE : goal.returns-then-image-gt-MAX_IMAGE
returns-then-image-gt-MAX_IMAGE c = image_long c.args.image.now c.if-image-gt-MAX_IMAGE.true

pub returns-then-image-ne0 : goal.returns-then-image-ne0
returns-then-image-ne0 c = image_uneven c.args.image.now c.if-image-gt-MAX_IMAGE.false c.if-image-ne0.true

-- the length is right, so the answer is that of the functions
evened : (l : At-loop-f) → functions_answer 0 0 (functions (cells l.args.image.now)) ≡ image_answer l.args.image.now
evened l = image_even l.args.image.now l.if-image-gt-MAX_IMAGE.false l.if-image-ne0.false

-- the next function, and what is left behind it
count : (c : In-Some) → c.loop-f.at + (1 + length c.in-Some.f.code.now / 16 + length c.in-Some.f.events.now / 16) + length c.next.new.self.0.now / 16 ≡ length c.args.image.now / 16
count c =
    let f = c.in-Some.f in
    omega (arith, c.loop-f.invariant.1, cells_taken c.loop-f.f-iterator.0.now c.next.new.self.0.now f.head.now f.code.now f.events.now c.in-Some.ensures.steps)

turned : (c : After-check_function)
    → functions_answer 0 0 (functions (cells c.args.image.now)) ≡ or_else c.check_function.result (functions_answer (c.loop-f.position + 1) (c.loop-f.at + (1 + length c.in-Some.f.code.now / 16 + length c.in-Some.f.events.now / 16)) (functions (cells c.next.new.self.0.now)))
turned c =
    let f = c.in-Some.f in
    function_turn c.loop-f.f-iterator.0.now c.next.new.self.0.now f.head.now f.code.now f.events.now c.in-Some.ensures.steps c.loop-f.position c.loop-f.at c.loop-f.invariant.2 c.check_function.ensures

pub loop-f-init : goal.loop-f-init
loop-f-init c =
    let e = ap (λ (it : Functions). it.0.now) c.into_iter-f-iterator.ensures.into_iter_gives ∙ c.of-f-items.ensures in
    (omega arith, omega (arith, ap (λ (s : List ℕ). length s / 16) e), ap (λ (s : List ℕ). functions_answer 0 0 (functions (cells s))) (sym e))

pub check_function-requires : goal.check_function-requires
check_function-requires c =
    let f = c.in-Some.f in (
      head_taken c.loop-f.f-iterator.0.now c.next.new.self.0.now f.head.now f.code.now f.events.now c.in-Some.ensures.steps,
      omega (arith, count c, c.if-image-gt-MAX_IMAGE.false),
    )

pub returns-in_err-check_function : goal.returns-in_err-check_function
returns-in_err-check_function c =
    let p = err_from_is_err_and c.from_residual.result c.from_residual.ensures.1 in
    let e = c.in_err-check_function.was in
    let g = goal.at.returns-in_err-check_function c in
    rw (p.1, p.2) (sym (turned g.After-check_function ∙ or-refused _ e ∙ e) ∙ evened g.At-loop-f)

pub overflow_add-at-in-loop-f-2 : goal.overflow_add-at-in-loop-f-2
overflow_add-at-in-loop-f-2 c = omega (arith, count (goal.at.overflow_add-at-in-loop-f-2 c).In-Some, c.if-image-gt-MAX_IMAGE.false)

pub overflow_add-position : goal.overflow_add-position
overflow_add-position c = omega (arith, count (goal.at.overflow_add-position c).In-Some, c.loop-f.invariant.0, c.if-image-gt-MAX_IMAGE.false)

pub loop-f-preserved : goal.loop-f-preserved
loop-f-preserved c =
    let g = goal.at.loop-f-preserved c in
    (omega (arith, c.loop-f.invariant.0), count g.In-Some, turned g.After-check_function ∙ or-good _ c.in_ok-check_function.was)

pub returns : goal.returns
returns c =
    let none = c.in-None.ensures.steps.0 in
    sym (c.loop-f.invariant.2 ∙ ap (functions_answer c.loop-f.position c.loop-f.at) none) ∙ evened (goal.at.returns c).At-loop-f
