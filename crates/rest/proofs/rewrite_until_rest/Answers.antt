-- `rest::rewrite_until_rest` meets its contract.
use mathlib.Core.Path.{refl, sym}
use native.Mathlib.Omega.{arith}
use lib.Seq.{length-take-le}
use Rattle.std.proofs.lemmas.Result.{err_from_is_err_and}
use Rattle.crystalfold.specs.declared.rules.RuleSet.TheVariants.{Default}
use Rattle.rest.proofs.Answered.{First, Second, rest-refused, first_ready, first_round}
use Rattle.rest.proofs.rewrite_until_rest.Goals as goal
use Rattle.rest.proofs.rewrite_until_rest.Goals.{After-rewrite_functions-first, After-rewrite_functions-second}

pub returns-in_err-check : goal.returns-in_err-check
returns-in_err-check c =
    let p = err_from_is_err_and c.from_residual.result c.from_residual.ensures.1 in
    rw (p.1, p.2) (rest-refused Default c.args.image.now c.args.out.now c.check.ensures c.in_err-check.was)

pub rewrite_functions-first-requires : goal.rewrite_functions-first-requires
rewrite_functions-first-requires c =
    first_ready Default c.args.image.now c.args.out.now c.check.ensures c.in_ok-check.was _ refl

-- ---- after each round
first : (w : After-rewrite_functions-first) → First Default w.args.image.now w.args.out.now w.rewrite_functions-first.new.out w.rewrite_functions-first.result
first w =
    first_round Default w.args.image.now w.args.out.now w.check.ensures w.in_ok-check.was _ _
    refl w.rewrite_functions-first.result w.rewrite_functions-first.ensures

second : (v : After-rewrite_functions-second) → Second Default v.args.image.now v.args.out.now v.rewrite_functions-first.result v.rewrite_functions-second.new.out v.rewrite_functions-second.result
second v =
    (first_round Default v.args.image.now v.args.out.now v.check.ensures v.in_ok-check.was _ _
    refl v.rewrite_functions-first.result v.rewrite_functions-first.ensures).second _ v.rewrite_functions-second.result v.rewrite_functions-second.ensures

pub overflow_mul-work : goal.overflow_mul-work
overflow_mul-work c = omega (arith, (first (goal.at.overflow_mul-work c).After-rewrite_functions-first).most)

pub slice_bounds-work-end : goal.slice_bounds-work-end
slice_bounds-work-end c = (first (goal.at.slice_bounds-work-end c).After-rewrite_functions-first).room

pub slice_bounds-rewrite_functions-end-2 : goal.slice_bounds-rewrite_functions-end-2
slice_bounds-rewrite_functions-end-2 c = sym (length-take-le _ _ (first (goal.at.slice_bounds-rewrite_functions-end-2 c).After-rewrite_functions-first).room)

pub rewrite_functions-second-requires : goal.rewrite_functions-second-requires
rewrite_functions-second-requires c = (first (goal.at.rewrite_functions-second-requires c).After-rewrite_functions-first).ready

pub overflow_mul-result : goal.overflow_mul-result
overflow_mul-result c = omega (arith, (second (goal.at.overflow_mul-result c).After-rewrite_functions-second).most)

pub overflow_add-first : goal.overflow_add-first
overflow_add-first c = omega (arith, (second (goal.at.overflow_add-first c).After-rewrite_functions-second).counts)

pub returns : goal.returns
returns c = rw c.new.ensures (second (goal.at.returns c).After-rewrite_functions-second).done
