-- `passes::run` meets its contract.
use native.Mathlib.Omega.{arith}
use Rattle.std.proofs.lemmas.Result.{err_from_is_err_and}
use Rattle.passes.proofs.Answered.{run-refused, run_ready, run_short, run-written}
use Rattle.passes.proofs.run.Goals as goal

pub returns-in_err-check : goal.returns-in_err-check
returns-in_err-check c =
    let p = err_from_is_err_and c.from_residual.result c.from_residual.ensures.1 in
    let e = run-refused c.args.pass c.args.image.now c.args.out.now c.check.ensures c.in_err-check.was in
    rw (p.1, p.2) (record { value = e.0; out_after = e.1 })

pub rewrite_functions-total-requires : goal.rewrite_functions-total-requires
rewrite_functions-total-requires c = run_ready c.args.pass c.args.image.now c.args.out.now c.check.ensures c.in_ok-check.was

pub overflow_mul-result : goal.overflow_mul-result
overflow_mul-result c =
    omega (arith, run_short c.args.pass c.args.image.now c.args.out.now c.check.ensures c.in_ok-check.was _ _ c.rewrite_functions-total.ensures)

pub returns : goal.returns
returns c =
    let e = run-written c.args.pass c.args.image.now c.args.out.now c.check.ensures c.in_ok-check.was _ _ c.rewrite_functions-total.ensures in
    rw c.new.ensures (record { value = e.0; out_after = e.1 })
