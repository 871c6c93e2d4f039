use Prim.Native.Nat.{◌+◌}
use native.Mathlib.Omega.{arith}
use Rattle.cases_passes.proofs.Marked.{part}
use Rattle.cases_passes.proofs.lent.agrees.Goals as goal

pub agrees_within-requires : goal.agrees_within-requires
agrees_within-requires c =
    let n = c.args.room + 64 in
    let p = part n c.zeros-out.result (omega arith) in
    let q = part n c.zeros-model.result (omega arith) in
    (omega arith, omega arith, omega arith)

pub returns : goal.returns
returns c = rw (part (c.args.room + 64) c.zeros-out.result (omega arith)) c.agrees_within.ensures.variant

pub slice_bounds-agrees_within-end : goal.slice_bounds-agrees_within-end
slice_bounds-agrees_within-end c = part _ _ (omega arith)

pub slice_bounds-agrees_within-end-2 : goal.slice_bounds-agrees_within-end-2
slice_bounds-agrees_within-end-2 c = part _ _ (omega arith)
