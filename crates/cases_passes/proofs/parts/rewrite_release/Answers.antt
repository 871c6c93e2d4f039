use Prim.Native.Nat.{◌+◌, ◌-◌, ◌*◌, ◌≤◌}
use native.Mathlib.Omega.{arith}
use lib.ListN.{length}
use Rattle.cases_passes.proofs.Marked.{part}
use Rattle.cases_passes.proofs.Cut.{answers_end, reply-written, reply-refused, output_as_lem}
use Rattle.cases_passes.proofs.parts.rewrite_release.Goals as goal
use Rattle.cases_passes.proofs.parts.rewrite_release.Goals.{After-count}

pub rewrite_within-requires : goal.rewrite_within-requires
rewrite_within-requires c =
    let p = part (length c.args.lent.now - c.saturating_sub-cut.result) c.zeros-space.result (omega arith) in
    omega arith

-- where the answers end
ends : (c : After-count) → c.saturating_sub-cut.result + 12 * c.count.result ≤ length c.args.lent.now
ends c =
    let a = c.args in
    omega (arith, answers_end a.release.now c.saturating_sub-cut.result (length a.lent.now) a.k c.saturating_sub-cut.ensures _ c.rewrite_within.ensures.value _ c.in-Some.is, c.count.ensures, c.saturating_sub-cut.ensures)

pub overflow_mul-count : goal.overflow_mul-count
overflow_mul-count c = omega (arith, ends (goal.at.overflow_mul-count c).After-count)

pub overflow_add-cut : goal.overflow_add-cut
overflow_add-cut c = omega (arith, ends (goal.at.overflow_add-cut c).After-count)

pub returns-in-Some : goal.returns-in-Some
returns-in-Some c =
    let a = c.args in
    let s = a.release.now in
    let lent = a.lent.now in
    let e = c.rewrite_within.ensures in
    record {
      value = reply-written s c.saturating_sub-cut.result (length lent) a.k c.saturating_sub-cut.ensures _ e.value _ _ _ c.in-Some.is c.count.ensures c.good.ensures;
      lent_after = output_as_lem s c.saturating_sub-cut.result (length lent) a.k c.saturating_sub-cut.ensures _ e.value lent _ e.lent_after;
    }

pub returns-in-None : goal.returns-in-None
returns-in-None c =
    let a = c.args in
    let s = a.release.now in
    let lent = a.lent.now in
    let e = c.rewrite_within.ensures in
    record {
      value = reply-refused s c.saturating_sub-cut.result (length lent) a.k c.saturating_sub-cut.ensures _ e.value _ c.in-None.is c.refused.ensures;
      lent_after = output_as_lem s c.saturating_sub-cut.result (length lent) a.k c.saturating_sub-cut.ensures _ e.value lent _ e.lent_after;
    }

pub slice_bounds-rewrite_within-end : goal.slice_bounds-rewrite_within-end
slice_bounds-rewrite_within-end c = part _ _ (omega arith)
