use Rattle.std.proofs.Common.{◌≡◌, ◌∙◌, ◌+◌, ◌-◌, suc, arith, sym, ap, le_refl}
use Rattle.cases_leaves.specs.Rows.{digit_of}
use Rattle.cases_leaves.proofs.Parsed.{digit_turn, no_digit, number_end}
use Rattle.cases_leaves.proofs.row.number.Goals as goal

pub returns-in_err-get : goal.returns-in_err-get
returns-in_err-get c =
    let a = c.args in
    let e : a.at + a.count - c.loop-i.i ≡ suc (a.at + a.count - (c.loop-i.i + 1)) = omega arith in
    c.from_residual.ensures ∙ no_digit a.line.now c.loop-i.i _ c.loop-i.n _ (rw e at c.loop-i.invariant) (ap digit_of (sym (c.in_err-get.ensures.lookup.4 (le_refl _) 0)))

pub returns-in_err-n : goal.returns-in_err-n
returns-in_err-n c =
    let a = c.args in
    let e : a.at + a.count - c.loop-i.i ≡ suc (a.at + a.count - (c.loop-i.i + 1)) = omega arith in
    c.from_residual-in_err-n.ensures
    ∙ no_digit a.line.now c.loop-i.i _ c.loop-i.n _ (rw e at c.loop-i.invariant) (sym (c.in_err-n.ensures ∙ ap digit_of (c.in_ok-get.ensures.lookup.3.1 0)))

pub loop-i-preserved : goal.loop-i-preserved
loop-i-preserved c =
    let a = c.args in
    let e : a.at + a.count - c.loop-i.i ≡ suc (a.at + a.count - (c.loop-i.i + 1)) = omega arith in
    digit_turn a.line.now c.loop-i.i _ c.loop-i.n _ (rw e at c.loop-i.invariant) _ (sym (c.in_ok-n.ensures ∙ ap digit_of (c.in_ok-get.ensures.lookup.3.1 0)))

pub returns : goal.returns
returns c =
    let a = c.args in
    let e : a.at + a.count - c.loop-i.i ≡ 0 = omega arith in
    number_end a.line.now c.loop-i.i c.loop-i.n _ (rw e at c.loop-i.invariant)
