-- `sites::rules::check_rule` meets its contract.
use mathlib.Core.Path.{◌≡◌, refl, ap, sym, ◌∙◌}
use mathlib.Core.List.{List, []}
use native.Mathlib.Omega.{arith}
use lib.ListN.{length, get_or}
use Rattle.cells.specs.Cells.{Cell, cells}
use Rattle.cells.proofs.Answers.{scan_passes, scan-refuses, scan-ends}
use Rattle.cells.proofs.Cells.{Walked, walk_turn, walk_end}
use Rattle.sites.specs.Numbered.{count_in}
use Rattle.sites.specs.Validators.{judge_by}
use Rattle.sites.proofs.rules.check_rule.Goals as goal
use Rattle.sites.proofs.rules.check_rule.Goals.{At-loop-cell, After-judge}
use Rattle.cells.specs.Checked.{Checked}
use Rattle.std.proofs.lemmas.List.{length_push}
use Rattle.std.proofs.lemmas.Result.{err_from_is_err_and}

-- the cells, and what each is judged by
module _ (l : At-loop-cell) where
  abbrev cs : List Cell
  cs = cells l.args.part.now

  abbrev judged : List Cell → Cell → Checked
  judged _ c = judge_by l.args.rule l.args.position (count_in l.args.sites.now) c

-- the cell that a turn is at, and what it is judged to be
turn : (t : After-judge) → Walked t.args.part.now (length t.loop-cell.yielded) t.in-Some.cell.now t.next.new.self.rest.now
turn t =
    let i = t.loop-cell.invariant in
    let h = t.in-Some.ensures.steps.1 in
    walk_turn t.args.part.now (length t.loop-cell.yielded) i.1 h.0 (h.1 ∙ i.0)

judged-is : (t : After-judge) → judge_by t.args.rule t.args.position (count_in t.args.sites.now) (get_or (cells t.args.part.now) (length t.loop-cell.yielded) []) ≡ t.judge.result
judged-is t = ap (judge_by t.args.rule t.args.position (count_in t.args.sites.now)) (sym (turn t).is) ∙ sym t.judge.ensures

pub loop-cell-init : goal.loop-cell-init
loop-cell-init c = (cc, cc, refl)

pub returns-in_err-judge : goal.returns-in_err-judge
returns-in_err-judge c =
    let t = goal.at.returns-in_err-judge c in
    let l = t.At-loop-cell in
    let p = err_from_is_err_and c.from_residual.result c.from_residual.ensures.1 in
    rw (p.1, p.2) (scan-refuses (judged l) (cs l) (length c.loop-cell.yielded) (turn t.After-judge).inside c.loop-cell.invariant.2 (judged-is t.After-judge ∙ c.in_err-judge.was))

pub loop-cell-preserved : goal.loop-cell-preserved
loop-cell-preserved c =
    let t = goal.at.loop-cell-preserved c in
    let l = t.At-loop-cell in
    let k = turn t.After-judge in
    let n = length_push c.loop-cell.yielded c.in-Some.cell in (
      c.in-Some.ensures.steps.0 ∙ c.loop-cell.invariant.0,
      rw n k.next_is,
      rw n (scan_passes (judged l) (cs l) (length c.loop-cell.yielded) k.inside c.loop-cell.invariant.2 (judged-is t.After-judge ∙ c.in_ok-judge.was)),
    )

pub returns : goal.returns
returns c =
    let l = (goal.at.returns c).At-loop-cell in
    let i = c.loop-cell.invariant in
    let h = c.in-None.ensures.steps.1 in
    scan-ends (judged l) (cs l) (length c.loop-cell.yielded) (walk_end c.args.part.now _ i.1 (omega (arith, h.0, i.0))) i.2
