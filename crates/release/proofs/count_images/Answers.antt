-- `release::count_images` meets its contract.
use mathlib.Core.Path.{◌≡◌, sym, ◌∙◌, ap, ap₂}
use mathlib.Core.List.{List}
use Prim.Native.Nat.{ℕ, ◌+◌, ◌≤◌, ◌<◌}
use native.Mathlib.Omega.{arith}
use lib.ListN.{length, drop}
use Rattle.cells.specs.Bytes.{word}
use Rattle.release.specs.Frames.{count_as}
use Rattle.release.proofs.Frames.{counted_start, counted_next, counted_past, counted-all}
use borrow.Author.Rules.{rules}
use Rattle.release.proofs.count_images.Goals as goal
use Rattle.std.specs.Prelude.{Some}

pub loop-left-init : goal.loop-left-init
loop-left-init c = counted_start c.args.release.now

pub returns-in_err-behind : goal.returns-in_err-behind
returns-in_err-behind c =
    let left = c.loop-left.left.now in
    let more : 0 < length left = search rules in
    let short : length left < 4 + word left 0 = omega (arith, c.in_err-behind.ensures.cases) in
    rw c.from_residual.ensures (sym (ap count_as (counted_past c.loop-left.invariant more short)))

pub returns-in_err-others : goal.returns-in_err-others
returns-in_err-others c =
    let left = c.loop-left.left.now in
    let more : 0 < length left = omega (arith, c.in_ok-behind.ensures.cases.4) in
    let short : length left < 4 + word left 0 = omega (arith, c.in_ok-behind.ensures.cases.4, c.in_err-others.ensures.cases, c.word.ensures.0) in
    rw c.from_residual-in_err-others.ensures (sym (ap count_as (counted_past c.loop-left.invariant more short)))

pub loop-left-preserved : goal.loop-left-preserved
loop-left-preserved c =
    let left = c.loop-left.left.now in
    let more : 0 < length left = omega (arith, c.in_ok-behind.ensures.cases.4) in
    let fits : 4 + word left 0 ≤ length left = omega (arith, c.in_ok-behind.ensures.cases.4, c.in_ok-others.ensures.cases.0, c.word.ensures.0) in
    let e : c.in_ok-others.others.now ≡ drop (word left 0) (drop 4 left) =
    c.in_ok-others.ensures.cases.2 ∙ ap₂ (λ (k : ℕ) (t : List ℕ). drop k t) c.word.ensures.0 c.in_ok-behind.ensures.cases.2 in
    rw e (counted_next c.loop-left.invariant more fits)

pub returns : goal.returns
returns c =
    let none : length c.loop-left.left.now ≡ 0 = search rules in
    let (is, e, l) = counted-all c.loop-left.invariant none in
    sym (ap count_as e ∙ ap Some l)
