-- `cells::walk::function_at` meets its contract.
use mathlib.Core.Path.{refl}
use native.Mathlib.Nat.{add-sub_cancel_left}
use Rattle.cells.proofs.Spans.{spanned}
use Rattle.cells.proofs.walk.function_at.Goals as goal

pub returns : goal.returns
returns c =
    let a = c.args in
    spanned a.image.now a.at c.requires _ refl refl
    (simp (c.min.ensures, c.half.ensures.0, add-sub_cancel_left))
    (simp (c.min-2.ensures, c.half-2.ensures.0, add-sub_cancel_left))
