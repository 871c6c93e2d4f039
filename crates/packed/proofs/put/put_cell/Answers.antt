-- `packed::put::put_cell` meets its contract.
use mathlib.Core.Path.{ap, ◌∙◌}
use mathlib.Core.List.{List}
use Prim.Native.Nat.{ℕ}
use lib.ListN.{take}
use lib.Seq.{length-take-le}
use Rattle.cells.specs.Cells.{over}
use Rattle.cells.proofs.Over.{copied}
use Rattle.packed.proofs.Puts.{own_copy}
use Rattle.packed.proofs.put.put_cell.Goals as goal

pub returns : goal.returns
returns c =
    let s = c.args.s.now in
    c.copy-2.ensures.1 ∙ copied _ c.args.out.now
    ∙ ap (λ (t : List ℕ). over t c.args.out.now) (own_copy (take 16 s) _ _ (length-take-le 16 s c.requires.0) c.copy.ensures.1)
