-- `fate_in` meets its contract.
use mathlib.Core.Path.{◌∙◌, ap}
use mathlib.Core.List.{List}
use native.Mathlib.Omega.{arith}
use lib.ListN.{get_or}
use Rattle.cells.specs.Cells.{cells}
use Rattle.cells.proofs.Cells.{length-cells}
use Rattle.fates.proofs.Whole.{over_first, length_fates}
use Rattle.fates.specs.Fates.{function_fates}
use Rattle.fates.specs.declared.Fate.{Fate}
use Rattle.fates.specs.declared.Fate.TheVariants.{RepeatedLabel}
use Rattle.fates.proofs.fate_in.Goals as goal

pub returns : goal.returns
returns c =
    let a = c.args in
    let cs = cells a.code.now in
    let es = cells a.events.now in
    ap (λ (xs : List Fate). get_or xs a.k RepeatedLabel) c.function_fates.ensures
    ∙ over_first (function_fates a.first cs es) _ a.k RepeatedLabel
    (omega (arith, c.requires.1, length_fates a.first cs es, length-cells a.code.now, length-cells a.events.now))
