-- Promise: the answer of a check: nothing stands against it, or a refusal.
use Rattle.std.specs.Prelude.{Result}
use Rattle.cells.specs.declared.refusal.Refusal.{Refusal}

abbrev pub Checked : Type 0
Checked = Result Unit Refusal
