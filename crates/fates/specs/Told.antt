-- Promise: what is answered of a cell: its fate, or why none is told.
use Rattle.std.specs.Prelude.{Result}
use Rattle.fates.specs.declared.Fate.{Fate}
use Rattle.fates.specs.declared.FateError.{FateError}

abbrev pub CellFate : Type 0
CellFate = Result Fate FateError
