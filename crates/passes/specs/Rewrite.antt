-- Promise: the answer of a rewriting operation: the length written and the report, or a refusal.
use Rattle.std.specs.Prelude.{Result}
use Rattle.cells.specs.declared.refusal.Refusal.{Refusal}
use Rattle.passes.specs.declared.Written.{Written}

abbrev pub Rewrite : Type 0
Rewrite = Result Written Refusal
