-- Promise: the answer of `pack` and `unpack`: how many bytes are written, or why none are.
use Rattle.std.specs.Prelude.{ℕ, Result}
use Rattle.packed.specs.declared.PackingError.{PackingError}

abbrev pub Packing : Type 0
Packing = Result ℕ PackingError
