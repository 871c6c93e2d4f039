-- Promise: the answer of the sealing check: nothing stands against it, or the site check's refusal, or a repeated number.
use Rattle.std.specs.Prelude.{Result}
use Rattle.sealing.specs.declared.SealingError.{SealingError}

abbrev pub Sealing : Type 0
Sealing = Result Unit SealingError
