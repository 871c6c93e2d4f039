-- Promise: the answer of `pages`: how many bytes are written, or why none are.
use Rattle.std.specs.Prelude.{ℕ, Result}
use Rattle.pages.specs.declared.PagesError.{PagesError}

abbrev pub Paged : Type 0
Paged = Result ℕ PagesError
