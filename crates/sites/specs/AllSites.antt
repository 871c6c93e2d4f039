-- Promise: the site check of an image's functions, one after another, the first of them at a position.
use Rattle.std.specs.Prelude.{List, [], ◌∷◌, ℕ, ◌+◌, Ok}
use Rattle.cells.specs.Answers.{or_else}
use Rattle.cells.specs.Functions.{Function}
use Rattle.sites.specs.Validators.{site_check}
use Rattle.cells.specs.Checked.{Checked}

abbrev pub sites_answer : ℕ → List Function → Checked
sites_answer position [] = Ok tt
sites_answer position (f ∷ fs) = or_else (site_check position f.code f.events) (sites_answer (position + 1) fs)
