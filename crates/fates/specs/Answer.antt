-- Promise: the fate of every cell of an image, and what `cell_fate` answers (document 02, W6): "It refuses as the site check, then 31" for a head or a
-- position past the end, which have "nothing to tell".
use Rattle.std.specs.Prelude.{ℕ, ◌+◌, List, [], ◌∷◌, ◌++◌, map, length, get_or, Ok, Err, Option, None, Some}
use Rattle.cells.specs.Cells.{cells}
use Rattle.cells.specs.Functions.{Function, functions}
use Rattle.image.specs.SiteCheck.{site_answer}
use Rattle.fates.specs.Fates.{function_fates}
use Rattle.fates.specs.declared.Fate.{Fate}
use Rattle.cells.specs.Checked.{Checked}
use Rattle.fates.specs.Told.{CellFate}
use Rattle.fates.specs.declared.FateError.TheVariants.{Refused, NothingToTell}

-- an entry for each cell of some functions, the first of which has its head at the cell d of the image: none for a head
abbrev pub fates_from : ℕ → List Function → List (Option Fate)
fates_from d [] = []
fates_from d (f ∷ fs) =
    None ∷ (map Some (function_fates (d + 1) f.code f.events) ++ fates_from (d + 1 + length f.code + length f.events) fs)

unfoldable pub image_fates : List ℕ → List (Option Fate)
image_fates s = fates_from 0 (functions (cells s))

-- past the end there is no entry
abbrev pub told : Option Fate → CellFate
told None = Err NothingToTell
told (Some x) = Ok x

abbrev pub told_at : List (Option Fate) → ℕ → CellFate
told_at fates cell = told (get_or fates cell None)

-- the site check of the whole image first
abbrev pub or_tell : Checked → CellFate → CellFate
or_tell (Ok tt) answer = answer
or_tell (Err x) answer = Err (Refused x)

unfoldable pub fate_answer : List ℕ → ℕ → CellFate
fate_answer s cell = or_tell (site_answer s) (told_at (image_fates s) cell)
