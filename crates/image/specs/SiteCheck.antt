-- Promise: the site check (document 01, 'Answers of the operations'): as the image check, then both validators function by function.
use Rattle.std.specs.Prelude.{ℕ, ◌≡◌, List, Ok}
use Rattle.cells.specs.Answers.{or_else}
use Rattle.cells.specs.Cells.{cells}
use Rattle.cells.specs.Functions.{Function, functions}
use Rattle.cells.specs.Lists.{All}
pub use Rattle.sites.specs.AllSites.{sites_answer}
use Rattle.sites.specs.Validators.{validate_activation_sites, validate_write_sites}
use Rattle.image.specs.Image.{image_answer, GoodImage}
use Rattle.cells.specs.Checked.{Checked}

unfoldable pub site_answer : List ℕ → Checked
site_answer s = or_else (image_answer s) (sites_answer 0 (functions (cells s)))

-- ---- what passes

-- both validators pass the function, whatever its position
pub record GoodSites (f : Function) : Type 0 where
  pub activation : (position : ℕ) → validate_activation_sites position f.code f.events ≡ Ok tt
  pub write : (position : ℕ) → validate_write_sites position f.code f.events ≡ Ok tt

pub record SitesPass (s : List ℕ) : Type 0 where
  pub image : GoodImage s
  pub sites : All GoodSites (functions (cells s))
