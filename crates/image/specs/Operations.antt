-- Promise: what the two checks promise of their answer r on the image s. Neither is lent anything to write to.
use Rattle.std.specs.Prelude.{◌≡◌, ◌↔◌, List, ℕ, Ok, Option}
use Rattle.cells.specs.Refusals.{numbers_in}
use Rattle.cells.specs.declared.refusal.Numbers.{Numbers}
use Rattle.image.specs.Image.{image_answer, GoodImage}
use Rattle.image.specs.SiteCheck.{site_answer, SitesPass}
use Rattle.cells.specs.Checked.{Checked}

-- the definitions' answers as the document sets them out: number, position and detail
abbrev pub image_reply : List ℕ → Option Numbers
image_reply s = numbers_in (image_answer s)

abbrev pub site_reply : List ℕ → Option Numbers
site_reply s = numbers_in (site_answer s)

pub record ImageChecked (s : List ℕ) (r : Checked) : Type 0 where
  pub answer : r ≡ image_answer s
  pub reply : numbers_in r ≡ image_reply s
  -- good exactly if the length is good and every function's head and cells pass
  pub accepted : (r ≡ Ok tt) ↔ GoodImage s

pub record SiteChecked (s : List ℕ) (r : Checked) : Type 0 where
  pub answer : r ≡ site_answer s
  pub reply : numbers_in r ≡ site_reply s
  -- good exactly if the image check is good and every function passes both validators
  pub accepted : (r ≡ Ok tt) ↔ SitesPass s
