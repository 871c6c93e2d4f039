-- Promise: where cells have their sites (document 01, 'The cell image'): StoreVar (4D) its activation site at byte 5 and its write site at byte 10,
-- MakeRecord (32) its write site at byte 7; an event its activation site at byte 1 and its write site at byte 6.
use Rattle.std.specs.Prelude.{ℕ, ◌+◌, List, [], ◌∷◌, Bool, true, false, cond, ◌||◌, eqb, Option, Some, None}
use Rattle.cells.specs.Bytes.{byte, word}
use Rattle.cells.specs.Cells.{Cell}
use Rattle.cells.specs.Lists.{any, tally}
use Rattle.sites.specs.declared.Which.{Which}
use Rattle.sites.specs.declared.Which.TheVariants.{Activation, Write}
use Rattle.cells.specs.declared.walk.Part.{Part}
use Rattle.cells.specs.declared.walk.Part.TheVariants.{Code, Events}

abbrev pub is_store_var : Cell → Bool
is_store_var c = eqb (byte c 0) 0x4d

abbrev pub is_make_record : Cell → Bool
is_make_record c = eqb (byte c 0) 0x32

-- StoreVar or MakeRecord: the commands that may have a site
abbrev pub write_capable : Cell → Bool
write_capable c = is_store_var c || is_make_record c

-- event kinds are 0 Borrow and 1 Write
abbrev pub is_write : Cell → Bool
is_write e = eqb (byte e 0) 1

-- a presence byte and 4 bytes
abbrev pub site_at : Cell → ℕ → Option ℕ
site_at c at = cond (eqb (byte c at) 1) (Some (word c (at + 1))) None

-- a command's site
unfoldable pub site_of : Which → Cell → Option ℕ
site_of Activation c = cond (is_store_var c) (site_at c 5) None
site_of Write c = cond (is_store_var c) (site_at c 10) (cond (is_make_record c) (site_at c 7) None)

-- an event's site
unfoldable pub event_site : Which → Cell → Option ℕ
event_site Activation e = site_at e 1
event_site Write e = site_at e 6

unfoldable pub site_by : Part → Which → Cell → Option ℕ
site_by Code w c = site_of w c
site_by Events w c = event_site w c

-- a site is there
abbrev pub has_site : Option ℕ → Bool
has_site None = false
has_site (Some x) = true

-- the site is there, and is x
abbrev pub is_site : ℕ → Option ℕ → Bool
is_site x None = false
is_site x (Some y) = eqb y x

-- the site x stands on one of the cells; on how many
abbrev pub stands : (Cell → Option ℕ) → ℕ → List Cell → Bool
stands f x cs = any (λ (c : Cell). is_site x (f c)) cs

abbrev pub times : (Cell → Option ℕ) → ℕ → List Cell → ℕ
times f x cs = tally (λ (c : Cell). is_site x (f c)) cs

-- the sites on cells, those that are there, in order
abbrev pub with_site : Option ℕ → List ℕ → List ℕ
with_site None xs = xs
with_site (Some x) xs = x ∷ xs

abbrev pub sites_on : (Cell → Option ℕ) → List Cell → List ℕ
sites_on f [] = []
sites_on f (c ∷ cs) = with_site (f c) (sites_on f cs)
