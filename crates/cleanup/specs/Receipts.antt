-- Inner: the events that lists of the sites of removed cells spare.
use Rattle.std.specs.Prelude.{List, Bool, false, ◌||◌, not, ℕ, eqb, Option, Some, None}
use Rattle.cells.specs.Cells.{Cell}
use Rattle.cells.specs.Lists.{any}
use Rattle.sites.specs.Sites.{event_site}
use Rattle.sites.specs.declared.Which.TheVariants.{Activation, Write}

-- a site is there, and is one of these
abbrev pub among : List ℕ → Option ℕ → Bool
among xs None = false
among xs (Some x) = any (λ (y : ℕ). eqb y x) xs

-- an event with no activation site among the first and no write site among the second
abbrev pub spared : List ℕ → List ℕ → Cell → Bool
spared activations writes e = not (among activations (event_site Activation e) || among writes (event_site Write e))
