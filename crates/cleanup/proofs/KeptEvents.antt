-- The events that stay, by the cells that are left: each of an event's sites stands on one of them.
use mathlib.Core.List.{List}
use mathlib.Core.Bool.{Bool, true, ◌&&◌, not}
use lib.Dec.{eqb}
use Rattle.cells.specs.Cells.{Cell}
use Rattle.sites.specs.Sites.{site_of, event_site, times}
use Rattle.sites.specs.declared.Which.{Which}
use Rattle.sites.specs.declared.Which.TheVariants.{Activation, Write}
use Rattle.std.specs.Prelude.{ℕ, Option, Some, None}

abbrev pub kept_site : Which → List Cell → Option ℕ → Bool
kept_site w left None = true
kept_site w left (Some x) = not (eqb (times (site_of w) x left) 0)

unfoldable pub kept_event : List Cell → Cell → Bool
kept_event left e = kept_site Activation left (event_site Activation e) && kept_site Write left (event_site Write e)
