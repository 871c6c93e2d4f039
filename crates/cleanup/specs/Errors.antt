-- Promise: what the Rust's other errors of cleanup test, once the validators have passed.
use Rattle.std.specs.Prelude.{List, not, ℕ, ◌-◌, length}
use Rattle.cells.specs.Cells.{Cell}
use Rattle.cells.specs.Lists.{tally, only}
use Rattle.cells.specs.View.{view}
use Rattle.sites.specs.Sites.{site_of, has_site}
use Rattle.sites.specs.declared.Which.{Which}
use Rattle.sites.specs.declared.Which.TheVariants.{Activation}
use Rattle.cleanup.specs.Sweeps.{removed}
use Rattle.cleanup.specs.Cleanup.{goes}

-- the Rust removes events in two steps, first by activation site, then by write site
abbrev pub retain : Which → List Cell → List Cell → List Cell
retain w gone es = only (λ (e : Cell). not (goes w gone e)) es

-- how many activation sites were removed; how many events the first step removes
abbrev pub sites_removed : List Cell → ℕ
sites_removed cs = tally (λ (c : Cell). has_site (site_of Activation c)) (removed view cs)

abbrev pub events_removed : List Cell → List Cell → ℕ
events_removed cs es = length es - length (retain Activation (removed view cs) es)
