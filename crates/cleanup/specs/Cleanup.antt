-- Promise: cleanup of a function: its instruction cells, its events and the count (document 01, module 4).
use Rattle.std.specs.Prelude.{ℕ, ◌+◌, ◌-◌, List, Bool, false, ◌||◌, not, length, Option, Some, None}
use Rattle.cells.specs.Cells.{Cell}
use Rattle.cells.specs.Functions.{Function, new_head}
use Rattle.cells.specs.Lists.{only}
use Rattle.cells.specs.View.{view}
use Rattle.sites.specs.Sites.{site_of, event_site, stands}
use Rattle.sites.specs.declared.Which.{Which}
use Rattle.sites.specs.declared.Which.TheVariants.{Activation, Write}
use Rattle.cleanup.specs.Sweeps.{remove_duplicate_consecutive_labels, remove_unreachable_until_label, remove_noop_jumps, remove_redundant_consecutive_loads, cleanup, removed}

-- a site is there, and stands on one of the cells gone
abbrev pub on_gone : Which → List Cell → Option ℕ → Bool
on_gone w gone None = false
on_gone w gone (Some x) = stands (site_of w) x gone

-- an event goes with its activation site, and with its write site
abbrev pub goes : Which → List Cell → Cell → Bool
goes w gone e = on_gone w gone (event_site w e)

abbrev pub stays : List Cell → Cell → Bool
stays gone e = not (goes Activation gone e || goes Write gone e)

-- the instruction cells that cleanup leaves
unfoldable pub clean_code : List Cell → List Cell
clean_code cs = cleanup view cs

-- the events es that it leaves of a function with the instruction cells cs
unfoldable pub clean_events : List Cell → List Cell → List Cell
clean_events cs es = only (stays (removed view cs)) es

-- each removed instruction counts 1, sweep by sweep
abbrev pub fewer : List Cell → List Cell → ℕ
fewer p q = length p - length q

unfoldable pub clean_count : List Cell → ℕ
clean_count p =
    let p₁ : List Cell = remove_duplicate_consecutive_labels view p in
    let p₂ : List Cell = remove_unreachable_until_label view p₁ in
    let p₃ : List Cell = remove_noop_jumps view p₂ in
    let p₄ : List Cell = remove_redundant_consecutive_loads view p₃ in
    fewer p p₁ + fewer p₁ p₂ + fewer p₂ p₃ + fewer p₃ p₄

-- the function handed back: its head with the new counts, its instruction cells, its event cells
unfoldable pub clean_function : Function → Function
clean_function f =
    let cs : List Cell = clean_code f.code in
    let es : List Cell = clean_events f.code f.events in
    record { head = new_head f.head (length cs) (length es); code = cs; events = es }
