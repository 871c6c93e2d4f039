-- The Rust's own tests for 13, 14 and 24 to 26, where document 01 says them in other words.
use mathlib.Core.List.{List, []}
use mathlib.Core.Bool.{Bool, false, cond, ◌&&◌, ◌||◌, not}
use Prim.Native.Nat.{ℕ}
use lib.Dec.{eqb}
use Rattle.cells.specs.Answers.{scan}
use Rattle.cells.specs.Cells.{Cell}
use Rattle.cells.specs.Lists.{any, tally}
use Rattle.cells.specs.declared.refusal.Refusal.TheVariants.{ActivationSiteOnWrite, ActivationSiteClaimedTwice}
use Rattle.sites.specs.Sites.{is_write, site_of, event_site, is_site, stands, has_site}
use Rattle.sites.specs.declared.Which.TheVariants.{Activation, Write}
use Rattle.std.specs.Prelude.{Option, Some, None, Ok, Err}
use Rattle.cells.specs.Checked.{Checked}

-- a site is there, and stands on one of the cells; is there, and stands on none
abbrev pub met : (Cell → Option ℕ) → List Cell → Option ℕ → Bool
met f cs None = false
met f cs (Some x) = stands f x cs

abbrev pub unmet : (Cell → Option ℕ) → List Cell → Option ℕ → Bool
unmet f cs None = false
unmet f cs (Some x) = not (stands f x cs)

-- 13: the Rust looks among the Borrow events before
abbrev pub is_borrow_of : ℕ → Cell → Bool
is_borrow_of x e = not (is_write e) && is_site x (event_site Activation e)

abbrev pub judge_borrow : ℕ → List Cell → Bool → Option ℕ → Checked
judge_borrow position before write None = Ok tt
judge_borrow position before write (Some x) =
    cond write (Err (ActivationSiteOnWrite position x))
    (cond (any (is_borrow_of x) before) (Err (ActivationSiteClaimedTwice position x)) (Ok tt))

abbrev pub rust_activation : ℕ → List Cell → Checked
rust_activation position es =
    scan (λ (before : List Cell) (e : Cell). judge_borrow position before (is_write e) (event_site Activation e)) [] es

-- 14: a StoreVar's site that is on no event; an event's that is on no StoreVar
abbrev pub store_unmet : List Cell → List Cell → Bool
store_unmet cs es = any (λ (c : Cell). unmet (event_site Activation) es (site_of Activation c)) cs

abbrev pub event_unmet : List Cell → List Cell → Bool
event_unmet cs es = any (λ (e : Cell). unmet (site_of Activation) cs (event_site Activation e)) es

-- the two sets differ; the Rust asks for as many sites on both sides and for every StoreVar's on an event
abbrev pub sets_differ : List Cell → List Cell → Bool
sets_differ cs es = store_unmet cs es || event_unmet cs es

abbrev pub rust_differ : List Cell → List Cell → Bool
rust_differ cs es =
    not (eqb (tally (λ (c : Cell). has_site (site_of Activation c)) cs) (tally (λ (e : Cell). has_site (event_site Activation e)) es))
    || store_unmet cs es

-- 24 to 26: the Rust counts the Write events of a site
abbrev pub write_events : ℕ → List Cell → ℕ
write_events x es = tally (λ (e : Cell). is_write e && is_site x (event_site Write e)) es
