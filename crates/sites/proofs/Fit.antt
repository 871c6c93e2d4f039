-- What it means that a function passes the site check, by how often each site stands where.
use mathlib.Core.Path.{◌≡◌}
use mathlib.Core.Bool.{true, false, cond}
use mathlib.Core.List.{List}
use Prim.Native.Nat.{ℕ, ◌≤◌}
use Rattle.cells.specs.Cells.{Cell}
use Rattle.cells.specs.Lists.{All}
use Rattle.sites.specs.Sites.{is_store_var, is_write, site_of, event_site, times}
use Rattle.sites.specs.declared.Which.TheVariants.{Activation, Write}
use Rattle.std.specs.Prelude.{Option, Some, None}

-- the write site of a StoreVar
abbrev pub store_site : Cell → Option ℕ
store_site c = cond (is_store_var c) (site_of Write c) None

-- a site is there
abbrev pub There : Option ℕ → Type 0
There s = (x : ℕ) × (s ≡ Some x)

-- a Write event has no activation site; a Borrow event has no write site; a Write event has one
abbrev pub BorrowsAlone : Cell → Type 0
BorrowsAlone e = is_write e ≡ true → event_site Activation e ≡ None

abbrev pub WritesAlone : Cell → Type 0
WritesAlone e = is_write e ≡ false → event_site Write e ≡ None

abbrev pub WriteSited : Cell → Type 0
WriteSited e = is_write e ≡ true → There (event_site Write e)

-- the activation sites: on one StoreVar at most, on no Write event, and on as many events as StoreVars
pub record Paired (cs es : List Cell) : Type 0 where
  pub once : (x : ℕ) → times (site_of Activation) x cs ≤ 1
  pub borrows : All BorrowsAlone es
  pub same : (x : ℕ) → times (event_site Activation) x es ≡ times (site_of Activation) x cs

-- the write sites: on one command at most, on no Borrow event and on every Write event; each command's on an event, a StoreVar's on one only,
-- and each event's on a command
pub record Claimed (cs es : List Cell) : Type 0 where
  pub once : (x : ℕ) → times (site_of Write) x cs ≤ 1
  pub borrows : All WritesAlone es
  pub writes : All WriteSited es
  pub claimed : (x : ℕ) → times (site_of Write) x cs ≤ times (event_site Write) x es
  pub single : (x : ℕ) → 1 ≤ times store_site x cs → times (event_site Write) x es ≤ 1
  pub known : (x : ℕ) → 1 ≤ times (event_site Write) x es → 1 ≤ times (site_of Write) x cs
