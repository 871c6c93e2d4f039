-- Promise: what the rewrite of one function preserves (document 01, 'Site check' and 'the Rust's other errors'), beside its runs: for a function whose
-- cells pass the image check and whose sites pass both validators, and for any rules of the fold.
use Rattle.std.specs.Prelude.{◌≡◌, true, [], ℕ, ◌+◌, ◌-◌, ◌≤◌, length, Ok}
use Rattle.cells.specs.Functions.{Function}
use Rattle.cells.specs.View.{view}
use Rattle.cells.specs.WellFormed.{WellFormed}
use Rattle.sites.specs.Sites.{site_of, event_site, stands}
use Rattle.sites.specs.Validators.{site_check}
use Rattle.sites.specs.declared.Which.TheVariants.{Activation, Write}
use Rattle.cleanup.specs.Sweeps.{removed}
use Rattle.cleanup.specs.Cleanup.{clean_code, clean_function}
use Rattle.cleanup.specs.Errors.{retain, sites_removed, events_removed}
use Rattle.crystalfold.specs.Rules.{Rules}
use Rattle.crystalfold.specs.CrystalFold.{folds_of}
use Rattle.crystalfold.specs.Fingerprints.{store_var_fingerprint, write_site_fingerprint}
use Rattle.rewrite.specs.Rewrite.{rewrite_function, rewrite_count}

pub record Preserved (f : Rules) (g : Function) : Type 0 where
  -- both validators pass what cleanup hands on and what the rewrite hands back, at any position
  pub cleaned : (position : ℕ) → site_check position (clean_function g).code (clean_function g).events ≡ Ok tt
  pub rewritten : (position : ℕ) → site_check position (rewrite_function f g).code (rewrite_function f g).events ≡ Ok tt
  -- its head and every one of its cells pass the image check
  pub formed : WellFormed (rewrite_function f g)
  -- cleanup's other errors: as many events go by activation site as sites were removed; each removed write site has an event left
  pub paired : events_removed g.code g.events ≡ sites_removed g.code
  pub found : (x : ℕ) → stands (site_of Write) x (removed view g.code) ≡ true
      → stands (event_site Write) x (retain Activation (removed view g.code) g.events) ≡ true
  -- CrystalFold's other errors: neither fingerprint changes
  pub stores : store_var_fingerprint (rewrite_function f g).code ≡ store_var_fingerprint (clean_function g).code
  pub writes : write_site_fingerprint (rewrite_function f g).code ≡ write_site_fingerprint (clean_function g).code
  -- the count is the cells removed and the cells folded, and no sum saturates
  pub count : rewrite_count f g.code ≡ (length g.code - length (rewrite_function f g).code) + folds_of f (clean_code g.code)
  pub few : rewrite_count f g.code ≤ length g.code
  -- nothing grows, and nothing becomes empty
  pub shorter : length (rewrite_function f g).code ≤ length g.code
  pub fewer : length (rewrite_function f g).events ≤ length g.events
  pub empty : (rewrite_function f g).code ≡ [] → g.code ≡ []
