-- Promise: the two fingerprints that the Rust takes before and after a fold: `store_var_fingerprint`, the name and the activation site of every StoreVar;
-- `write_site_fingerprint`, the write site of every StoreVar and MakeRecord; both in order.
use Rattle.std.specs.Prelude.{List, map, ℕ, Option}
use Rattle.cells.specs.Bytes.{half}
use Rattle.cells.specs.Cells.{Cell}
use Rattle.cells.specs.Lists.{only}
use Rattle.sites.specs.Sites.{is_store_var, site_of, write_capable}
use Rattle.sites.specs.declared.Which.TheVariants.{Activation, Write}

abbrev pub store_var_fingerprint : List Cell → List (ℕ × Option ℕ)
store_var_fingerprint cs = map (λ (c : Cell). (half c 1, site_of Activation c)) (only is_store_var cs)

abbrev pub write_site_fingerprint : List Cell → List (Option ℕ)
write_site_fingerprint cs = map (site_of Write) (only write_capable cs)
