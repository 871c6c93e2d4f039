-- Every worked pair of functions is rewritten as each of the two alone.
use mathlib.Core.Path.{◌≡◌, refl}
use mathlib.Core.List.{map}
use Rattle.leaves.specs.Signed.{wrap, add_i32}
use Rattle.cells.specs.Table.{rows, class_of}
use Rattle.cells.specs.View.{view, load_cell}
use Rattle.sites.specs.Sites.{site_of, event_site}
use Rattle.cleanup.specs.Cleanup.{clean_code, clean_count, clean_events, clean_function}
use Rattle.crystalfold.specs.Rules.{default_table, default_rules}
use Rattle.crystalfold.specs.Fold.{note}
use Rattle.crystalfold.specs.CrystalFold.{fold_code, folds_of, fold_function}
use Rattle.rewrite.specs.Neighbours.{pairs, as_rewritten, expected}

pub pairs_hold : map as_rewritten pairs ≡ map expected pairs
unfolding clean_function clean_events clean_code clean_count fold_function fold_code folds_of default_rules default_table note view load_cell class_of rows wrap add_i32 site_of event_site
pairs_hold = refl
