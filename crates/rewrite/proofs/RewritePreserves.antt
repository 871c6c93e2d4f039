-- The rewrite preserves what `Preserved` says.
use mathlib.Core.Path.{◌≡◌}
use Prim.Native.Nat.{ℕ}
use Rattle.cells.specs.Functions.{Function}
use Rattle.cells.specs.WellFormed.{WellFormed}
use Rattle.sites.specs.Validators.{site_check}
use Rattle.sites.proofs.SitesFit.{anywhere}
use Rattle.cleanup.specs.Cleanup.{clean_function}
use Rattle.cleanup.proofs.CleanupPasses.{clean_function_passes}
use Rattle.cleanup.proofs.OtherErrors.{events_paired, write_found}
use Rattle.crystalfold.specs.Rules.{Rules}
use Rattle.crystalfold.specs.CrystalFold.{fold_function}
use Rattle.crystalfold.proofs.FoldPasses.{stores_kept, writes_kept}
use Rattle.rewrite.specs.Rewrite.{rewrite_function, rewrite_code}
use Rattle.rewrite.specs.Preserved.{Preserved}
use Rattle.rewrite.proofs.RewritePasses.{rewrite_passes, rewrite_well_formed}
use Rattle.rewrite.proofs.RewriteCounts.{rewrite_count_lem, rewrite_few, rewrite_shorter, rewrite_events_fewer, rewrite_empty}
use Rattle.std.specs.Prelude.{Ok}

pub preserved : (f : Rules) (g : Function) (position : ℕ) → WellFormed g → site_check position g.code g.events ≡ Ok tt → Preserved f g
unfolding rewrite_function rewrite_code fold_function clean_function
preserved f g position w e = record {
  cleaned = λ p. clean_function_passes p g (anywhere position p g.code g.events e);
  rewritten = λ p. rewrite_passes f p g (anywhere position p g.code g.events e);
  formed = rewrite_well_formed f g w;
  paired = events_paired position g.code g.events e;
  found = write_found position g.code g.events e;
  stores = stores_kept f (clean_function g).code;
  writes = writes_kept f (clean_function g).code;
  count = rewrite_count_lem f g.code;
  few = rewrite_few f g.code;
  shorter = rewrite_shorter f g;
  fewer = rewrite_events_fewer f g;
  empty = rewrite_empty f g.code;
}
