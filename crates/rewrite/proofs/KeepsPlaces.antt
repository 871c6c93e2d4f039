-- The rewrite, by any rules, keeps each label name at one place, so it can be done again.
use Rattle.std.specs.Prelude.{option_map}
use mathlib.Core.Path.{sym, ◌∙◌, ap}
use mathlib.Core.List.{List, [], ◌∷◌, map}
use Rattle.cells.specs.Cells.{Cell}
use Rattle.cells.specs.Ins.{Ins}
use Rattle.cells.specs.View.{view}
use Rattle.machine.proofs.Jumps.{plain}
use Rattle.cleanup.specs.Sweeps.{cleanup}
use Rattle.cleanup.specs.Cleanup.{clean_code}
use Rattle.cleanup.specs.Premise.{OnePlace}
use Rattle.cleanup.proofs.NoopJumps.{Once}
use Rattle.cleanup.proofs.CleanupRecords.{view_clean}
use Rattle.cleanup.proofs.KeepsPlaces.{once-cleanup, one_place_lem}
use Rattle.crystalfold.specs.Rules.{Rules}
use Rattle.crystalfold.specs.Fold.{Table, unknown, known_after}
use Rattle.crystalfold.proofs.FoldJumps.{folds, folded_label, seek-fold}
use Rattle.crystalfold.proofs.FoldRecords.{view-fold}
use Rattle.rewrite.specs.Rewrite.{rewrite_code}

once-fold : (f : Rules) (t : Table) (p : List Ins) → Once p → Once (folds f t p)
once-fold f t [] o = tt
once-fold f t (i ∷ p) o = (
  λ l e. seek-fold f l (known_after f t i) p ∙ ap (option_map (folds f unknown)) (o.0 l (sym (folded_label f t i) ∙ e)),
  once-fold f (known_after f t i) p o.1,
)

pub rewrite_one_place : (f : Rules) (cs : List Cell) → OnePlace (map view cs) → OnePlace (map view (rewrite_code f cs))
unfolding rewrite_code
rewrite_one_place f cs o =
    rw (view-fold f (clean_code cs), view_clean cs)
    (one_place_lem (folds f unknown (cleanup plain (map view cs))) (once-fold f unknown (cleanup plain (map view cs)) (once-cleanup (map view cs) o)))
