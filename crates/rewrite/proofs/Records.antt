-- The records theorem: cleanup and CrystalFold together, under the premise, for any sound rules and so for every rule set.
use mathlib.Core.Path.{refl}
use mathlib.Core.List.{List, map}
use Rattle.cells.specs.Cells.{Cell}
use Rattle.cells.specs.Functions.{Function}
use Rattle.cells.specs.View.{view}
use Rattle.machine.specs.Records.{SameRecords}
use Rattle.machine.proofs.Growth.{same_trans}
use Rattle.cleanup.specs.Cleanup.{clean_code, clean_function}
use Rattle.cleanup.specs.Premise.{OnePlace}
use Rattle.cleanup.proofs.CleanupRecords.{cleanup_records}
use Rattle.crystalfold.specs.Rules.{Rules, Sound, rules_of}
use Rattle.crystalfold.specs.declared.rules.RuleSet.{RuleSet}
use Rattle.crystalfold.specs.CrystalFold.{fold_code, fold_function}
use Rattle.crystalfold.proofs.FoldRecords.{fold_records}
use Rattle.crystalfold.proofs.Soundness.{sound}
use Rattle.rewrite.specs.Rewrite.{rewrite_function, rewrite_code}
use Rattle.rewrite.specs.Claim.{Rewritten}

pub rewrite_records : (f : Rules) → Sound f → (cs : List Cell) → OnePlace (map view cs) → SameRecords (map view cs) (map view (rewrite_code f cs))
unfolding rewrite_code
rewrite_records f sound cs o =
    same_trans (map view cs) (map view (clean_code cs)) (map view (fold_code f (clean_code cs)))
    (cleanup_records cs o) (fold_records f sound (clean_code cs))

-- the claim, of a function
pub rewrite_claim : (f : Rules) → Sound f → (g : Function) → Rewritten f g (rewrite_function f g)
unfolding rewrite_function rewrite_code clean_function fold_function
rewrite_claim f sound g = record {
  returned = refl;
  records = rewrite_records f sound g.code;
}

-- and of every rule set
pub set_claim : (k : RuleSet) (g : Function) → Rewritten (rules_of k) g (rewrite_function (rules_of k) g)
set_claim k = rewrite_claim (rules_of k) (sound k)
