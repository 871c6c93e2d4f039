-- `Names::table` meets its contract.
use mathlib.Core.Path.{refl}
use Rattle.cells.specs.Names.{command_names, event_names}
use Rattle.pages.proofs.names.Names.table.Goals as goal

pub invariant_of-result : goal.invariant_of-result
unfolding command_names event_names
invariant_of-result c = record { all = refl }
