-- `packed::put::put_first` meets its contract.
use mathlib.Core.Path.{◌∙◌}
use lib.ListN.{take}
use Rattle.cells.proofs.Over.{copied}
use Rattle.packed.proofs.put.put_first.Goals as goal

pub returns-else-k-ge4 : goal.returns-else-k-ge4
returns-else-k-ge4 c = c.copy.ensures.1 ∙ copied (take c.args.k c.args.s.now) c.args.out.now
