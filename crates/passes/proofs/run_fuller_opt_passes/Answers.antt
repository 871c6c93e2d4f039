-- `passes::run_fuller_opt_passes` meets its contract: that of `run_opt_passes` at the fuller rules.
use Rattle.passes.proofs.run_fuller_opt_passes.Goals as goal

pub returns : goal.returns
returns c = c.run_opt_passes.ensures
