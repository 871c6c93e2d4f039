-- `sealing::check_function` meets its contract.
use mathlib.Core.Path.{◌≡◌}
use lib.ListN.{drop}
use Rattle.sealing.specs.Steps.{repeat_among}
use Rattle.sealing.proofs.check_function.Given as goal

abbrev pub invariant-loop-x : goal.invariant-loop-x
invariant-loop-x l = repeat_among l.w l.position l.earlier l.own ≡ repeat_among l.w l.position l.earlier (drop l.x-index l.own)
