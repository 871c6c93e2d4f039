-- `release::place::numbers_as` meets its contract.
use Rattle.release.proofs.place.numbers_as.Goals as goal

pub returns-in-Ok : goal.returns-in-Ok
returns-in-Ok c = simp c.in-Ok.is
