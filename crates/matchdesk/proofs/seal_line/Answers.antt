use Rattle.matchdesk.proofs.Texts.{sealed_line}
use Rattle.matchdesk.proofs.seal_line.Goals as goal

pub returns-in-Ok : goal.returns-in-Ok
returns-in-Ok c = rw c.in-Ok.is c.check_line.ensures

pub returns-in-Err : goal.returns-in-Err
returns-in-Err c = rw (c.in-Err.is, sealed_line c.in-Err.x c.from.result c.from.ensures) c.refused_line.ensures
