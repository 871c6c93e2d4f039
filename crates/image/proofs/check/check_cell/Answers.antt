-- `image::check::check_cell` meets its contract.
use Rattle.image.proofs.check.check_cell.Goals as goal

pub returns-in-Code : goal.returns-in-Code
returns-in-Code c = simp (c.in-Code.is, c.check_instruction.ensures)

pub returns-in-Events : goal.returns-in-Events
returns-in-Events c = simp (c.in-Events.is, c.check_event.ensures)
