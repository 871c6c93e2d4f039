-- `release::place::put_number` meets its contract.
use mathlib.Core.Path.{◌∙◌}
use Rattle.release.proofs.Writing.{number_put}
use Rattle.release.proofs.place.put_number.Goals as goal

pub returns : goal.returns
returns c = number_put c.args.n c.args.buffer.now _ c.requires.0 (c.copy_from_slice.ensures.after ∙ c.to_le_bytes.ensures)
