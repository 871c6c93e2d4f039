-- `load::load` meets its contract.
use Rattle.std.proofs.Common.{◌∙◌}
use Rattle.crystalfold.proofs.LoadBytes.{to_le_bytes_2, to_le_bytes_8}
use Rattle.crystalfold.proofs.load.load.Goals as goal

pub returns : goal.returns
returns c = rw (c.to_le_bytes.ensures ∙ to_le_bytes_2 c.args.dst c.requires, c.to_le_bytes-2.ensures ∙ to_le_bytes_8 c.args.n c.ranges.n.fits)
