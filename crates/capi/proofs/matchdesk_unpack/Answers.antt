use Rattle.std.proofs.Common.{◌∙◌}
use Rattle.capi.proofs.Replied.{unpack_replied}
use Rattle.capi.proofs.matchdesk_unpack.Goals as goal

pub returns : goal.returns
returns c = unpack_replied _ _ _ _ _ _ _ c.unpack.ensures (c.give.ensures ∙ c.from.ensures)
