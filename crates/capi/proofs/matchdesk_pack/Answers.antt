use Rattle.std.proofs.Common.{◌∙◌}
use Rattle.capi.proofs.Replied.{pack_replied}
use Rattle.capi.proofs.matchdesk_pack.Goals as goal

pub returns : goal.returns
returns c = pack_replied _ _ _ _ _ _ _ c.pack.ensures (c.give.ensures ∙ c.from.ensures)
