use Rattle.std.proofs.Common.{◌∙◌}
use Rattle.capi.proofs.Replied.{sealing_replied}
use Rattle.capi.proofs.matchdesk_sealing_check.Goals as goal

pub returns : goal.returns
returns c = sealing_replied _ _ _ _ _ c.sealing_check.ensures (c.give.ensures ∙ c.from.ensures)
