use Rattle.std.proofs.Common.{◌∙◌}
use Rattle.capi.proofs.Replied.{pass_replied}
use Rattle.capi.proofs.matchdesk_crystalfold.Goals as goal

pub returns : goal.returns
returns c =
    pass_replied _ _ _ _ _ _ _ _ c.crystalfold.ensures (c.give.ensures ∙ c.from.ensures)
