use Rattle.std.proofs.Common.{◌∙◌}
use Rattle.capi.proofs.Replied.{rest_replied}
use Rattle.capi.proofs.matchdesk_rewrite_until_rest.Goals as goal

pub returns : goal.returns
returns c =
    rest_replied _ _ _ _ _ _ _ _ c.rewrite_until_rest.ensures (c.give.ensures ∙ c.from.ensures)
