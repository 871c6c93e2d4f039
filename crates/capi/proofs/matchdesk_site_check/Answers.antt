use Rattle.std.proofs.Common.{◌∙◌}
use Rattle.capi.proofs.Replied.{sites_replied}
use Rattle.capi.proofs.matchdesk_site_check.Goals as goal

pub returns : goal.returns
returns c = sites_replied _ _ _ _ _ c.site_check.ensures (c.give.ensures ∙ c.from.ensures)
