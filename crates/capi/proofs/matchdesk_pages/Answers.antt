use Rattle.std.proofs.Common.{◌∙◌}
use Rattle.capi.proofs.Replied.{pages_replied}
use Rattle.capi.proofs.matchdesk_pages.Goals as goal

pub returns : goal.returns
returns c = pages_replied _ _ _ _ _ _ _ c.pages.ensures (c.give.ensures ∙ c.from.ensures)
