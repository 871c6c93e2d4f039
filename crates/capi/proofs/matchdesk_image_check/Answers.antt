use Rattle.std.proofs.Common.{◌∙◌}
use Rattle.capi.proofs.Replied.{image_replied}
use Rattle.capi.proofs.matchdesk_image_check.Goals as goal

pub returns : goal.returns
returns c = image_replied _ _ _ _ _ c.image_check.ensures (c.give.ensures ∙ c.from.ensures)
