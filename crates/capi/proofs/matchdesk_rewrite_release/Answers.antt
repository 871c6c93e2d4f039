use Rattle.std.proofs.Common.{◌∙◌}
use Rattle.capi.proofs.Replied.{release_replied}
use Rattle.capi.proofs.matchdesk_rewrite_release.Goals as goal

pub returns : goal.returns
returns c = release_replied _ _ _ _ _ _ _ _ _ c.rewrite_release.ensures (c.give.ensures ∙ c.from.ensures)
