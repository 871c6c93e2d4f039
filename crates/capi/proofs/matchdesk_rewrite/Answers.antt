use Rattle.std.proofs.Common.{◌∙◌}
use Rattle.capi.proofs.Replied.{rewrite_replied}
use Rattle.capi.proofs.matchdesk_rewrite.Goals as goal

pub returns : goal.returns
returns c =
    rewrite_replied _ _ _ _ _ _ _ _ c.run_default_opt_passes.ensures (c.give.ensures ∙ c.from.ensures)
