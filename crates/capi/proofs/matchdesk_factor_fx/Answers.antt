use Rattle.std.proofs.Common.{◌∙◌}
use Rattle.capi.proofs.Replied.{fx_replied}
use Rattle.capi.proofs.matchdesk_factor_fx.Goals as goal

pub returns : goal.returns
returns c =
    fx_replied c.ranges.wanted c.ranges.factor c.factor_fx.ensures (c.give.ensures ∙ c.from.ensures)
