use Rattle.std.proofs.Common.{◌∙◌}
use Rattle.capi.proofs.Replied.{i32_replied}
use Rattle.capi.proofs.matchdesk_factor_i32.Goals as goal

pub returns : goal.returns
returns c =
    i32_replied c.ranges.wanted c.ranges.factor c.factor_i32.ensures (c.give.ensures ∙ c.from.ensures)
