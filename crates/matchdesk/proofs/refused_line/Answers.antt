use Rattle.std.proofs.Common.{refl}
use native.Mathlib.Nat.{le_trans}
use Rattle.listing.proofs.Whole.{length-refused}
use Rattle.matchdesk.proofs.Texts.{shown}
use Rattle.matchdesk.proofs.refused_line.Goals as goal

pub returns : goal.returns
returns c =
    let w = shown _ _ c.unwrap_or.ensures refl c.list_refused.ensures (le_trans (length-refused _ _ _) c.requires) in
    record { prefix_len = w.0; text_written = w.1 }
