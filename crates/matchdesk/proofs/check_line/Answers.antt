use mathlib.Core.Path.{refl}
use native.Mathlib.Nat.{le_trans}
use Rattle.listing.specs.Text.{checked_text}
use Rattle.matchdesk.proofs.Texts.{shown, most_checked}
use Rattle.matchdesk.proofs.check_line.Goals as goal

pub returns : goal.returns
returns c =
    let w = shown (checked_text c.args.checked) _ c.unwrap_or.ensures refl c.list_checked.ensures (le_trans (most_checked c.args.checked) c.requires) in
    record { prefix_len = w.0; text_written = w.1 }
