use mathlib.Core.Path.{sym, ◌∙◌}
use Rattle.matchdesk_release.proofs.Whole.{not-refused}
use Rattle.matchdesk_release.proofs.answer.Goals as goal

pub write_images-requires : goal.write_images-requires
write_images-requires g c = not-refused c.args.input.now (sym c.if-is_refused.false ∙ c.is_refused.ensures)
