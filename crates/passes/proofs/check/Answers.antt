-- `passes::check` meets its contract.
use mathlib.Core.Path.{◌∙◌}
use Rattle.passes.proofs.Checked.{check_long, check_uneven, check_room, check_sites}
use Rattle.passes.proofs.check.Goals as goal

pub returns-then-image-gt-MAX_IMAGE : goal.returns-then-image-gt-MAX_IMAGE
returns-then-image-gt-MAX_IMAGE c = check_long c.args.image.now c.args.room c.if-image-gt-MAX_IMAGE.true

pub returns-then-image-ne0 : goal.returns-then-image-ne0
returns-then-image-ne0 c = check_uneven c.args.image.now c.args.room c.if-image-gt-MAX_IMAGE.false c.if-image-ne0.true

pub returns-then-room-image : goal.returns-then-room-image
returns-then-room-image c = check_room c.args.image.now c.args.room c.if-image-gt-MAX_IMAGE.false c.if-image-ne0.false c.if-room-image.true

pub returns : goal.returns
returns c = c.site_check.ensures.answer ∙ check_sites c.args.image.now c.args.room c.if-image-gt-MAX_IMAGE.false c.if-image-ne0.false c.if-room-image.false
