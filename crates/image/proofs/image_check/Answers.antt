-- `image::image_check` meets its contract.
use Rattle.image.proofs.Good.{image_checked}
use Rattle.image.proofs.image_check.Goals as goal

pub returns : goal.returns
returns c = image_checked c.args.image.now c.check_image.result c.check_image.ensures
