use Rattle.std.proofs.Common.{◌∙◌, ap, Option, ℕ}
use Rattle.std.specs.Prelude.{unwrap_or}
use Rattle.release.specs.Frames.{images_of}
use Rattle.cases_passes.proofs.Cut.{images_counted}
use Rattle.cases_passes.proofs.parts.count.Goals as goal

pub returns : goal.returns
returns c =
    c.unwrap_or.ensures ∙ ap (λ (o : Option ℕ). unwrap_or o 0) c.count_images.ensures ∙ images_counted (images_of c.args.release.now)
