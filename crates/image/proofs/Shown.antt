-- Every worked image is answered as the table says.
use lib.Dec.{T}
use Rattle.cells.specs.Check.{instruction_check, event_check, head_check}
use Rattle.cells.specs.Functions.{functions}
use Rattle.cells.specs.Table.{rows}
use Rattle.sites.specs.Sites.{site_of, event_site, site_by}
use Rattle.sites.specs.Validators.{repeat_answer, activation_answer, judge_by}
use Rattle.image.specs.Image.{image_answer}
use Rattle.image.specs.SiteCheck.{site_answer}
use Rattle.image.specs.Worked.{table, holds}

pub all_hold : T (holds table)
unfolding table image_answer site_answer functions instruction_check event_check head_check rows site_of event_site site_by repeat_answer activation_answer judge_by
all_hold = tt
