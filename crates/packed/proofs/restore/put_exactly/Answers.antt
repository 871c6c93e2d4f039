-- `packed::restore::put_exactly` meets its contract.
use mathlib.Core.Path.{ap, ◌∙◌}
use native.Mathlib.Omega.{arith}
use lib.ListN.{take, replicate}
use lib.Seq.{length-take-le}
use Rattle.cells.specs.Cells.{over}
use Rattle.cells.proofs.Over.{copied}
use Rattle.packed.proofs.Puts.{put-padded}
use Rattle.packed.proofs.restore.put_exactly.Goals as goal

pub returns : goal.returns
returns c =
    let b = take c.args.k c.args.s.now in
    c.put_first.ensures ∙ ap (over b) (c.copy.ensures.1 ∙ copied (replicate 16 0) c.args.out.now)
    ∙ put-padded b c.args.out.now (omega (arith, c.requires.1, length-take-le c.args.k c.args.s.now c.requires.0))
