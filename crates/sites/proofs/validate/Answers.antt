-- `sites::validate` meets its contract.
use mathlib.Core.Path.{sym}
use native.Mathlib.Omega.{arith}
use lib.Seq.{length-take-le}
use Rattle.cells.proofs.Cells.{length-cells}
use Rattle.cells.proofs.Going.{put_room}
use Rattle.sites.proofs.Counted.{collected}
use Rattle.sites.proofs.validate.Goals as goal

pub slice_bounds-check_listed-end : goal.slice_bounds-check_listed-end
slice_bounds-check_listed-end c = put_room c.collect-k.ensures

pub slice_bounds-check_listed-end-2 : goal.slice_bounds-check_listed-end-2
slice_bounds-check_listed-end-2 c = sym (length-take-le _ _ (put_room c.collect-k.ensures))

pub slice_bounds-check_listed-end-3 : goal.slice_bounds-check_listed-end-3
slice_bounds-check_listed-end-3 c = put_room c.collect-m.ensures

pub slice_bounds-check_listed-end-4 : goal.slice_bounds-check_listed-end-4
slice_bounds-check_listed-end-4 c = sym (length-take-le _ _ (put_room c.collect-m.ensures))

pub check_listed-requires : goal.check_listed-requires
check_listed-requires c = (
  collected (omega (arith, c.requires.2, length-cells c.args.code.now)) c.collect-k.ensures,
  collected (omega (arith, c.requires.3, length-cells c.args.events.now)) c.collect-m.ensures,
)
