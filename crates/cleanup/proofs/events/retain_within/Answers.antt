-- `cleanup::events::retain_within` meets its contract.
use Prim.Native.Nat.{ℕ}
use native.Mathlib.Omega.{arith}
use lib.ListN.{length-replicate}
use Rattle.cells.specs.Cells.{cells}
use Rattle.cells.proofs.Going.{put_first, put_room}
use Rattle.cleanup.proofs.GoneSites.{kept_events}
use Rattle.cleanup.proofs.events.retain_within.Goals as goal

pub shared_whole_as_front-copy_spared : goal.shared_whole_as_front-copy_spared
shared_whole_as_front-copy_spared g c = (omega (arith, put_room c.removed_sites-a.ensures, c.removed_sites-a.auto.list, length-replicate {A = ℕ} g.row.N 0), omega (arith, c.requires.1))

pub shared_whole_as_front-copy_spared-2 : goal.shared_whole_as_front-copy_spared-2
shared_whole_as_front-copy_spared-2 g c = (omega (arith, put_room c.removed_sites-w.ensures, c.removed_sites-w.auto.list, length-replicate {A = ℕ} g.row.N 0), omega (arith, c.requires.1))

pub returns : goal.returns
returns g c = kept_events (cells c.args.code.now) (cells c.args.events.now) (put_first c.removed_sites-a.ensures) (put_first c.removed_sites-w.ensures) c.copy_spared.ensures
