use Rattle.std.proofs.Common.{◌≡◌, ◌-◌, length}
use Rattle.cases_passes.specs.Runs.{put_run}
use Rattle.cases_passes.proofs.runs.put_run.Given as goal

abbrev pub invariant-loop-i : goal.invariant-loop-i
invariant-loop-i l = (length l.buffer ≡ length l.initial.buffer) × (put_run l.cell l.place l.at l.i (l.count - l.i) l.buffer ≡ put_run l.cell l.place l.at 0 l.count l.initial.buffer)
