use Rattle.std.proofs.Common.{◌≡◌, ◌≤◌, ◌/◌, length}
use Rattle.cases_passes.proofs.runs.read.Given as goal

abbrev pub invariant-loop : goal.invariant-loop
invariant-loop g l = (l.at ≤ length l.initial.buffer / 16) × (length l.buffer ≡ length l.initial.buffer)
