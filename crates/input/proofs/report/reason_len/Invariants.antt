-- The text goes on through the bytes so far.
use Rattle.std.proofs.Common.{◌≡◌, ◌+◌, drop}
use Rattle.input.specs.Reason.{reason_len}
use Rattle.input.proofs.report.reason_len.Given as goal

abbrev pub invariant-loop-i : goal.invariant-loop-i
invariant-loop-i l = reason_len l.text ≡ l.i + reason_len (drop l.i l.text)
