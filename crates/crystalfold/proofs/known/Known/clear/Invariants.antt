-- `Known::clear` meets its contract: what is still known is listed from the turn on.
use Rattle.std.proofs.Common.{◌≡◌, length}
use Rattle.crystalfold.specs.Known.{KnownFrom}
use Rattle.crystalfold.proofs.known.Known.clear.Given as goal

abbrev pub invariant-loop-register : goal.invariant-loop-register
invariant-loop-register l =
    KnownFrom l.register-index (length l.register-items) l.register-items l.self-inside.1.0
    × (length l.self-inside.1.0 ≡ length l.initial.self-inside.1.0)
