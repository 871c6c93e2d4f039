-- So many bytes are read, and those that were kept stand as they did.
use Rattle.std.proofs.Common.{◌≡◌, ◌≤◌, min, length, take}
use Rattle.input.proofs.read_to_end.Given as goal

abbrev pub invariant-loop : goal.invariant-loop
invariant-loop g l =
    (l.size ≤ length l.buffer)
    × (min l.kept l.limit ≤ l.size)
    × (take (min l.kept l.limit) l.buffer ≡ take (min l.kept l.limit) l.fn.buffer)
