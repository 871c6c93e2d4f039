-- Numbers of 4 bytes over the start of a buffer.
use mathlib.Core.Path.{◌≡◌, ◌∙◌, ap}
use mathlib.Core.List.{List, ◌++◌}
use Prim.Native.Nat.{ℕ, ◌<◌}
use native.Mathlib.Omega.{arith}
use lib.ListN.{drop}
use Rattle.std.specs.Int.{to_le_bytes, w32}
use Rattle.cells.specs.Bytes.{bytes}
use Rattle.cells.specs.Cells.{over}
use Rattle.release.proofs.Frames.{four_cons}

-- a number's 4 bytes, as its type gives them
number_bytes : (n : ℕ) → n < 4294967296 → to_le_bytes w32 n ≡ bytes 4 n
number_bytes n h = four_cons (omega arith) (omega arith) (omega arith) (omega arith)

pub number_put : (n : ℕ) (s t : List ℕ) → n < 4294967296 → t ≡ to_le_bytes w32 n → t ++ drop 4 s ≡ over (bytes 4 n) s
unfolding over
number_put n s t h e = ap (λ (u : List ℕ). u ++ drop 4 s) (e ∙ number_bytes n h)
