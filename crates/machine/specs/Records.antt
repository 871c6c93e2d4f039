-- Promise: what demand 3 claims of two functions' instruction cells, P as sent and Q as returned, each by what its cells are: run from the same
-- registers r, whatever these hold, against the same outside O, whatever it answers; the same record always gets the same answer, since an
-- outside is a function of the record. `after P O r n` is the record after n steps (Run.antt).
use Rattle.std.specs.Prelude.{◌≡◌, ◌↔◌, List, ℕ, ◌≤◌, length}
use Rattle.cells.specs.Ins.{Ins}
use Rattle.machine.specs.Values.{Regs}
use Rattle.machine.specs.Run.{Outside, after}

pub record SameRecords (P Q : List Ins) : Type 0 where
  -- 1. for every n some m, no more than n, gives the returned one exactly the record that the sent one has after n
  pub forth : (O : Outside) (r : Regs) (n : ℕ) → (m : ℕ) × (m ≤ n) × (after Q O r m ≡ after P O r n)
  -- 2. each record of the returned one, after any number of steps, is the sent one's after some number
  pub back : (O : Outside) (r : Regs) (m : ℕ) → (n : ℕ) × (after Q O r m ≡ after P O r n)
  -- 3. a record of the one and a record of the other, each after any number of steps, are equal exactly when they have the same length
  pub lengths : (O : Outside) (r : Regs) (m n : ℕ) → (after Q O r m ≡ after P O r n) ↔ (length (after Q O r m) ≡ length (after P O r n))
