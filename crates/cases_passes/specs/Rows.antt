-- Inner: when a call in a file of cases holds: the operation's answer is the one written down, and so is every byte of the output, which is marked
-- before and longer than what is lent.
use Rattle.std.specs.Prelude.{ℕ, zero, suc, ◌+◌, ◌%◌, ◌≤◌, ◌≡◌, List, [], ◌∷◌, ◌++◌, length, take, drop, Option, Some, None}
use Rattle.cells.specs.Bytes.{byte, half, word}
use Rattle.cells.specs.Cells.{over}
use Rattle.cases_passes.specs.Operations.{asked_by, answer, output}
use Rattle.cases_passes.specs.declared.operation.Operation.{Operation}
use Rattle.cases_passes.specs.declared.operation.Reply.{Reply}

-- n bytes that go by their position
abbrev pub marks : ℕ → List ℕ
marks zero = []
marks (suc n) = marks n ++ (n % 251 ∷ [])

-- an output of which the first n bytes are lent to an operation on the image s
unfoldable pub lent : Operation → List ℕ → ℕ → List ℕ → List ℕ
lent o s n before = output o s (take n before) ++ drop n before

-- the operation lent n of m marked bytes answers r and writes `want`, and no other byte changes
pub record Agrees (o : Operation) (s want : List ℕ) (r : Reply) (n m : ℕ) : Type 0 where
  pub reply : answer o s n ≡ r
  pub bytes : lent o s n (marks m) ≡ over want (marks m)

-- ---- in a record's head

abbrev pub reply_in : List ℕ → Reply
reply_in h = record { number = byte h 1; position = half h 2; detail = word h 4; length = word h 12; rewrites = word h 16; changed = byte h 20 }

abbrev pub room_in : List ℕ → ℕ
room_in h = word h 8

-- how many of these bytes are for the answers to a release
abbrev pub answers_in : List ℕ → ℕ
answers_in h = half h 22

-- the call fits the buffers, and the operation agrees
pub record Fits (o : Operation) (h s want : List ℕ) : Type 0 where
  pub room : room_in h ≤ 242440
  pub short : word h 12 ≤ room_in h
  pub cut : answers_in h ≤ room_in h
  pub given : word h 12 ≤ length want
  pub agrees : Agrees o s (take (word h 12) want) (reply_in h) (room_in h) (room_in h + 64)

abbrev pub HoldsAs : Option Operation → List ℕ → List ℕ → List ℕ → Type 0
HoldsAs (Some o) h s want = Fits o h s want
HoldsAs None h s want = ⊥

unfoldable pub Holds : List ℕ → List ℕ → List ℕ → Type 0
Holds h s want = HoldsAs (asked_by (byte h 0) (answers_in h)) h s want
