-- Inner: what a read of standard input may answer, by a limit on the bytes that count.
use Rattle.std.specs.Prelude.{ℕ, min, ◌≤◌, ◌<◌, Option, Some, None, Result, Ok, Err}

-- what a read may find behind the bytes that are kept, those past the limit not counted: at least one byte more, within the buffer
abbrev pub StepWithin : {E : Type 0} → ℕ → ℕ → ℕ → Result (Option ℕ) E → Type 0
StepWithin limit kept room (Ok (Some n)) = (min kept limit < n) × (n ≤ room)
StepWithin limit kept room (Ok None) = Unit {0}
StepWithin limit kept room (Err e) = Unit {0}

-- the bytes of the whole input have those that are kept among them, and lie within the buffer
abbrev pub Within : {E : Type 0} → ℕ → ℕ → ℕ → Result ℕ E → Type 0
Within limit kept room (Ok n) = (min kept limit ≤ n) × (n ≤ room)
Within limit kept room (Err e) = Unit {0}
