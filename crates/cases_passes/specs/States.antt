-- Inner: where the program stands in a file: how many bytes of each buffer count, and a group's counts.
use Rattle.std.specs.Prelude.{ℕ, ◌≤◌, List, length, take}
use Rattle.cases_passes.specs.Rows.{Holds}
use Rattle.cases_passes.specs.declared.records.State.{State}

abbrev pub state_of : ℕ → ℕ → ℕ → ℕ → ℕ → ℕ → State
state_of group name image want images passed = record { group = group; name = name; image = image; want = want; images = images; passed = passed }

-- the parts that count are there, and the call of the head h holds of them
pub record HoldsIn (h name image want : List ℕ) (s : State) : Type 0 where
  pub named : s.name ≤ length name
  pub sent : s.image ≤ length image
  pub wanted : s.want ≤ length want
  pub holds : Holds h (take s.image image) (take s.want want)
