-- Promise: Demand 3, the claim about one function: `Rewritten f sent back`, where `sent` is the function as sent and `back` the one handed back, at the
-- same position in the output. The delivery has it for every function of every image that the whole rewrite accepts, with the rules of its rule set.
--
-- What it says, and where each definition stands:
--
-- * The function handed back is what cleanup and then CrystalFold make of the one sent, with its head, instruction cells and event cells.
--   `clean_function`: cleanup/specs/Cleanup.antt. `fold_function`: crystalfold/specs/CrystalFold.antt; the rules f are those of its fold, a
--   table from command to meaning; those of the rule sets are `rules_of`: the Rust's `default_rules`, and document 02's `fuller_rules`
--   (crystalfold/specs/Rules.antt).
--
-- * Premise for the rest: in the function as sent, each label name stands at one place, that is, its Label cells follow one another with no
--   other cell between. `OnePlace`: cleanup/specs/Premise.antt. Without it the rest is false: Label 1, Jmp 1, Label 1 loops as sent and ends as
--   returned (rewrite/proofs/Needed.antt). What the rewrite hands back has it again (rewrite/proofs/KeepsPlaces.antt).
--
-- * Run both from the same registers, whatever these hold, against the same outside, whatever it answers; the same record always gets the
--   same answer. `SameRecords`: machine/specs/Records.antt. How a function runs: machine/specs/Run.antt.
--     1. For every n, some m, no more than n, gives the returned function exactly the record that the sent one has after n steps.
--     2. Each record of the returned one, after any number of steps, is the sent one's after some number.
--     3. A record of the one and a record of the other, each after any number of steps, are equal exactly when they have the same length.
--
-- Only instruction cells are run, each by what it is: `view`, cells/specs/View.antt, by the table of commands, cells/specs/Table.antt. Runs worked
-- out by hand, of every command: machine/specs/Runs.antt. The theorem: rewrite/proofs/Records.antt.
use Rattle.std.specs.Prelude.{◌≡◌, List, map}
use Rattle.cells.specs.Functions.{Function}
use Rattle.cells.specs.Ins.{Ins}
use Rattle.cells.specs.View.{view}
use Rattle.machine.specs.Records.{SameRecords}
use Rattle.cleanup.specs.Cleanup.{clean_function}
use Rattle.cleanup.specs.Premise.{OnePlace}
use Rattle.crystalfold.specs.Rules.{Rules}
use Rattle.crystalfold.specs.CrystalFold.{fold_function}

-- what is run of a function: its instruction cells, in order
abbrev pub program : Function → List Ins
program g = map view g.code

pub record Rewritten (f : Rules) (sent back : Function) : Type 0 where
  -- the whole function handed back, outright
  pub returned : back ≡ fold_function f (clean_function sent)
  -- under the premise, all three claims of the two runs
  pub records : OnePlace (program sent) → SameRecords (program sent) (program back)
