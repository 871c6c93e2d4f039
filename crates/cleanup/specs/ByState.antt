-- Inner: the four sweeps as the code has them: one loop over what is read of the cells, with a state of each sweep's own.
use Rattle.std.specs.Prelude.{Bool, ◌&&◌, not, List, [], ◌∷◌}
use Rattle.cells.specs.Ins.{alike}
use Rattle.cleanup.specs.Marks.{is_there}
use Rattle.cleanup.specs.Sweeps.{remaining}
use Rattle.cleanup.specs.Reading.{operand_of, is_terminal}
use Rattle.cleanup.specs.declared.marks.Mark.TheVariants.{Other, Label, Jmp, Load}
use Rattle.cleanup.specs.declared.marks.Seen.{Seen}
use Rattle.cleanup.specs.declared.sweeps.Labels.{Labels}
use Rattle.cleanup.specs.declared.sweeps.Unreachable.{Unreachable}
use Rattle.cleanup.specs.declared.sweeps.Jumps.{Jumps}
use Rattle.cleanup.specs.declared.sweeps.Loads.{Loads}

-- whether a cell goes: by the state, by itself and by the next cell; and the state behind a cell that stays
abbrev pub label_goes : Labels → Seen → Seen → Bool
label_goes state here next = alike state.kept (operand_of Label here)

abbrev pub after_label : Seen → Labels
after_label here = record { kept = operand_of Label here }

abbrev pub cuts_off : Unreachable → Seen → Bool
cuts_off state here = state.ended && not (is_there (operand_of Label here))

abbrev pub unreachable_goes : Unreachable → Seen → Seen → Bool
unreachable_goes state here next = cuts_off state here

abbrev pub after_end : Seen → Unreachable
after_end here = record { ended = is_terminal here.mark }

abbrev pub jump_goes : Jumps → Seen → Seen → Bool
jump_goes state here next = alike (operand_of Jmp here) (operand_of Label next)

abbrev pub load_goes : Loads → Seen → Seen → Bool
load_goes state here next = alike (operand_of Load here) (operand_of Load next)

module _ {C : Type 0} (seen : C → Seen) where
  -- the first of the cells behind; past the end there is nothing to see
  abbrev pub seen_next : List C → Seen
  seen_next [] = record { mark = Other; operand = 0 }
  seen_next (c ∷ p) = seen c

  module _ {S : Type 0} (goes : S → Seen → Seen → Bool) (after : Seen → S) where
    abbrev pub goes_by : S → C → List C → Bool
    goes_by state c p = goes state (seen c) (seen_next p)

    abbrev pub after_by : C → S
    after_by c = after (seen c)

    -- what stays, from a state on
    abbrev pub stays_by : S → List C → List C
    stays_by state p = remaining goes_by after_by state p
