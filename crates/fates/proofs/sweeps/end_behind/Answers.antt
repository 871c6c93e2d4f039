-- `sweeps::end_behind` meets its contract.
use mathlib.Core.Path.{◌≡◌, ◌∙◌, ap}
use Rattle.cleanup.proofs.Marking.{read_at}
use Rattle.cleanup.specs.Marks.{terminal}
use Rattle.cleanup.specs.Positions.{see_at}
use Rattle.cleanup.specs.Reading.{is_terminal}
use Rattle.cleanup.specs.declared.marks.Seen.{Seen}
use Rattle.fates.proofs.sweeps.end_behind.Goals as goal
use Rattle.fates.proofs.sweeps.end_behind.Goals.{After-is_terminal}

-- what was read is whether it is a Ret or Jmp
read : (t : After-is_terminal) → t.is_terminal.result ≡ terminal (see_at t.args.code.now t.args.at)
read t =
    let a = t.args in
    t.is_terminal.ensures ∙ ap (λ (s : Seen). is_terminal s.mark) t.at-cell.ensures ∙ (read_at a.code.now a.at).ends

pub returns-then-is_reached-is_terminal : goal.returns-then-is_reached-is_terminal
returns-then-is_reached-is_terminal c = rw (← c.is_reached.ensures, ← read (goal.at.returns-then-is_reached-is_terminal c).After-is_terminal, c.if-is_reached-is_terminal.true)

pub returns-else-is_reached-is_terminal : goal.returns-else-is_reached-is_terminal
returns-else-is_reached-is_terminal c = rw (← c.is_reached.ensures, ← read (goal.at.returns-else-is_reached-is_terminal c).After-is_terminal, c.if-is_reached-is_terminal.false)
