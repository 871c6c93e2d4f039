-- `cells::check::check_head` meets its contract.
use mathlib.Core.Path.{◌∙◌}
use Prim.Native.Nat.{◌+◌, ◌≤◌}
use native.Mathlib.Omega.{arith}
use Rattle.cells.specs.Check.{code_count, event_count, max_instructions, max_events}
use Rattle.cells.proofs.Checks.{head_first, head_code, head_events, head_past, head-row}
use Rattle.cells.proofs.check.check_head.Goals as goal
use Rattle.cells.proofs.check.check_head.Goals.{then-c-via-then-c, then-c-via-else-c+then-code-gt-MAX_INSTRUCTIONS, then-c-via-else-c+else-code-gt-MAX_INSTRUCTIONS+then-events-gt-MAX_EVENTS, then-c-via-else-c+else-code-gt-MAX_INSTRUCTIONS+else-events-gt-MAX_EVENTS+then-after-code}

pub returns-then-c : goal.returns-then-c
returns-then-c c =
    let a = c.args in
    elim c.then-c.branch [
      | then-c-via-then-c w ↦ head_first a.position a.at a.c.now a.after w.if-c.true
      | then-c-via-else-c+then-code-gt-MAX_INSTRUCTIONS w ↦ head_code a.position a.at a.c.now a.after w.if-c.false (omega arith)
      | then-c-via-else-c+else-code-gt-MAX_INSTRUCTIONS+then-events-gt-MAX_EVENTS w ↦ head_events a.position a.at a.c.now a.after w.if-c.false (omega arith) (omega arith)
      | then-c-via-else-c+else-code-gt-MAX_INSTRUCTIONS+else-events-gt-MAX_EVENTS+then-after-code w ↦
          head_past a.position a.at a.c.now a.after w.if-c.false (omega arith) (omega arith) (omega arith)
    ]

pub returns : goal.returns
returns c =
    let a = c.args in
    let h : code_count a.c.now ≤ max_instructions = omega arith in
    let k : event_count a.c.now ≤ max_events = omega arith in
    let l : code_count a.c.now + event_count a.c.now ≤ a.after = omega arith in
    c.unless.ensures ∙ head-row a.position a.at a.c.now a.after c.if-c.false _ h k l c.zeros_from.ensures
