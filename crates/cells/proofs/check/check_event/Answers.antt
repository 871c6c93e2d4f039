-- `cells::check::check_event` meets its contract.
use mathlib.Core.Path.{◌∙◌}
use Prim.Native.Nat.{◌<◌}
use native.Mathlib.Omega.{arith}
use Rattle.cells.specs.Table.{event_row}
use Rattle.cells.proofs.Rows.{row_fits}
use Rattle.cells.proofs.Checks.{event_kind, event_row_lem}
use Rattle.cells.proofs.check.check_event.Goals as goal

pub returns-then-c-gt-LAST_KIND : goal.returns-then-c-gt-LAST_KIND
returns-then-c-gt-LAST_KIND c =
    let a = c.args in
    event_kind a.position a.at a.c.now c.if-c-gt-LAST_KIND.true

pub returns : goal.returns
returns c =
    let a = c.args in
    c.unless.ensures ∙ event_row_lem a.position a.at a.c.now _ c.if-c-gt-LAST_KIND.false c.operands_ok.ensures

pub operands_ok-requires : goal.operands_ok-requires
operands_ok-requires c =
    let h : event_row < 84 = omega arith in
    (omega (arith, row_fits event_row h, c.requires), h)
