-- `Due::next_cell` meets its contract.
use mathlib.Core.Path.{ap, sym, ◌∙◌}
use native.Mathlib.Omega.{arith}
use Rattle.packed.specs.Form.{promise, role_of, row_size}
use Rattle.packed.proofs.Promises.{next_code, next_event, next-head, head-there}
use Rattle.packed.proofs.Widths.{size_some, head-size, event_size}
use Rattle.packed.proofs.form.Due.next_cell.Goals as goal

pub bounds-s-0 : goal.bounds-s-0
bounds-s-0 c =
    omega (arith, c.requires, size_some (role_of (promise c.args.self.code c.args.self.events)) c.args.s.now)

pub returns-then-self-ne0 : goal.returns-then-self-ne0
returns-then-self-ne0 c =
    next_code c.args.self.code c.args.self.events c.args.s.now c.size_at.result c.if-self-ne0.true (c.size_at.ensures ∙ ap row_size c.from.ensures)

pub returns-then-self-ne0-2 : goal.returns-then-self-ne0-2
returns-then-self-ne0-2 c =
    next_event c.args.self.code c.args.self.events c.args.s.now 15 c.if-self-ne0.false c.if-self-ne0-2.true (sym (event_size c.args.s.now))

pub half-requires : goal.half-requires
half-requires c =
    omega (arith, head-there c.args.self.code c.args.self.events c.args.s.now c.if-self-ne0.false c.if-self-ne0-2.false c.requires)

pub half-requires-2 : goal.half-requires-2
half-requires-2 c =
    head-there c.args.self.code c.args.self.events c.args.s.now c.if-self-ne0.false c.if-self-ne0-2.false c.requires

pub returns : goal.returns
returns c =
    next-head c.args.self.code c.args.self.events c.args.s.now 7 c.half.result c.half-2.result c.if-self-ne0.false c.if-self-ne0-2.false (sym (head-size c.args.s.now)) c.half.ensures.0 c.half-2.ensures.0
