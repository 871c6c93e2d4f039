-- `sites::check_events` meets its contract.
use mathlib.Core.Path.{◌∙◌, ap}
use Prim.Native.Nat.{ℕ}
use Rattle.cells.specs.Cells.{cells}
use Rattle.cells.specs.declared.walk.Part.TheVariants.{Events}
use Rattle.sites.specs.Numbered.{fresh_answer}
use Rattle.sites.specs.Validators.{rule_answer, standing}
use Rattle.sites.specs.declared.Rule.TheVariants.{EventKind}
use Rattle.sites.specs.declared.Which.{Which}
use Rattle.sites.proofs.Counted.{listed-counts}
use Rattle.sites.proofs.Loops.{fresh_events}
use Rattle.sites.proofs.check_events.Goals as goal

pub returns-in-Activation : goal.returns-in-Activation
returns-in-Activation c =
    let q = c in
    let es = cells q.args.events.now in
    let w = c.in-Activation.is in
    simp w (c.check_repeat.ensures ∙ ap (λ (v : Which). fresh_answer Events v q.args.position es) w ∙ fresh_events q.args.position es)

pub returns-in-Write : goal.returns-in-Write
returns-in-Write c =
    let q = c in
    let es = cells q.args.events.now in
    let w = c.in-Write.is in
    simp w (c.check_rule.ensures ∙ ap (λ (count : ℕ → ℕ). rule_answer EventKind q.args.position count es) (listed-counts q.requires ∙ ap (λ (v : Which). standing Events v es) w))
