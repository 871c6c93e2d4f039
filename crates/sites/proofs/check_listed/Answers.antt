-- `sites::check_listed` meets its contract: check after check, the first that refuses answers.
use mathlib.Core.Path.{◌≡◌, ◌∙◌, ap₂}
use Prim.Native.Nat.{ℕ}
use native.Mathlib.Omega.{arith}
use mathlib.Core.List.{List}
use lib.ListN.{length}
use Rattle.cells.specs.declared.walk.Part.TheVariants.{Events}
use Rattle.cells.specs.Answers.{or_else}
use Rattle.cells.specs.Cells.{Cell, cells}
use Rattle.cells.proofs.Answers.{halts, goes}
use Rattle.sites.specs.Numbered.{events_answer, claimed_rule}
use Rattle.sites.specs.Validators.{repeat_answer, rule_answer, standing}
use Rattle.sites.specs.declared.Rule.{Rule}
use Rattle.sites.specs.declared.Which.{Which}
use Rattle.sites.proofs.Counted.{listed-none, listed-counts}
use Rattle.sites.proofs.Loops.{fresh_commands, rules_none}
use Rattle.sites.proofs.check_listed.Goals as goal
use Rattle.sites.proofs.check_listed.Goals.{After-check_repeat, After-check_rule, In_ok-check_repeat, In_ok-check_events}
use Rattle.cells.specs.Checked.{Checked}
use Rattle.std.proofs.lemmas.Result.{err_from_is_err_and}
use Rattle.std.proofs.lemmas.Bool.Decides.{nat_tests}

-- what the checks are to answer
module _ (w : Which) (position : ℕ) (cs es : List Cell) where
  abbrev first : Checked
  first = repeat_answer w position cs

  abbrev second : Checked
  second = events_answer w position es

  abbrev third : Checked
  third = rule_answer (claimed_rule w) position (standing Events w es) cs

-- once the first has passed, the second, the third
repeat_is : (r : After-check_repeat) → r.check_repeat.result ≡ first r.args.w r.args.position (cells r.args.code.now) (cells r.args.events.now)
repeat_is r = r.check_repeat.ensures ∙ fresh_commands r.args.w r.args.position (cells r.args.code.now)

third_is : (k : After-check_rule) → k.check_rule.result ≡ third k.args.w k.args.position (cells k.args.code.now) (cells k.args.events.now)
third_is k =
    k.check_rule.ensures
    ∙ ap₂ (λ (rule : Rule) (count : ℕ → ℕ). rule_answer rule k.args.position count (cells k.args.code.now)) k.claimed_rule.ensures (listed-counts k.requires.1)

-- past the first, and past the second
past_first : (c : In_ok-check_repeat) {t b : Checked} → t ≡ b → t ≡ or_else (first c.args.w c.args.position (cells c.args.code.now) (cells c.args.events.now)) b
past_first c e = goes (c.check_repeat.ensures ∙ fresh_commands c.args.w c.args.position (cells c.args.code.now)) c.in_ok-check_repeat.was e

past_second : (c : In_ok-check_events) {t b : Checked} → t ≡ b
    → t ≡ or_else (first c.args.w c.args.position (cells c.args.code.now) (cells c.args.events.now)) (or_else (second c.args.w c.args.position (cells c.args.code.now) (cells c.args.events.now)) b)
past_second c e =
    goes (c.check_repeat.ensures ∙ fresh_commands c.args.w c.args.position (cells c.args.code.now)) c.in_ok-check_repeat.was (goes c.check_events.ensures c.in_ok-check_events.was e)

pub returns-in_err-check_repeat : goal.returns-in_err-check_repeat
returns-in_err-check_repeat c =
    let p = err_from_is_err_and c.from_residual.result c.from_residual.ensures.1 in
    let was = c.in_err-check_repeat.was in
    rw (p.1, p.2, ← was) (halts _ (repeat_is (goal.at.returns-in_err-check_repeat c).After-check_repeat) was)

pub returns-in_err-check_events : goal.returns-in_err-check_events
returns-in_err-check_events c =
    let p = err_from_is_err_and c.from_residual-in_err-check_events.result c.from_residual-in_err-check_events.ensures.1 in
    let was = c.in_err-check_events.was in
    rw (p.1, p.2, ← was) (past_first (goal.at.returns-in_err-check_events c).In_ok-check_repeat (halts _ c.check_events.ensures was))

pub returns-then-is_empty-2 : goal.returns-then-is_empty-2
returns-then-is_empty-2 c =
    let none : length c.args.sites.now ≡ 0 = grind (arith, nat_tests) in
    let unclaimed : length c.args.claims.now ≡ 0 = grind (arith, nat_tests) in
    past_second (goal.at.returns-then-is_empty-2 c).In_ok-check_events
    (rules_none c.args.w c.args.position (cells c.args.code.now) (cells c.args.events.now) (listed-none c.requires.0 none) (listed-none c.requires.1 unclaimed))

pub returns-in_err-check_rule : goal.returns-in_err-check_rule
returns-in_err-check_rule c =
    let p = err_from_is_err_and c.from_residual-in_err-check_rule.result c.from_residual-in_err-check_rule.ensures.1 in
    let was = c.in_err-check_rule.was in
    let t = goal.at.returns-in_err-check_rule c in
    rw (p.1, p.2, ← was) (past_second t.In_ok-check_events (halts _ (third_is t.After-check_rule) was))

pub returns : goal.returns
returns c =
    let t = goal.at.returns c in
    let fourth-is =
    c.check_rule-2.ensures ∙ ap₂ (λ (rule : Rule) (count : ℕ → ℕ). rule_answer rule c.args.position count (cells c.args.events.now)) c.known_rule.ensures (listed-counts c.requires.0) in
    past_second t.In_ok-check_events (goes (third_is t.After-check_rule) c.in_ok-check_rule.was fourth-is)
