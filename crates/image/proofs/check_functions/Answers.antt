-- `image::check_functions` meets its contract.
use mathlib.Core.Path.{◌≡◌, sym, ap, subst, ◌∙◌}
use mathlib.Core.List.{List}
use Prim.Native.Nat.{ℕ, ◌+◌}
use native.Mathlib.Omega.{arith}
use lib.ListN.{length}
use Rattle.std.proofs.lemmas.Result.{err_from_is_err_and}
use Rattle.cells.specs.Answers.{or_else}
use Rattle.cells.specs.Cells.{cells}
use Rattle.cells.specs.Functions.{function_of, functions}
use Rattle.cells.specs.Lists.{All}
use Rattle.cells.specs.WellFormed.{WellFormed}
use Rattle.cells.specs.declared.walk.Functions.{Functions}
use Rattle.cells.proofs.Answers.{or-good, or-refused}
use Rattle.cells.proofs.Walking.{cells_taken}
use Rattle.image.specs.SiteCheck.{sites_answer}
use Rattle.image.proofs.Again.{image_formed, parts_fit}
use Rattle.image.proofs.Good.{image_good}
use Rattle.image.proofs.Steps.{site_turn}
use Rattle.image.proofs.check_functions.Goals as goal
use Rattle.image.proofs.check_functions.Goals.{In-Some, After-check_sites}

-- the next function is well-formed, and so are those behind it
formed : (c : In-Some) → WellFormed (function_of c.in-Some.f.head.now c.in-Some.f.code.now c.in-Some.f.events.now) × All WellFormed (functions (cells c.next.new.self.0.now))
formed c = subst (All WellFormed) c.in-Some.ensures.steps c.loop-f.invariant.1

-- its answer decides, or those behind it do
turned : (c : After-check_sites)
    → sites_answer 0 (functions (cells c.args.image.now)) ≡ or_else c.check_sites.result (sites_answer (c.loop-f.position + 1) (functions (cells c.next.new.self.0.now)))
turned c =
    let f = c.in-Some.f in
    site_turn c.loop-f.f-iterator.0.now c.next.new.self.0.now f.head.now f.code.now f.events.now c.in-Some.ensures.steps c.loop-f.position c.loop-f.invariant.2 c.check_sites.ensures

pub loop-f-init : goal.loop-f-init
loop-f-init c =
    let e = ap (λ (it : Functions). it.0.now) c.into_iter-f-iterator.ensures.into_iter_gives ∙ c.of-f-items.ensures in
    let w = image_formed c.args.image.now ((image_good c.args.image.now).0 c.requires) in
    (omega (arith, ap length e), subst (λ (s : List ℕ). All WellFormed (functions (cells s))) (sym e) w, ap (λ (s : List ℕ). sites_answer 0 (functions (cells s))) (sym e))

pub check_sites-requires : goal.check_sites-requires
check_sites-requires c =
    let f = c.in-Some.f in
    parts_fit f.head.now f.code.now f.events.now (formed (goal.at.check_sites-requires c).In-Some).0

pub returns-in_err-check_sites : goal.returns-in_err-check_sites
returns-in_err-check_sites c =
    let p = err_from_is_err_and c.from_residual.result c.from_residual.ensures.1 in
    let e = c.in_err-check_sites.was in
    rw (p.1, p.2) (sym (turned (goal.at.returns-in_err-check_sites c).After-check_sites ∙ or-refused _ e ∙ e))

pub overflow_add-position : goal.overflow_add-position
overflow_add-position c =
    let f = c.in-Some.f in
    omega (arith, c.loop-f.invariant.0, cells_taken c.loop-f.f-iterator.0.now c.next.new.self.0.now f.head.now f.code.now f.events.now c.in-Some.ensures.steps)

pub loop-f-preserved : goal.loop-f-preserved
loop-f-preserved c =
    let f = c.in-Some.f in
    let g = goal.at.loop-f-preserved c in (
      omega (arith, c.loop-f.invariant.0, cells_taken c.loop-f.f-iterator.0.now c.next.new.self.0.now f.head.now f.code.now f.events.now c.in-Some.ensures.steps),
      (formed g.In-Some).1,
      turned g.After-check_sites ∙ or-good _ c.in_ok-check_sites.was,
    )

pub returns : goal.returns
returns c = sym (c.loop-f.invariant.2 ∙ ap (sites_answer c.loop-f.position) c.in-None.ensures.steps.0)
