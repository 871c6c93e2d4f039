-- `sweeps::mark_sweeps` meets its contract, sweep by sweep.
use mathlib.Core.Path.{◌∙◌, ap}
use mathlib.Core.List.{List}
use Prim.Native.Nat.{ℕ, ◌/◌}
use native.Mathlib.Omega.{arith}
use lib.ListN.{length}
use Rattle.cleanup.proofs.Stages.{stage_start, stage_first, stage_room, stage_taken, stage_below, after_labels, after_unreachable, after_jumps, after_loads}
use Rattle.cleanup.specs.Positions.{left₁, left₂, left₃, left₄}
use Rattle.fates.specs.Steps.{marked, swept_fates}
use Rattle.fates.specs.declared.Fate.TheVariants.{RepeatedLabel, Unreachable, JumpToNext, LoadOverwritten, Kept}
use Rattle.fates.specs.declared.Reason.TheVariants.{Nothing}
use Rattle.fates.proofs.Marking.{stage_marks, sweep_marks}
use Rattle.fates.proofs.sweeps.mark_sweeps.Goals as goal

pub mark-requires : goal.mark-requires
mark-requires c =
    let s₁ = stage_start (length c.args.code.now / 16) c.args.list.now c.requires.0 c.fill.ensures in
    stage_marks s₁ c.requires.2

pub sweep_marked-n-requires : goal.sweep_marked-n-requires
sweep_marked-n-requires c =
    let s₁ = stage_start (length c.args.code.now / 16) c.args.list.now c.requires.0 c.fill.ensures in
    (stage_below s₁, omega (arith, c.requires.2, c.mark.auto.fates))

pub slice_bounds-sweep_marked-end-3 : goal.slice_bounds-sweep_marked-end-3
slice_bounds-sweep_marked-end-3 c =
    let s₁ = stage_start (length c.args.code.now / 16) c.args.list.now c.requires.0 c.fill.ensures in
    let s₂ = after_labels c.args.code.now s₁ c.sweep_marked-n.ensures.put in
    stage_room s₂

pub slice_bounds-sweep_marked-end-4 : goal.slice_bounds-sweep_marked-end-4
slice_bounds-sweep_marked-end-4 c =
    let s₁ = stage_start (length c.args.code.now / 16) c.args.list.now c.requires.0 c.fill.ensures in
    let s₂ = after_labels c.args.code.now s₁ c.sweep_marked-n.ensures.put in
    stage_taken s₂

pub sweep_marked-n-requires-2 : goal.sweep_marked-n-requires-2
sweep_marked-n-requires-2 c =
    let s₁ = stage_start (length c.args.code.now / 16) c.args.list.now c.requires.0 c.fill.ensures in
    let s₂ = after_labels c.args.code.now s₁ c.sweep_marked-n.ensures.put in
    (stage_below s₂, omega (arith, c.requires.2, c.mark.auto.fates, c.sweep_marked-n.auto.fates))

pub slice_bounds-sweep_marked-end-5 : goal.slice_bounds-sweep_marked-end-5
slice_bounds-sweep_marked-end-5 c =
    let s₁ = stage_start (length c.args.code.now / 16) c.args.list.now c.requires.0 c.fill.ensures in
    let s₂ = after_labels c.args.code.now s₁ c.sweep_marked-n.ensures.put in
    let s₃ = after_unreachable c.args.code.now s₂ c.sweep_marked-n-2.ensures.put in
    stage_room s₃

pub slice_bounds-sweep_marked-end-6 : goal.slice_bounds-sweep_marked-end-6
slice_bounds-sweep_marked-end-6 c =
    let s₁ = stage_start (length c.args.code.now / 16) c.args.list.now c.requires.0 c.fill.ensures in
    let s₂ = after_labels c.args.code.now s₁ c.sweep_marked-n.ensures.put in
    let s₃ = after_unreachable c.args.code.now s₂ c.sweep_marked-n-2.ensures.put in
    stage_taken s₃

pub sweep_marked-n-requires-3 : goal.sweep_marked-n-requires-3
sweep_marked-n-requires-3 c =
    let s₁ = stage_start (length c.args.code.now / 16) c.args.list.now c.requires.0 c.fill.ensures in
    let s₂ = after_labels c.args.code.now s₁ c.sweep_marked-n.ensures.put in
    let s₃ = after_unreachable c.args.code.now s₂ c.sweep_marked-n-2.ensures.put in
    (stage_below s₃, omega (arith, c.requires.2, c.mark.auto.fates, c.sweep_marked-n.auto.fates, c.sweep_marked-n-2.auto.fates))

pub slice_bounds-sweep_marked-end-7 : goal.slice_bounds-sweep_marked-end-7
slice_bounds-sweep_marked-end-7 c =
    let s₁ = stage_start (length c.args.code.now / 16) c.args.list.now c.requires.0 c.fill.ensures in
    let s₂ = after_labels c.args.code.now s₁ c.sweep_marked-n.ensures.put in
    let s₃ = after_unreachable c.args.code.now s₂ c.sweep_marked-n-2.ensures.put in
    let s₄ = after_jumps c.args.code.now s₃ c.sweep_marked-n-3.ensures.put in
    stage_room s₄

pub slice_bounds-sweep_marked-end-8 : goal.slice_bounds-sweep_marked-end-8
slice_bounds-sweep_marked-end-8 c =
    let s₁ = stage_start (length c.args.code.now / 16) c.args.list.now c.requires.0 c.fill.ensures in
    let s₂ = after_labels c.args.code.now s₁ c.sweep_marked-n.ensures.put in
    let s₃ = after_unreachable c.args.code.now s₂ c.sweep_marked-n-2.ensures.put in
    let s₄ = after_jumps c.args.code.now s₃ c.sweep_marked-n-3.ensures.put in
    stage_taken s₄

pub sweep_marked-requires : goal.sweep_marked-requires
sweep_marked-requires c =
    let s₁ = stage_start (length c.args.code.now / 16) c.args.list.now c.requires.0 c.fill.ensures in
    let s₂ = after_labels c.args.code.now s₁ c.sweep_marked-n.ensures.put in
    let s₃ = after_unreachable c.args.code.now s₂ c.sweep_marked-n-2.ensures.put in
    let s₄ = after_jumps c.args.code.now s₃ c.sweep_marked-n-3.ensures.put in
    (stage_below s₄, omega (arith, c.requires.2, c.mark.auto.fates, c.sweep_marked-n.auto.fates, c.sweep_marked-n-2.auto.fates, c.sweep_marked-n-3.auto.fates))

pub returns-clause-survive : goal.returns-clause-survive
returns-clause-survive c =
    let s₁ = stage_start (length c.args.code.now / 16) c.args.list.now c.requires.0 c.fill.ensures in
    let s₂ = after_labels c.args.code.now s₁ c.sweep_marked-n.ensures.put in
    let s₃ = after_unreachable c.args.code.now s₂ c.sweep_marked-n-2.ensures.put in
    let s₄ = after_jumps c.args.code.now s₃ c.sweep_marked-n-3.ensures.put in
    let s₅ = after_loads c.args.code.now s₄ c.sweep_marked.ensures.put in
    record { list = s₅.is; count = s₅.count }

pub returns-clause-fates_after : goal.returns-clause-fates_after
unfolding swept_fates
returns-clause-fates_after c =
    let s₁ = stage_start (length c.args.code.now / 16) c.args.list.now c.requires.0 c.fill.ensures in
    let s₂ = after_labels c.args.code.now s₁ c.sweep_marked-n.ensures.put in
    let s₃ = after_unreachable c.args.code.now s₂ c.sweep_marked-n-2.ensures.put in
    let s₄ = after_jumps c.args.code.now s₃ c.sweep_marked-n-3.ensures.put in
    let s₅ = after_loads c.args.code.now s₄ c.sweep_marked.ensures.put in
    sweep_marks (Kept Nothing) _ _ _ s₅ c.sweep_marked.ensures.put c.sweep_marked.ensures.fates_after
    ∙ ap (marked (Kept Nothing) (left₄ c.args.code.now)) (sweep_marks LoadOverwritten _ _ _ s₄ c.sweep_marked-n-3.ensures.put c.sweep_marked-n-3.ensures.fates_after
    ∙ ap (marked LoadOverwritten (left₃ c.args.code.now)) (sweep_marks JumpToNext _ _ _ s₃ c.sweep_marked-n-2.ensures.put c.sweep_marked-n-2.ensures.fates_after
    ∙ ap (marked JumpToNext (left₂ c.args.code.now)) (sweep_marks (Unreachable 0) _ _ _ s₂ c.sweep_marked-n.ensures.put c.sweep_marked-n.ensures.fates_after
    ∙ ap (marked (Unreachable 0) (left₁ c.args.code.now)) (c.mark.ensures ∙ ap (λ (p : List ℕ). marked RepeatedLabel p c.args.fates.now) (stage_first s₁)))))
