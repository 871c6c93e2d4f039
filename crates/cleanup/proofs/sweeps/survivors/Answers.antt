-- `cleanup::sweeps::survivors` meets its contract, sweep by sweep.
use Prim.Native.Nat.{◌/◌}
use lib.ListN.{length}
use Rattle.cleanup.proofs.Stages.{stage_start, stage_room, stage_taken, stage_below, after_labels, after_unreachable, after_jumps, after_loads}
use Rattle.cleanup.proofs.sweeps.survivors.Goals as goal

pub sweep-n-requires : goal.sweep-n-requires
sweep-n-requires c =
    let s₁ = stage_start (length c.args.code.now / 16) c.args.list.now c.requires.0 c.fill.ensures in
    stage_below s₁

pub slice_bounds-sweep-end-3 : goal.slice_bounds-sweep-end-3
slice_bounds-sweep-end-3 c =
    let s₁ = stage_start (length c.args.code.now / 16) c.args.list.now c.requires.0 c.fill.ensures in
    let s₂ = after_labels c.args.code.now s₁ c.sweep-n.ensures in
    stage_room s₂

pub slice_bounds-sweep-end-4 : goal.slice_bounds-sweep-end-4
slice_bounds-sweep-end-4 c =
    let s₁ = stage_start (length c.args.code.now / 16) c.args.list.now c.requires.0 c.fill.ensures in
    let s₂ = after_labels c.args.code.now s₁ c.sweep-n.ensures in
    stage_taken s₂

pub sweep-n-requires-2 : goal.sweep-n-requires-2
sweep-n-requires-2 c =
    let s₁ = stage_start (length c.args.code.now / 16) c.args.list.now c.requires.0 c.fill.ensures in
    let s₂ = after_labels c.args.code.now s₁ c.sweep-n.ensures in
    stage_below s₂

pub slice_bounds-sweep-end-5 : goal.slice_bounds-sweep-end-5
slice_bounds-sweep-end-5 c =
    let s₁ = stage_start (length c.args.code.now / 16) c.args.list.now c.requires.0 c.fill.ensures in
    let s₂ = after_labels c.args.code.now s₁ c.sweep-n.ensures in
    let s₃ = after_unreachable c.args.code.now s₂ c.sweep-n-2.ensures in
    stage_room s₃

pub slice_bounds-sweep-end-6 : goal.slice_bounds-sweep-end-6
slice_bounds-sweep-end-6 c =
    let s₁ = stage_start (length c.args.code.now / 16) c.args.list.now c.requires.0 c.fill.ensures in
    let s₂ = after_labels c.args.code.now s₁ c.sweep-n.ensures in
    let s₃ = after_unreachable c.args.code.now s₂ c.sweep-n-2.ensures in
    stage_taken s₃

pub sweep-n-requires-3 : goal.sweep-n-requires-3
sweep-n-requires-3 c =
    let s₁ = stage_start (length c.args.code.now / 16) c.args.list.now c.requires.0 c.fill.ensures in
    let s₂ = after_labels c.args.code.now s₁ c.sweep-n.ensures in
    let s₃ = after_unreachable c.args.code.now s₂ c.sweep-n-2.ensures in
    stage_below s₃

pub slice_bounds-sweep-end-7 : goal.slice_bounds-sweep-end-7
slice_bounds-sweep-end-7 c =
    let s₁ = stage_start (length c.args.code.now / 16) c.args.list.now c.requires.0 c.fill.ensures in
    let s₂ = after_labels c.args.code.now s₁ c.sweep-n.ensures in
    let s₃ = after_unreachable c.args.code.now s₂ c.sweep-n-2.ensures in
    let s₄ = after_jumps c.args.code.now s₃ c.sweep-n-3.ensures in
    stage_room s₄

pub slice_bounds-sweep-end-8 : goal.slice_bounds-sweep-end-8
slice_bounds-sweep-end-8 c =
    let s₁ = stage_start (length c.args.code.now / 16) c.args.list.now c.requires.0 c.fill.ensures in
    let s₂ = after_labels c.args.code.now s₁ c.sweep-n.ensures in
    let s₃ = after_unreachable c.args.code.now s₂ c.sweep-n-2.ensures in
    let s₄ = after_jumps c.args.code.now s₃ c.sweep-n-3.ensures in
    stage_taken s₄

pub sweep-requires : goal.sweep-requires
sweep-requires c =
    let s₁ = stage_start (length c.args.code.now / 16) c.args.list.now c.requires.0 c.fill.ensures in
    let s₂ = after_labels c.args.code.now s₁ c.sweep-n.ensures in
    let s₃ = after_unreachable c.args.code.now s₂ c.sweep-n-2.ensures in
    let s₄ = after_jumps c.args.code.now s₃ c.sweep-n-3.ensures in
    stage_below s₄

pub returns : goal.returns
returns c =
    let s₁ = stage_start (length c.args.code.now / 16) c.args.list.now c.requires.0 c.fill.ensures in
    let s₂ = after_labels c.args.code.now s₁ c.sweep-n.ensures in
    let s₃ = after_unreachable c.args.code.now s₂ c.sweep-n-2.ensures in
    let s₄ = after_jumps c.args.code.now s₃ c.sweep-n-3.ensures in
    let s₅ = after_loads c.args.code.now s₄ c.sweep.ensures in
    record { list = s₅.is; count = s₅.count }
