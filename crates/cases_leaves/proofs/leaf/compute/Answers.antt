use mir.Facts.{to_z-of_z}
use Rattle.std.proofs.Common.{arith}
use Rattle.cases_leaves.specs.Leaves.{answer_of, pick}
use Rattle.cases_leaves.proofs.Picked.{picked_none, fits_i32}
use Rattle.cases_leaves.proofs.leaf.compute.Goals as goal

pub returns-in-2 : goal.returns-in-2
unfolding answer_of pick
returns-in-2 c = simp (c.i32_leaf.ensures, c.i32_of-in-2.ensures, c.i32_of.ensures, c.in-2.is, to_z-of_z (fits_i32 c.args.a), to_z-of_z (fits_i32 c.args.b))

pub returns-in-3 : goal.returns-in-3
unfolding answer_of pick
returns-in-3 c = simp (c.u32_leaf.ensures, c.u32_of-in-3.ensures, c.u32_of.ensures, c.in-3.is)

pub returns-in-4 : goal.returns-in-4
unfolding answer_of pick
returns-in-4 c = simp (c.fx_leaf.ensures, c.i32_of-in-4-2.ensures, c.i32_of-in-4.ensures, c.in-4.is, to_z-of_z (fits_i32 c.args.a), to_z-of_z (fits_i32 c.args.b))

pub returns-in-8 : goal.returns-in-8
unfolding answer_of pick
returns-in-8 c = simp (c.factor_leaf.ensures, c.i32_of-in-8-2.ensures, c.i32_of-in-8.ensures, c.in-8.is, to_z-of_z (fits_i32 c.args.a), to_z-of_z (fits_i32 c.args.b))

pub returns-in_default : goal.returns-in_default
unfolding answer_of
returns-in_default c = picked_none _ _ (λ e. omega arith)
