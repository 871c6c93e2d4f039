-- `constant::const_eq` meets its contract, kind by kind.
use Rattle.std.proofs.Common.{rules, sym, ◌∙◌, SFits, w32}
use Rattle.leaves.specs.Constants.{const_eq}
use Rattle.leaves.proofs.Ranges.{same_bits}
use Rattle.leaves.proofs.ByKind.{on_quad-other, on_bool-other, on_f64-other, on_i32-other, on_u32-other, on_fx-other, sameb-quads}
use Rattle.leaves.proofs.constant.const_eq.Goals as goal

pub returns-in-Quad-Quad : goal.returns-in-Quad-Quad
unfolding const_eq
returns-in-Quad-Quad c = let d = c.in-Quad-Quad in c.eq.ensures ∙ sameb-quads _ _ ∙ simp (d.is-0, d.is-1)

pub returns-in-Bool-Bool : goal.returns-in-Bool-Bool
unfolding const_eq
returns-in-Bool-Bool c = let d = c.in-Bool-Bool in simp (d.is-0, d.is-1)

pub returns-in-F64-F64 : goal.returns-in-F64-F64
unfolding const_eq
returns-in-F64-F64 c = let d = c.in-F64-F64 in simp (d.is-0, d.is-1)

pub returns-in-U32-U32 : goal.returns-in-U32-U32
unfolding const_eq
returns-in-U32-U32 c = let d = c.in-U32-U32 in simp (d.is-0, d.is-1)

pub returns-in-I32-I32 : goal.returns-in-I32-I32
unfolding const_eq
returns-in-I32-I32 c =
    let d = c.in-I32-I32 in
    let h : SFits w32 d.x = search rules in
    let k : SFits w32 d.y = search rules in
    same_bits _ _ h k ∙ simp (d.is-0, d.is-1)

pub returns-in-Fx-Fx : goal.returns-in-Fx-Fx
unfolding const_eq
returns-in-Fx-Fx c =
    let d = c.in-Fx-Fx in
    let h : SFits w32 d.x = search rules in
    let k : SFits w32 d.y = search rules in
    same_bits _ _ h k ∙ simp (d.is-0, d.is-1)

-- values of two kinds
pub returns-in_default : goal.returns-in_default
unfolding const_eq
returns-in_default c = let d = c.in_default in simp d.is-0 (sym (on_quad-other c.args.b _ _ d.not-Quad-1))

pub returns-in_default-2 : goal.returns-in_default-2
unfolding const_eq
returns-in_default-2 c = let d = c.in_default in simp d.is-0 (sym (on_bool-other c.args.b _ _ d.not-Bool-1))

pub returns-in_default-3 : goal.returns-in_default-3
unfolding const_eq
returns-in_default-3 c = let d = c.in_default in simp d.is-0 (sym (on_f64-other c.args.b _ _ d.not-F64-1))

pub returns-in_default-4 : goal.returns-in_default-4
unfolding const_eq
returns-in_default-4 c = let d = c.in_default in simp d.is-0 (sym (on_i32-other c.args.b _ _ d.not-I32-1))

pub returns-in_default-5 : goal.returns-in_default-5
unfolding const_eq
returns-in_default-5 c = let d = c.in_default in simp d.is-0 (sym (on_u32-other c.args.b _ _ d.not-U32-1))

pub returns-in_default-6 : goal.returns-in_default-6
unfolding const_eq
returns-in_default-6 c = let d = c.in_default in simp d.is-0 (sym (on_fx-other c.args.b _ _ d.not-Fx-1))

pub returns-in_default-7 : goal.returns-in_default-7
unfolding const_eq
returns-in_default-7 c = simp c.in_default.is-0
