-- `command::decode` meets its contract, class by class.
use mathlib.Core.Path.{◌≡◌, refl, sym, ap, ap₂, ◌∙◌}
use Prim.Native.Nat.{ℕ}
use mir.Syntax.{w32}
use mir.Val.{to_z}
use lib.Dec.{eqb, leb}
use Rattle.cells.specs.Cells.{Cell}
use Rattle.cells.specs.Bytes.{byte, half}
use Rattle.leaves.specs.Float.{float_of}
use Rattle.leaves.specs.declared.constant.ConstVal.{ConstVal}
use Rattle.leaves.specs.declared.constant.ConstVal.TheVariants.{Quad as QuadV, F64, I32, U32, Fx}
use Rattle.cells.specs.View.{view_as}
use Rattle.cells.specs.declared.table.Class.{Class}
use Rattle.crystalfold.specs.declared.command.Command.TheVariants.{Load, Compute, Forget}
use Rattle.crystalfold.specs.Commands.{command_in, command_of, acting, optional_dst}
use Rattle.crystalfold.proofs.Effects.{by_class, forget-optional}
use borrow.Author.Rules.{rules}
use Rattle.crystalfold.proofs.command.decode.Goals as goal
use Rattle.crystalfold.proofs.command.decode.Goals.{After-class_of}

-- at an arm: the command goes by the class
module _ (d : After-class_of) {k : Class} (e : d.class_of.result ≡ k) where
  abbrev sent : Cell
  sent = d.args.c.now

  is : command_in (view_as k sent) ≡ command_of sent
  is = by_class _ (sym e ∙ d.class_of.ensures)

  -- a load, whose dst is the first operand, and a computed command
  is_load : {v w : ConstVal} → command_in (view_as k sent) ≡ Load (half sent 1) w → v ≡ w → Load d.half-dst.result v ≡ command_of sent
  is_load i f = ap₂ Load d.half-dst.ensures.0 f ∙ sym i ∙ is

  is_compute : {a b l r : ℕ} → command_in (view_as k sent) ≡ Compute (byte sent 0) (half sent 1) l r → a ≡ l → b ≡ r
      → Compute (byte sent 0) d.half-dst.result a b ≡ command_of sent
  is_compute i f g = cc (d.half-dst.ensures.0, is)

pub returns-in-ActDst : goal.returns-in-ActDst
returns-in-ActDst c =
    let s = c.args.c.now in
    c.act-in-ActDst.ensures ∙ ap (λ (n : ℕ). acting (leb (byte s 0) 0x10) (Forget n)) c.half-dst.ensures.0 ∙ is (goal.at.returns-in-ActDst c).After-class_of c.in-ActDst.is

pub returns-in-ActOptDst : goal.returns-in-ActOptDst
returns-in-ActOptDst c =
    let s = c.args.c.now in
    let o = c.optional_dst.ensures ∙ ap (optional_dst (byte s 1)) c.half-in-ActOptDst.ensures.0 ∙ sym (forget-optional (eqb (byte s 1) 0) (half s 2)) in
    c.act-in-ActOptDst.ensures ∙ ap (acting (leb (byte s 0) 0x10)) o ∙ is (goal.at.returns-in-ActOptDst c).After-class_of c.in-ActOptDst.is

pub returns-in-NoCommand : goal.returns-in-NoCommand
returns-in-NoCommand c = is (goal.at.returns-in-NoCommand c).After-class_of c.in-NoCommand.is

pub returns-in-LoadQ : goal.returns-in-LoadQ
returns-in-LoadQ c = is_load (goal.at.returns-in-LoadQ c).After-class_of c.in-LoadQ.is refl (ap QuadV c.read_quad.ensures)

pub returns-in-LoadBool : goal.returns-in-LoadBool
returns-in-LoadBool c = is_load (goal.at.returns-in-LoadBool c).After-class_of c.in-LoadBool.is refl refl

pub returns-in-LoadF64 : goal.returns-in-LoadF64
returns-in-LoadF64 c = is_load (goal.at.returns-in-LoadF64 c).After-class_of c.in-LoadF64.is refl (ap F64 (c.of_bits.ensures ∙ ap float_of c.long.ensures))

pub returns-in-LoadI32 : goal.returns-in-LoadI32
returns-in-LoadI32 c = is_load (goal.at.returns-in-LoadI32 c).After-class_of c.in-LoadI32.is refl (ap I32 (search rules ∙ c.cast_signed.ensures ∙ ap (to_z w32) c.word.ensures.0))

pub returns-in-LoadU32 : goal.returns-in-LoadU32
returns-in-LoadU32 c = is_load (goal.at.returns-in-LoadU32 c).After-class_of c.in-LoadU32.is refl (ap U32 c.word-in-LoadU32.ensures.0)

pub returns-in-LoadFx : goal.returns-in-LoadFx
returns-in-LoadFx c = is_load (goal.at.returns-in-LoadFx c).After-class_of c.in-LoadFx.is refl (ap Fx (search rules ∙ c.cast_signed-in-LoadFx.ensures ∙ ap (to_z w32) c.word-in-LoadFx.ensures.0))

pub returns-in-Unary : goal.returns-in-Unary
returns-in-Unary c = is_compute (goal.at.returns-in-Unary c).After-class_of c.in-Unary.is refl c.half.ensures.0 c.half-in-Unary.ensures.0

pub returns-in-Binary : goal.returns-in-Binary
returns-in-Binary c = is_compute (goal.at.returns-in-Binary c).After-class_of c.in-Binary.is refl c.half-in-Binary.ensures.0 c.half-in-Binary-2.ensures.0

pub returns-in-Label : goal.returns-in-Label
returns-in-Label c = is (goal.at.returns-in-Label c).After-class_of c.in-Label.is

pub returns-in-Jmp : goal.returns-in-Jmp
returns-in-Jmp c = is (goal.at.returns-in-Jmp c).After-class_of c.in-Jmp.is

pub returns-in-JmpIf : goal.returns-in-JmpIf
returns-in-JmpIf c = is (goal.at.returns-in-JmpIf c).After-class_of c.in-JmpIf.is

pub returns-in-Ret : goal.returns-in-Ret
returns-in-Ret c = is (goal.at.returns-in-Ret c).After-class_of c.in-Ret.is

pub returns-in-Act : goal.returns-in-Act
returns-in-Act c = c.act.ensures ∙ is (goal.at.returns-in-Act c).After-class_of c.in-Act.is
