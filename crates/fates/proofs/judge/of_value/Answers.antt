-- `judge::of_value` meets its contract, kind by kind.
use mathlib.Core.Path.{◌≡◌, refl, ap, ◌∙◌}
use mir.Syntax.{w32}
use mir.Val.{to_z, of_z}
use Rattle.leaves.specs.declared.constant.ConstVal.{ConstVal}
use Rattle.leaves.specs.declared.constant.ConstVal.TheVariants.{F64, I32, Fx}
use Rattle.leaves.proofs.Floats.{back}
use Rattle.machine.specs.Values.{written_of}
use Rattle.crystalfold.specs.Rules.{known_of}
use Rattle.crystalfold.proofs.LoadBytes.{bool_is}
use Rattle.fates.specs.Fates.{folded_as}
use Rattle.fates.specs.Steps.{ValueTold}
use Rattle.fates.specs.declared.Fate.{Fate}
use Rattle.fates.specs.declared.Fate.TheVariants.{Folded}
use borrow.Author.Rules.{rules}
use Rattle.fates.proofs.judge.of_value.Goals as goal

-- what holds of the value that v is told to be holds of v
told : {v u : ConstVal} {x : Fate} → v ≡ u → x ≡ folded_as (written_of u) → known_of (written_of u) ≡ u → ValueTold v x
told e f g = rw e (record { fate = f; read_back = g })

pub returns-in-Unknown : goal.returns-in-Unknown
returns-in-Unknown c = told c.in-Unknown.is refl refl

pub returns-in-Quad : goal.returns-in-Quad
returns-in-Quad c = told c.in-Quad.is (ap (Folded 0x2C) (c.from-in-Quad.ensures ∙ c.from.ensures)) refl

pub returns-in-Bool : goal.returns-in-Bool
returns-in-Bool c = told c.in-Bool.is (ap (Folded 0x28) (c.from-in-Bool.ensures ∙ (bool_is c.in-Bool.b).0)) refl

pub returns-in-F64 : goal.returns-in-F64
returns-in-F64 c = told c.in-F64.is (ap (Folded 0x29) c.to_bits.ensures) (ap F64 (back _ (search rules)))

pub returns-in-I32 : goal.returns-in-I32
returns-in-I32 c = let e : to_z w32 (of_z w32 c.in-I32.a) ≡ c.in-I32.a = search rules in told c.in-I32.is (ap (Folded 0x2B) (c.from-in-I32.ensures ∙ c.cast_unsigned.ensures ∙ ap (of_z w32) e)) (ap I32 e)

pub returns-in-U32 : goal.returns-in-U32
returns-in-U32 c = told c.in-U32.is (ap (Folded 0x2E) c.from-in-U32.ensures) refl

pub returns-in-Fx : goal.returns-in-Fx
returns-in-Fx c = let e : to_z w32 (of_z w32 c.in-Fx.a) ≡ c.in-Fx.a = search rules in told c.in-Fx.is (ap (Folded 0x2A) (c.from-in-Fx.ensures ∙ c.cast_unsigned-in-Fx.ensures ∙ ap (of_z w32) e)) (ap Fx e)
