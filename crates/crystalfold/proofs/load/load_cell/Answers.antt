-- `load::load_cell` meets its contract, kind by kind.
use mathlib.Core.Path.{◌≡◌, refl, ap, ◌∙◌}
use Prim.Native.Nat.{ℕ, ◌<◌}
use mir.Syntax.{w32}
use mir.Val.{of_z, SFits}
use mir.Facts.{to_z-of_z}
use Rattle.leaves.specs.declared.constant.ConstVal.{ConstVal}
use Rattle.leaves.specs.declared.constant.ConstVal.TheVariants.{F64, I32, Fx}
use Rattle.leaves.proofs.Integers.{bits_below}
use Rattle.leaves.proofs.Floats.{back}
use Rattle.cells.specs.Cells.{Cell}
use Rattle.cells.specs.View.{load_bytes, load_cell}
use Rattle.machine.specs.Values.{written_of}
use Rattle.crystalfold.specs.Rules.{known_of}
use Rattle.crystalfold.specs.InPlace.{load_or_zeros}
use borrow.Author.Rules.{rules}
use Rattle.crystalfold.proofs.LoadBytes.{number_below, bool_is, load_bytes-1, load_bytes-4}
use Rattle.crystalfold.proofs.load.load_cell.Goals as goal

-- what holds of the value that v is told to be holds of v
loaded : (d : ℕ) {v u : ConstVal} {c : Cell} → v ≡ u → c ≡ load_or_zeros d (written_of u) → known_of (written_of u) ≡ u
    → (c ≡ load_or_zeros d (written_of v)) × (known_of (written_of v) ≡ v)
loaded d e f g = rw e (f, g)

pub returns-in-Quad : goal.returns-in-Quad
unfolding load_cell
returns-in-Quad c =
    loaded _ c.in-Quad.is
    (c.load.ensures ∙ ap (load_bytes 0x2C _ 8) (c.from-in-Quad.ensures ∙ c.from.ensures) ∙ load_bytes-1 _ _ _ (number_below c.in-Quad.q))
    refl

pub returns-in-Bool : goal.returns-in-Bool
unfolding load_cell
returns-in-Bool c =
    let b = bool_is c.in-Bool.b in
    loaded _ c.in-Bool.is (c.load-in-Bool.ensures ∙ ap (load_bytes 0x28 _ 8) (c.from-in-Bool.ensures ∙ b.0) ∙ load_bytes-1 _ _ _ b.1) refl

pub returns-in-F64 : goal.returns-in-F64
unfolding load_cell
returns-in-F64 c =
    loaded _ c.in-F64.is (c.load-in-F64.ensures ∙ ap (load_bytes 0x29 _ 8) c.to_bits.ensures) (ap F64 (back _ (search rules)))

pub returns-in-I32 : goal.returns-in-I32
unfolding load_cell
returns-in-I32 c =
    let k : SFits w32 c.in-I32.a = search rules in
    loaded _ c.in-I32.is
    (c.load-in-I32.ensures ∙ ap (load_bytes 0x2B _ 8) (c.from-in-I32.ensures ∙ c.cast_unsigned.ensures ∙ ap (of_z w32) (to_z-of_z k)) ∙ load_bytes-4 _ _ _ (bits_below _ k))
    (ap I32 (to_z-of_z k))

pub returns-in-U32 : goal.returns-in-U32
unfolding load_cell
returns-in-U32 c =
    let h : c.in-U32.a < 4294967296 = search rules in
    loaded _ c.in-U32.is (c.load-in-U32.ensures ∙ ap (load_bytes 0x2E _ 8) c.from-in-U32.ensures ∙ load_bytes-4 _ _ _ h) refl

pub returns-in-Fx : goal.returns-in-Fx
unfolding load_cell
returns-in-Fx c =
    let k : SFits w32 c.in-Fx.a = search rules in
    loaded _ c.in-Fx.is
    (c.load-in-Fx.ensures ∙ ap (load_bytes 0x2A _ 8) (c.from-in-Fx.ensures ∙ c.cast_unsigned-in-Fx.ensures ∙ ap (of_z w32) (to_z-of_z k)) ∙ load_bytes-4 _ _ _ (bits_below _ k))
    (ap Fx (to_z-of_z k))
