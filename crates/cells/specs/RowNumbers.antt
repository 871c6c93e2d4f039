-- Inner: the code's own form of a row of the table: a number whose lowest digit of sixteen is the class, and the further ones are the operands, the
-- first lowest.
use Rattle.std.specs.Prelude.{ℕ, ◌+◌, ◌*◌, List, [], ◌∷◌, cond, eqb}
use Rattle.cells.specs.Table.{Row}
use Rattle.cells.specs.declared.table.Kind.{Kind}
use Rattle.cells.specs.declared.table.Kind.TheVariants.{Reg, OptReg, Flag, Quad, Two, Four, Eight, Site}
use Rattle.cells.specs.declared.table.Class.{Class}
use Rattle.cells.specs.declared.table.Class.TheVariants.{NoCommand, LoadQ, LoadBool, LoadF64, LoadI32, LoadU32, LoadFx, Unary, Binary, Label, Jmp, JmpIf, Ret, Act, ActDst, ActOptDst}

abbrev pub kind_number : Kind → ℕ
kind_number Reg = 1
kind_number OptReg = 2
kind_number Flag = 3
kind_number Quad = 4
kind_number Two = 5
kind_number Four = 6
kind_number Eight = 7
kind_number Site = 8

-- the kind that a digit stands for
unfoldable pub kind_of : ℕ → Kind
kind_of n =
    cond (eqb n 1) Reg
    (cond (eqb n 2) OptReg
    (cond (eqb n 3) Flag
    (cond (eqb n 4) Quad
    (cond (eqb n 5) Two
    (cond (eqb n 6) Four
    (cond (eqb n 7) Eight Site))))))

abbrev pub packed : List Kind → ℕ
packed [] = 0
packed (k ∷ ks) = kind_number k + 16 * packed ks

abbrev pub class_number : Class → ℕ
class_number NoCommand = 0
class_number LoadQ = 1
class_number LoadBool = 2
class_number LoadF64 = 3
class_number LoadI32 = 4
class_number LoadU32 = 5
class_number LoadFx = 6
class_number Unary = 7
class_number Binary = 8
class_number Label = 9
class_number Jmp = 10
class_number JmpIf = 11
class_number Ret = 12
class_number Act = 13
class_number ActDst = 14
class_number ActOptDst = 15

-- the class that a digit stands for
unfoldable pub class_at : ℕ → Class
class_at n =
    cond (eqb n 1) LoadQ
    (cond (eqb n 2) LoadBool
    (cond (eqb n 3) LoadF64
    (cond (eqb n 4) LoadI32
    (cond (eqb n 5) LoadU32
    (cond (eqb n 6) LoadFx
    (cond (eqb n 7) Unary
    (cond (eqb n 8) Binary
    (cond (eqb n 9) Label
    (cond (eqb n 10) Jmp
    (cond (eqb n 11) JmpIf
    (cond (eqb n 12) Ret
    (cond (eqb n 13) Act
    (cond (eqb n 14) ActDst
    (cond (eqb n 15) ActOptDst NoCommand))))))))))))))

abbrev pub row_number : Row → ℕ
row_number r = class_number r.class + 16 * packed r.operands
