-- Worked: the limit of registers (document 02, W7) at every register of each of the 81 commands, as the table has them: 1,023 is read and 1,024 is out
-- of range, for an optional one too; an absent one is zero in both bytes. The other operands of 2 bytes, names, labels and lists, may be any number.
use Rattle.std.specs.Prelude.{ℕ, zero, suc, ◌+◌, ◌-◌, Bool, true, not, ◌&&◌, List, [], ◌∷◌, ◌++◌, T, replicate}
use Rattle.cells.specs.Assembler.{cell}
use Rattle.cells.specs.Bytes.{bytes}
use Rattle.cells.specs.Check.{row_ok}
use Rattle.cells.specs.Table.{rows, row_of, width_of}
use Rattle.cells.specs.declared.table.Kind.{Kind}
use Rattle.cells.specs.declared.table.Kind.TheVariants.{Reg, OptReg, Flag, Quad, Two, Four, Eight, Site}

-- the operands of command n are right, where these bytes stand from the byte at on and zeros elsewhere
abbrev pub right : ℕ → ℕ → List ℕ → Bool
right n at s = row_ok n (cell (n ∷ replicate (at - 1) 0 ++ s))

-- a register behind the bytes p at the byte at of command n: 1,023 is the last
abbrev pub register_limited : ℕ → ℕ → List ℕ → Bool
register_limited n at p = right n at (p ++ bytes 2 255) && right n at (p ++ bytes 2 256) && right n at (p ++ bytes 2 257) && right n at (p ++ bytes 2 1023)
    && not (right n at (p ++ bytes 2 1024)) && not (right n at (p ++ bytes 2 65535))

-- the operand at the byte at of command n, by its kind
abbrev pub limited : ℕ → ℕ → Kind → Bool
limited n at Reg = register_limited n at []
limited n at OptReg = register_limited n at (1 ∷ [])
    && right n at (0 ∷ bytes 2 0) && not (right n at (0 ∷ bytes 2 1)) && not (right n at (0 ∷ bytes 2 256))
limited n at Two = right n at (bytes 2 1024) && right n at (bytes 2 65535)
limited n at Flag = true
limited n at Quad = true
limited n at Four = true
limited n at Eight = true
limited n at Site = true

abbrev pub all_limited : ℕ → ℕ → List Kind → Bool
all_limited n at [] = true
all_limited n at (k ∷ ks) = limited n at k && all_limited n (at + width_of k) ks

-- m commands from n on
abbrev pub commands_limited : ℕ → ℕ → Bool
commands_limited zero n = true
commands_limited (suc m) n = all_limited n 1 (row_of n) && commands_limited m (suc n)

pub limits_hold : T (commands_limited 0x51 1)
unfolding rows
limits_hold = tt
