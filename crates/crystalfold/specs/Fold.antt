-- Promise: CrystalFold's pass, from left to right (document 01, module 5), over cells of any form: `see` says what a cell is, and `make d v` is the cell
-- that loads v into d. Its rules are a parameter.
use Rattle.std.specs.Prelude.{cond, List, [], ◌∷◌, ℕ, ◌+◌, eqb, Option, None, Some}
use Rattle.cells.specs.Ins.{Const, Ins, load, comp, label, jmp, jmp_if, ret, act}
use Rattle.crystalfold.specs.Rules.{Rules, fold₂}

-- what is known of each register
abbrev pub Table : Type 0
Table = ℕ → Option Const

abbrev pub unknown : Table
unknown = λ x. None

-- the same, with k known of register d
unfoldable pub note : ℕ → Option Const → Table → Table
note d k t = λ x. cond (eqb x d) k (t x)

-- an optional dst that is absent forgets nothing
abbrev pub forget : Option ℕ → Table → Table
forget None t = t
forget (Some d) t = note d None t

-- the value that a cell is folded to
abbrev pub folded_to : Rules → Table → Ins → Option Const
folded_to f t (load d v) = None
folded_to f t (comp c o d a b) = fold₂ (f o) (t a) (t b)
folded_to f t (label l) = None
folded_to f t (jmp l) = None
folded_to f t (jmp_if c l) = None
folded_to f t (ret s) = None
folded_to f t (act c d b) = None

abbrev pub dst_of : Ins → ℕ
dst_of (load d v) = d
dst_of (comp c o d a b) = d
dst_of (label l) = 0
dst_of (jmp l) = 0
dst_of (jmp_if c l) = 0
dst_of (ret s) = 0
dst_of (act c d b) = 0

-- what is known after a cell: a load's value, a fold's or nothing of a computed command's dst; nothing at all after a barrier
abbrev pub known_after : Rules → Table → Ins → Table
known_after f t (load d v) = note d (Some v) t
known_after f t (comp c o d a b) = note d (fold₂ (f o) (t a) (t b)) t
known_after f t (label l) = unknown
known_after f t (jmp l) = unknown
known_after f t (jmp_if c l) = unknown
known_after f t (ret s) = unknown
known_after f t (act c d b) = cond b unknown (forget d t)

-- each fold counts 1
abbrev pub one_if : Option Const → ℕ
one_if None = 0
one_if (Some v) = 1

module _ {C : Type 0} (see : C → Ins) (f : Rules) where
  abbrev pub fold_count : Table → List C → ℕ
  fold_count t [] = 0
  fold_count t (c ∷ p) = one_if (folded_to f t (see c)) + fold_count (known_after f t (see c)) p

  module _ (make : ℕ → Const → C) where
    abbrev pub as_load : C → ℕ → Option Const → C
    as_load c d None = c
    as_load c d (Some v) = make d v

    abbrev pub fold : Table → List C → List C
    fold t [] = []
    fold t (c ∷ p) = as_load c (dst_of (see c)) (folded_to f t (see c)) ∷ fold (known_after f t (see c)) p
