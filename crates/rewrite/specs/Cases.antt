-- Worked: Document 01's starred cases ('Cells on either edge') and its printed example, and registers past 255 (document 02, W7), through the whole
-- rewrite with the default rules; and document 02's truth-order quads (W2) and divisions of an f64 by zero (W4), through both rewrites, the latter also
-- by what is recorded before and after: a table each, and one theorem of all its rows.
use Rattle.std.specs.Prelude.{◌≡◌, refl, true, false, List, [], ◌∷◌, ◌++◌, map, ℕ, Some}
use Rattle.std.specs.Float.Ieee as Ieee
use Rattle.leaves.specs.declared.quad.Quad.TheVariants.{N, F, T, S}
use Rattle.leaves.specs.Signed.{wrap, add_i32, div_i32, mod_i32}
use Rattle.leaves.specs.Unsigned.{sub_u32, div_u32}
use Rattle.leaves.specs.Fixed.{mul_fx, div_fx}
use Rattle.leaves.specs.Float.{float_of, bits_of, div_f64}
use Rattle.leaves.specs.Quads.{meet, join, quad_of}
use Rattle.leaves.specs.Constants.{const_eq}
use Rattle.cells.specs.Cells.{Cell}
use Rattle.cells.specs.Ins.{Const, quad, bool, f64, i32, u32, fx}
use Rattle.cells.specs.Table.{rows, class_of}
use Rattle.cells.specs.View.{view, load_cell}
use Rattle.cells.specs.Bytes.{bytes}
use Rattle.cells.specs.Assembler.{cell, Label, Jmp, Ret, LoadBool, LoadF64, LoadI32, LoadQ, LoadU32, binary, unary, AddI32, CmpEq, DivF64, SubF64, QAnd, QTruthAnd, QTruthImpl, QTruthNot, QTruthOr, ClockRead, StoreVar}
use Rattle.machine.specs.Values.{con, other, set, put, shown}
use Rattle.machine.specs.Compute.{meanings, meaning, compute}
use Rattle.machine.specs.Run.{returned, Entry, did, ended, exec, after}
use Rattle.machine.specs.Runs.{initial, holding, counts}
use Rattle.cleanup.specs.Cleanup.{clean_code, clean_count}
use Rattle.cleanup.specs.Cases.{FunctionCase, case}
use Rattle.crystalfold.specs.Rules.{default_table, default_rules, fuller_table, fuller_rules}
use Rattle.crystalfold.specs.Fold.{note}
use Rattle.crystalfold.specs.CrystalFold.{fold_code, folds_of}
use Rattle.rewrite.specs.Rewrite.{rewrite_code, rewrite_count}

-- a command at constants in r1 and r2, for r3: it is folded into the load of its result, or stays
abbrev pub folds : ℕ → Const → Const → Const → FunctionCase
folds o a b v = case (load_cell 1 a ∷ load_cell 2 b ∷ binary o 3 1 2 ∷ []) (load_cell 1 a ∷ load_cell 2 b ∷ load_cell 3 v ∷ []) 1

abbrev pub remains : ℕ → Const → Const → FunctionCase
remains o a b = case (load_cell 1 a ∷ load_cell 2 b ∷ binary o 3 1 2 ∷ []) (load_cell 1 a ∷ load_cell 2 b ∷ binary o 3 1 2 ∷ []) 0

abbrev pub cases : List FunctionCase
cases =
    -- * I32 2,147,483,647 + 1 folds to -2,147,483,648
    folds 0x13 (i32 0x7FFFFFFF) (i32 1) (i32 0x80000000)
    -- * I32 -7 / 2 gives -3, remainder -1
    ∷ folds 0x27 (i32 0xFFFFFFF9) (i32 2) (i32 0xFFFFFFFD)
    ∷ folds 0x39 (i32 0xFFFFFFF9) (i32 2) (i32 0xFFFFFFFF)
    -- * I32 -2,147,483,648 / -1 stays
    ∷ remains 0x27 (i32 0x80000000) (i32 0xFFFFFFFF)
    -- * U32 0 - 1 stays
    ∷ remains 0x1F (u32 0) (u32 1)
    -- * Fx raw 1500 times 1500 gives 2250; -1 times 1 gives 0
    ∷ folds 0x3B (fx 1500) (fx 1500) (fx 2250)
    ∷ folds 0x3B (fx 0xFFFFFFFF) (fx 1) (fx 0)
    -- * Fx raw 2,147,483,647 times 1000 folds; times 1001 stays
    ∷ folds 0x3B (fx 2147483647) (fx 1000) (fx 2147483647)
    ∷ remains 0x3B (fx 2147483647) (fx 1001)
    -- * QAnd T F is N; QOr T F is S; QImpl F N is T
    ∷ folds 0x3D (quad T) (quad F) (quad N)
    ∷ folds 0x40 (quad T) (quad F) (quad S)
    ∷ folds 0x3E (quad F) (quad N) (quad T)
    -- * CmpEq of I32 0 and U32 0 is false; of 0.0 and -0.0 true
    ∷ folds 0x19 (i32 0) (u32 0) (bool false)
    ∷ folds 0x19 (f64 0) (f64 0x8000000000000000) (bool true)
    -- * Label 1, Jmp 1, Label 1 becomes Label 1, Label 1; count 1
    ∷ case (Label 1 ∷ Jmp 1 ∷ Label 1 ∷ []) (Label 1 ∷ Label 1 ∷ []) 1
    -- * LoadI32 r1, LoadBool r1 keeps the second; two LoadU32 r1 both stay
    ∷ case (LoadI32 1 5 ∷ LoadBool 1 1 ∷ []) (LoadBool 1 1 ∷ []) 1
    ∷ case (LoadU32 1 5 ∷ LoadU32 1 5 ∷ []) (LoadU32 1 5 ∷ LoadU32 1 5 ∷ []) 0
    -- the printed example: LoadI32 r1 5, AddI32 r2 r1 r1, Ret r2
    ∷ case (LoadI32 1 5 ∷ AddI32 2 1 1 ∷ Ret 2 ∷ []) (LoadI32 1 5 ∷ LoadI32 2 10 ∷ Ret 2 ∷ []) 1
    -- folds through registers past 255, the last one as lhs, as rhs and as dst
    ∷ case (LoadI32 256 5 ∷ LoadI32 1023 7 ∷ AddI32 511 1023 256 ∷ AddI32 1023 256 1023 ∷ AddI32 255 511 1023 ∷ Ret 255 ∷ [])
    (LoadI32 256 5 ∷ LoadI32 1023 7 ∷ LoadI32 511 12 ∷ LoadI32 1023 12 ∷ LoadI32 255 24 ∷ Ret 255 ∷ [])
    3
    -- 1 and 257 are two registers: what is known of the one isn't known of the other, and a load of the one leaves the other
    ∷ case (LoadI32 1 5 ∷ LoadI32 257 7 ∷ AddI32 2 1 257 ∷ AddI32 258 257 257 ∷ AddI32 2 2 258 ∷ [])
    (LoadI32 1 5 ∷ LoadI32 257 7 ∷ LoadI32 2 12 ∷ LoadI32 258 14 ∷ LoadI32 2 26 ∷ [])
    3
    ∷ case (LoadI32 1 5 ∷ AddI32 2 257 257 ∷ AddI32 3 257 1 ∷ []) (LoadI32 1 5 ∷ AddI32 2 257 257 ∷ AddI32 3 257 1 ∷ []) 0
    ∷ case (LoadI32 257 5 ∷ AddI32 2 1 1 ∷ AddI32 3 1 257 ∷ []) (LoadI32 257 5 ∷ AddI32 2 1 1 ∷ AddI32 3 1 257 ∷ []) 0
    -- and so is what another command writes: LoadVar forgets its own dst alone
    ∷ case (LoadI32 1 5 ∷ LoadI32 257 7 ∷ LoadVar 257 ∷ AddI32 2 1 1 ∷ AddI32 3 257 257 ∷ [])
    (LoadI32 1 5 ∷ LoadI32 257 7 ∷ LoadVar 257 ∷ LoadI32 2 10 ∷ AddI32 3 257 257 ∷ [])
    1
    -- a load goes where its next cell loads the same register, in both bytes
    ∷ case (LoadI32 1 5 ∷ LoadI32 257 5 ∷ LoadI32 257 6 ∷ Ret 257 ∷ []) (LoadI32 1 5 ∷ LoadI32 257 6 ∷ Ret 257 ∷ []) 1
    ∷ []
  where
    LoadVar : ℕ → Cell
    LoadVar d = cell (0x2F ∷ bytes 2 d ++ bytes 2 9)

pub cases_hold :
    map (λ (c : FunctionCase). case c.sent (rewrite_code default_rules c.sent) (rewrite_count default_rules c.sent)) cases ≡ cases
unfolding rewrite_code rewrite_count clean_code clean_count fold_code folds_of default_rules default_table note view load_cell class_of rows meet join quad_of wrap add_i32 div_i32 mod_i32 sub_u32 mul_fx const_eq float_of Ieee.eq Ieee.of_bits
cases_hold = refl

-- ---- the truth-order quads: "a fuller rewrite which folds them as well; the default one remains the Rust's"

-- a function as sent, as each rewrite hands it back, and each count
pub record BothCase : Type 0 where
  pub sent : List Cell
  pub by_default : List Cell
  pub default_count : ℕ
  pub by_fuller : List Cell
  pub fuller_count : ℕ

abbrev pub both : List Cell → List Cell → ℕ → List Cell → ℕ → BothCase
both s d m f n = record { sent = s; by_default = d; default_count = m; by_fuller = f; fuller_count = n }

-- what the rewrites make of a case's function
abbrev pub as_rewritten : BothCase → BothCase
as_rewritten c =
    both c.sent (rewrite_code default_rules c.sent) (rewrite_count default_rules c.sent) (rewrite_code fuller_rules c.sent) (rewrite_count fuller_rules c.sent)

-- left by the default rewrite, which changes nothing
abbrev pub folded : List Cell → List Cell → ℕ → BothCase
folded s f n = both s s 0 f n

-- left by both
abbrev pub left : List Cell → BothCase
left s = both s s 0 s 0

-- a command at quads in r1 and r2, for r3
abbrev pub truth : (ℕ → ℕ → ℕ → Cell) → ℕ → ℕ → ℕ → BothCase
truth o a b v = folded (LoadQ 1 a ∷ LoadQ 2 b ∷ o 3 1 2 ∷ []) (LoadQ 1 a ∷ LoadQ 2 b ∷ LoadQ 3 v ∷ []) 1

abbrev pub truth_not : ℕ → ℕ → BothCase
truth_not a v = folded (LoadQ 1 a ∷ QTruthNot 3 1 ∷ []) (LoadQ 1 a ∷ LoadQ 3 v ∷ []) 1

-- quads by their numbers: N 0, F 1, T 2, S 3
abbrev pub truth_cases : List BothCase
truth_cases =
    -- F is below T, and N and S can't be compared: their and is F, their or is T
    truth QTruthAnd 2 1 1
    ∷ truth QTruthAnd 0 3 1
    ∷ truth QTruthAnd 2 3 3
    ∷ truth QTruthOr 2 1 2
    ∷ truth QTruthOr 3 0 2
    ∷ truth QTruthOr 1 0 0
    -- not F or N is T; not T or N is N; not N or S is T
    ∷ truth QTruthImpl 1 0 2
    ∷ truth QTruthImpl 2 0 0
    ∷ truth QTruthImpl 0 3 2
    -- not exchanges F and T
    ∷ truth_not 0 0
    ∷ truth_not 1 2
    ∷ truth_not 2 1
    ∷ truth_not 3 3
    -- one register for both operands and dst
    ∷ folded (LoadQ 1 3 ∷ QTruthAnd 1 1 1 ∷ Ret 1 ∷ []) (LoadQ 1 3 ∷ LoadQ 1 3 ∷ Ret 1 ∷ []) 1
    -- what follows from a folded one: QAnd of S and T is T; not T is F
    ∷ folded (LoadQ 1 2 ∷ LoadQ 2 3 ∷ QTruthAnd 3 1 2 ∷ QAnd 4 3 1 ∷ QTruthNot 5 4 ∷ Ret 5 ∷ [])
    (LoadQ 1 2 ∷ LoadQ 2 3 ∷ LoadQ 3 3 ∷ LoadQ 4 2 ∷ LoadQ 5 1 ∷ Ret 5 ∷ [])
    3
    -- the default rewrite forgets dst, so that QNot r3 r1 stays there; what doesn't depend on it is folded by both
    ∷ folded (LoadQ 1 2 ∷ LoadQ 2 1 ∷ QTruthAnd 1 1 2 ∷ unary 0x3F 3 1 ∷ []) (LoadQ 1 2 ∷ LoadQ 2 1 ∷ LoadQ 1 1 ∷ LoadQ 3 2 ∷ []) 2
    ∷ both (LoadQ 1 2 ∷ LoadQ 2 1 ∷ QTruthOr 3 1 2 ∷ QAnd 4 1 2 ∷ [])
    (LoadQ 1 2 ∷ LoadQ 2 1 ∷ QTruthOr 3 1 2 ∷ LoadQ 4 0 ∷ [])
    1
    (LoadQ 1 2 ∷ LoadQ 2 1 ∷ LoadQ 3 2 ∷ LoadQ 4 0 ∷ [])
    2
    -- an operand unknown, on either side, though the other decides the result; or of another kind
    ∷ left (LoadQ 1 1 ∷ QTruthAnd 3 1 2 ∷ [])
    ∷ left (LoadQ 1 1 ∷ QTruthAnd 3 2 1 ∷ [])
    ∷ left (QTruthNot 3 1 ∷ [])
    ∷ left (LoadQ 1 1 ∷ LoadBool 2 0 ∷ QTruthOr 3 1 2 ∷ [])
    ∷ left (LoadI32 1 1 ∷ LoadQ 2 1 ∷ QTruthImpl 3 1 2 ∷ [])
    ∷ left (LoadBool 1 1 ∷ QTruthNot 3 1 ∷ [])
    -- both forget the dst of one that stays, so that QNot r3 r1 stays
    ∷ left (LoadQ 1 2 ∷ LoadBool 2 1 ∷ QTruthAnd 1 1 2 ∷ unary 0x3F 3 1 ∷ [])
    -- nothing is known past a barrier
    ∷ left (LoadQ 1 1 ∷ Label 1 ∷ QTruthNot 3 1 ∷ [])
    ∷ left (LoadQ 1 1 ∷ ClockRead 2 ∷ QTruthNot 3 1 ∷ [])
    -- the Rust's rules, and cleanup, in both
    ∷ both (LoadI32 1 5 ∷ AddI32 2 1 1 ∷ Ret 2 ∷ QTruthNot 3 1 ∷ []) (LoadI32 1 5 ∷ LoadI32 2 10 ∷ Ret 2 ∷ []) 2 (LoadI32 1 5 ∷ LoadI32 2 10 ∷ Ret 2 ∷ []) 2
    ∷ []

pub truth_hold : map as_rewritten truth_cases ≡ truth_cases
unfolding rewrite_code rewrite_count clean_code clean_count fold_code folds_of default_rules default_table fuller_rules fuller_table note view load_cell class_of rows meet join quad_of wrap add_i32
truth_hold = refl

-- ---- division of an f64 by zero: "The fuller rewrite folds these divisions and the default one still leaves them"

-- f64 values by their bits: 1.0, -1.0, -0.0 (0.0 is 0), infinity and -infinity, NaN as it is computed
abbrev pub one : ℕ
one = 0x3FF0000000000000

abbrev pub minus_one : ℕ
minus_one = 0xBFF0000000000000

abbrev pub minus_zero : ℕ
minus_zero = 0x8000000000000000

abbrev pub infinity : ℕ
infinity = 0x7FF0000000000000

abbrev pub minus_infinity : ℕ
minus_infinity = 0xFFF0000000000000

abbrev pub computed_nan : ℕ
computed_nan = 0x7FF8000000000000

abbrev pub division_cases : List BothCase
division_cases =
    -- one register for both operands and dst
    folded (LoadF64 1 0 ∷ DivF64 1 1 1 ∷ Ret 1 ∷ []) (LoadF64 1 0 ∷ LoadF64 1 computed_nan ∷ Ret 1 ∷ []) 1
    -- what follows from a folded one: infinity less itself is NaN, which isn't equal to itself
    ∷ folded (LoadF64 1 one ∷ LoadF64 2 0 ∷ DivF64 3 1 2 ∷ SubF64 4 3 3 ∷ CmpEq 5 4 4 ∷ Ret 5 ∷ [])
    (LoadF64 1 one ∷ LoadF64 2 0 ∷ LoadF64 3 infinity ∷ LoadF64 4 computed_nan ∷ LoadBool 5 0 ∷ Ret 5 ∷ [])
    3
    -- the default rewrite forgets dst, so that SubF64 r3 r1 r2 stays there; what doesn't depend on it is folded by both: the zero itself
    ∷ folded (LoadF64 1 minus_one ∷ LoadF64 2 0 ∷ DivF64 1 1 2 ∷ SubF64 3 1 2 ∷ [])
    (LoadF64 1 minus_one ∷ LoadF64 2 0 ∷ LoadF64 1 minus_infinity ∷ LoadF64 3 minus_infinity ∷ [])
    2
    ∷ both (LoadF64 1 one ∷ SubF64 2 1 1 ∷ DivF64 3 1 2 ∷ [])
    (LoadF64 1 one ∷ LoadF64 2 0 ∷ DivF64 3 1 2 ∷ [])
    1
    (LoadF64 1 one ∷ LoadF64 2 0 ∷ LoadF64 3 infinity ∷ [])
    2
    -- by another divisor both fold: 1.0 by -1.0, by infinity, and by a NaN
    ∷ folded_by_both one minus_one minus_one
    ∷ folded_by_both one infinity 0
    ∷ folded_by_both one 0xFFF0000000000001 computed_nan
    -- an operand unknown, on either side; or of another kind
    ∷ left (LoadF64 2 0 ∷ DivF64 3 1 2 ∷ [])
    ∷ left (LoadF64 1 one ∷ DivF64 3 1 2 ∷ [])
    ∷ left (LoadF64 1 one ∷ LoadI32 2 0 ∷ DivF64 3 1 2 ∷ [])
    ∷ left (LoadU32 1 0 ∷ LoadF64 2 0 ∷ DivF64 3 1 2 ∷ [])
    -- both forget the dst of one that stays, so that SubF64 r3 r1 r1 stays
    ∷ left (LoadF64 1 one ∷ LoadI32 2 0 ∷ DivF64 1 1 2 ∷ SubF64 3 1 1 ∷ [])
    -- nothing is known past a barrier
    ∷ left (LoadF64 1 one ∷ LoadF64 2 0 ∷ Label 1 ∷ DivF64 3 1 2 ∷ [])
    -- divisions of other kinds by zero stay in both: DivI32, DivU32, DivFx
    ∷ left (LoadI32 1 5 ∷ LoadI32 2 0 ∷ binary 0x27 3 1 2 ∷ [])
    ∷ left (LoadU32 1 5 ∷ LoadU32 2 0 ∷ binary 0x21 3 1 2 ∷ [])
    ∷ left (load_cell 1 (fx 1500) ∷ load_cell 2 (fx 0) ∷ binary 0x26 3 1 2 ∷ [])
    ∷ []
  where
    folded_by_both : ℕ → ℕ → ℕ → BothCase
    folded_by_both x y q =
        let back : List Cell = LoadF64 1 x ∷ LoadF64 2 y ∷ LoadF64 3 q ∷ [] in
        both (LoadF64 1 x ∷ LoadF64 2 y ∷ DivF64 3 1 2 ∷ []) back 1 back 1

pub divisions_hold : map as_rewritten division_cases ≡ division_cases
unfolding rewrite_code rewrite_count clean_code clean_count fold_code folds_of default_rules default_table fuller_rules fuller_table note view load_cell class_of rows wrap div_i32 div_u32 div_fx const_eq float_of bits_of div_f64 Ieee.eq Ieee.sub Ieee.div Ieee.of_bits Ieee.to_bits
divisions_hold = refl

-- ---- "a sent script that divides by zero must go on recording the same things after either rewrite"

pub record Division : Type 0 where
  pub dividend : ℕ
  pub divisor : ℕ
  pub quotient : ℕ

abbrev pub by : ℕ → ℕ → ℕ → Division
by x z q = record { dividend = x; divisor = z; quotient = q }

abbrev pub divisions : List Division
divisions =
    -- a number other than zero: an infinity with the product of the signs
    by one 0 infinity
    ∷ by minus_one 0 minus_infinity
    ∷ by one minus_zero minus_infinity
    ∷ by minus_one minus_zero infinity
    ∷ by infinity 0 infinity
    ∷ by minus_infinity 0 minus_infinity
    ∷ by infinity minus_zero minus_infinity
    ∷ by minus_infinity minus_zero infinity
    -- the least subnormal number
    ∷ by 1 minus_zero minus_infinity
    -- zero or NaN: NaN
    ∷ by 0 0 computed_nan
    ∷ by minus_zero 0 computed_nan
    ∷ by 0 minus_zero computed_nan
    ∷ by minus_zero minus_zero computed_nan
    ∷ by computed_nan 0 computed_nan
    ∷ by 0xFFF8000000000123 minus_zero computed_nan
    ∷ []

-- the quotient in r3, recorded by an outside action and by the end
abbrev pub sent_for : Division → List Cell
sent_for d = LoadF64 1 d.dividend ∷ LoadF64 2 d.divisor ∷ DivF64 3 1 2 ∷ StoreVar 3 ∷ Ret 3 ∷ []

-- as handed back: the default rewrite leaves it
abbrev pub back_for : Division → BothCase
back_for d = folded (sent_for d) (LoadF64 1 d.dividend ∷ LoadF64 2 d.divisor ∷ LoadF64 3 d.quotient ∷ StoreVar 3 ∷ Ret 3 ∷ []) 1

-- what it records
abbrev pub entries_for : Division → List Entry
entries_for d =
    let registers = holding (other 0 ∷ con (f64 d.dividend) ∷ con (f64 d.divisor) ∷ con (f64 d.quotient) ∷ []) in
    did (StoreVar 3) registers ∷ ended (returned (Some 3)) registers ∷ []

-- in five steps, each of its cells one
abbrev pub recorded : List Cell → List Entry
recorded p = after (map view p) counts initial 5

-- what each rewrite hands back; and the records: as sent, and as handed back by the default rewrite and by the fuller one
pub records_hold :
    (map (λ (d : Division). as_rewritten (back_for d)) divisions ≡ map back_for divisions)
    × (map (λ (d : Division). recorded (sent_for d)) divisions ≡ map entries_for divisions)
    × (map (λ (d : Division). recorded (rewrite_code default_rules (sent_for d))) divisions ≡ map entries_for divisions)
    × (map (λ (d : Division). recorded (rewrite_code fuller_rules (sent_for d))) divisions ≡ map entries_for divisions)
unfolding rewrite_code rewrite_count clean_code clean_count fold_code folds_of default_rules default_table fuller_rules fuller_table note view load_cell class_of rows float_of bits_of div_f64 exec set put shown compute meaning meanings Ieee.eq Ieee.div Ieee.of_bits Ieee.to_bits
records_hold = (refl, refl, refl, refl)
