-- The code's table, of values, agrees with the definition's, of bits.
use Rattle.std.specs.Prelude.{Option}
use mathlib.Core.Path.{◌≡◌, refl, sym, ap, ◌∙◌}
use mathlib.Core.Bool.{Bool, true, cond, not, ◌&&◌, false≢true}
use mathlib.Core.List.{List, [], ◌∷◌}
use Prim.Native.Nat.{ℕ, zero, suc, ◌<◌}
use lib.Dec.{eqb}
use lib.ListN.{length, get_or, set}
use lib.Seq.{get_or-set_same, get_or-set_other}
use Rattle.leaves.specs.declared.constant.ConstVal.{ConstVal}
use Rattle.leaves.specs.declared.constant.ConstVal.TheVariants.{Unknown, Quad as QuadV, Bool as BoolV, F64, I32, U32, Fx}
use Rattle.leaves.specs.Constants.{is_known}
use Rattle.cells.proofs.Facts.{by_test, eqb_true, eqb_false, and_true}
use Rattle.cells.specs.Ins.{Const}
use Rattle.crystalfold.specs.Rules.{known_of}
use Rattle.crystalfold.specs.Fold.{Table, unknown, note}

-- of each register the code holds the value of what the definition knows
abbrev pub Agree : List ConstVal → Table → Type 0
Agree held t = (r : ℕ) → get_or held r Unknown ≡ known_of (t r)

-- a table of `Unknown` alone
abbrev pub all_unknown : List ConstVal → Bool
all_unknown [] = true
all_unknown (v ∷ held) = not (is_known v) && all_unknown held

not_known : (v : ConstVal) → not (is_known v) ≡ true → v ≡ Unknown
not_known Unknown e = refl
not_known (QuadV q) e = absurd (false≢true e)
not_known (BoolV b) e = absurd (false≢true e)
not_known (F64 x) e = absurd (false≢true e)
not_known (I32 z) e = absurd (false≢true e)
not_known (U32 n) e = absurd (false≢true e)
not_known (Fx z) e = absurd (false≢true e)

pub agree_unknown : (held : List ConstVal) → all_unknown held ≡ true → Agree held unknown
agree_unknown [] e r = refl
agree_unknown (v ∷ held) e zero = not_known v (and_true (not (is_known v)) (all_unknown held) e).0
agree_unknown (v ∷ held) e (suc r) = agree_unknown held (and_true (not (is_known v)) (all_unknown held) e).1 r

pub agree_note : (held : List ConstVal) (t : Table) (d : ℕ) (v : ConstVal) (k : Option Const) → d < length held → known_of k ≡ v
    → Agree held t → Agree (set held d v) (note d k t)
unfolding note
agree_note held t d v k h e a r = by_test (eqb r d)
    (λ y. ap (λ (j : ℕ). get_or (set held d v) j Unknown) (eqb_true r d y) ∙ get_or-set_same held d v Unknown h ∙ sym e
    ∙ ap (λ (b : Bool). known_of (cond b k (t r))) (sym y))
    (λ n. get_or-set_other held d r v Unknown (eqb_false r d n) ∙ a r ∙ ap (λ (b : Bool). known_of (cond b k (t r))) (sym n))
