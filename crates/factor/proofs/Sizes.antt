-- A number's size and its sign.
use mathlib.Core.Path.{◌≡◌, refl, sym}
use mathlib.Core.Bool.{true, false, true≢false, beq}
use Prim.Native.Nat.{ℕ, zero, suc, ◌<◌}
use native.Mathlib.Omega.{arith}
use lib.IntN.{ℤ, pos, negsuc, neg_ℤ, nat_abs}
use lib.Signed.{lt_z}
use borrow.Author.Tests.{le-ltb}
use Rattle.leaves.specs.Signed.{is_zero}
use Rattle.factor.specs.Closed.{along}

-- ---- zero

pub zero_not : (b : ℤ) → is_zero b ≡ false → 0 < nat_abs b
zero_not (pos zero) e = absurd (true≢false e)
zero_not (pos (suc b)) e = omega arith
zero_not (negsuc b) e = omega arith

-- ---- the sign, by the tests of two numbers

pub along-same : (w a : ℤ) (y : ℕ) → beq (lt_z w (pos 0)) (lt_z a (pos 0)) ≡ true → along w a y ≡ pos y
along-same (pos w) (pos a) y e = refl
along-same (pos w) (negsuc a) y e = absurd (true≢false (sym (rw (le-ltb w 0 (omega arith)) at e)))
along-same (negsuc w) (pos a) y e = absurd (true≢false (sym (rw (le-ltb a 0 (omega arith)) at e)))
along-same (negsuc w) (negsuc a) y e = refl

pub along_other : (w a : ℤ) (y : ℕ) → beq (lt_z w (pos 0)) (lt_z a (pos 0)) ≡ false → along w a y ≡ neg_ℤ (pos y)
along_other (pos w) (pos a) y e = absurd (true≢false (rw (le-ltb w 0 (omega arith), le-ltb a 0 (omega arith)) at e))
along_other (pos w) (negsuc a) y e = refl
along_other (negsuc w) (pos a) y e = refl
along_other (negsuc w) (negsuc a) y e = absurd (true≢false e)
