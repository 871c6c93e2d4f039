-- Promise: the quad leaves: Belnap's four values in the approximation order (document 01, module 2, Quad and equality leaves) and in the truth order
-- (document 02, W2). A quad is what has been told: nothing (N), false (F), true (T), or both (S).
--
use Rattle.std.specs.Prelude.{ℕ, Bool, true, false, cond, not, ◌&&◌, ◌||◌, ◌==◌, Option, Some, None}
use Rattle.std.specs.Bool.{beq}
use Rattle.leaves.specs.declared.quad.Quad.{Quad}
use Rattle.leaves.specs.declared.quad.Quad.TheVariants.{N, F, T, S}

-- whether a quad has been told false, and whether it has been told true
abbrev pub told_false : Quad → Bool
told_false N = false
told_false F = true
told_false T = false
told_false S = true

abbrev pub told_true : Quad → Bool
told_true N = false
told_true F = false
told_true T = true
told_true S = true

abbrev pub of_told : Bool → Bool → Quad
of_told false false = N
of_told true false = F
of_told false true = T
of_told true true = S

-- ---- the bounds of two quads in an order

-- an order: whether the first is below the second, each being below itself
abbrev pub Order : Type 0
Order = Quad → Quad → Bool

-- a test at all four
abbrev pub every : (Quad → Bool) → Bool
every f = f N && f F && f T && f S

-- whether q is the greatest lower bound of a and b: below both, and whatever is below both is below it
abbrev pub is_meet : Order → Quad → Quad → Quad → Bool
is_meet below a b q = below q a && below q b && every (λ (x : Quad). not (below x a && below x b) || below x q)

-- the greatest lower bound: the one of the four that is it. Both orders below have one for any two (leaves/proofs/QuadLaws.antt); where an order has
-- none, S
unfoldable pub meet : Order → Quad → Quad → Quad
meet below a b = cond (is_meet below a b N) N (cond (is_meet below a b F) F (cond (is_meet below a b T) T S))

-- the least upper bound: the greatest lower bound in the order turned round
unfoldable pub join : Order → Quad → Quad → Quad
join below a b = meet (λ (x y : Quad). below y x) a b

-- ---- the approximation order

-- "N is below F and T, and both are below S"
abbrev pub approx_below : Order
approx_below N y = true
approx_below F N = false
approx_below F F = true
approx_below F T = false
approx_below F S = true
approx_below T N = false
approx_below T F = false
approx_below T T = true
approx_below T S = true
approx_below S N = false
approx_below S F = false
approx_below S T = false
approx_below S S = true

-- "QAnd is the greatest lower bound"
abbrev pub q_and : Quad → Quad → Quad
q_and a b = meet approx_below a b

-- "QOr the least upper bound"
abbrev pub q_or : Quad → Quad → Quad
q_or a b = join approx_below a b

-- "QNot exchanges F and T"
abbrev pub q_not : Quad → Quad
q_not a = of_told (told_true a) (told_false a)

-- "QImpl is QOr of QNot of the left with the right"
abbrev pub q_impl : Quad → Quad → Quad
q_impl a b = q_or (q_not a) b

-- ---- the truth order, "Belnap's logical order"

-- "F below N and S, both below T"
abbrev pub truth_below : Order
truth_below F y = true
truth_below N N = true
truth_below N F = false
truth_below N T = true
truth_below N S = false
truth_below S N = false
truth_below S F = false
truth_below S T = true
truth_below S S = true
truth_below T N = false
truth_below T F = false
truth_below T T = true
truth_below T S = false

-- "And is the greatest lower bound"
abbrev pub q_truth_and : Quad → Quad → Quad
q_truth_and a b = meet truth_below a b

-- "or the least upper bound"
abbrev pub q_truth_or : Quad → Quad → Quad
q_truth_or a b = join truth_below a b

-- "not exchanges F and T", as QNot does
abbrev pub q_truth_not : Quad → Quad
q_truth_not a = q_not a

-- "impl is or of not-left with right"
abbrev pub q_truth_impl : Quad → Quad → Quad
q_truth_impl a b = q_truth_or (q_truth_not a) b

-- ---- equality and numbers

-- "Quads are N 0, F 1, T 2, S 3"
abbrev pub number_of : Quad → ℕ
number_of N = 0
number_of F = 1
number_of T = 2
number_of S = 3

-- equality of two quads
abbrev pub q_same : Quad → Quad → Bool
q_same a b = beq (told_false a) (told_false b) && beq (told_true a) (told_true b)

-- the quad of a number; no number above 3 has one
unfoldable pub quad_of : ℕ → Option Quad
quad_of n = cond (n == 0) (Some N) (cond (n == 1) (Some F) (cond (n == 2) (Some T) (cond (n == 3) (Some S) None)))
