-- `factor::factor_fx` meets its contract.
use mathlib.Core.Path.{◌≡◌, sym, ◌∙◌, ap, ap₂, subst}
use mathlib.Core.Bool.{Bool, false, beq}
use Prim.Native.Nat.{ℕ, ◌*◌, ◌/◌, ◌≤◌, ◌<◌}
use native.Mathlib.Omega.{arith}
use lib.IntN.{ℤ, pos, nat_abs}
use lib.Signed.{lt_z}
use mir.Syntax.{w32}
use mir.Val.{of_z, to_z}
use mir.Facts.{to_z-of_z}
use Rattle.leaves.specs.Signed.{is_zero}
use Rattle.leaves.proofs.Ranges.{abs32, passed, zero_bits, nonzero_bits}
use Rattle.factor.specs.Factor.{factor_fx}
use Rattle.factor.specs.Closed.{found_if, least_size, along}
use Rattle.factor.proofs.Sizes.{zero_not, along-same, along_other}
use Rattle.factor.proofs.Thousandths.{size_product, closed_fx_lem, closed_zero, closed_by_zero, closed_past, closed_there}
use Rattle.factor.proofs.factor_fx.Goals as goal
use Rattle.factor.proofs.factor_fx.Goals.{After-least_size-y, After-magnitude-a, After-product, Else-factor-eq0, Else-w-product, Else-wanted-eq0}

pub returns-then-wanted-eq0 : goal.returns-then-wanted-eq0
returns-then-wanted-eq0 c =
    closed_zero c.args.wanted c.args.factor (zero_bits c.args.wanted c.ranges.wanted c.if-wanted-eq0.true) ∙ closed_fx_lem c.args.wanted c.args.factor c.ranges.wanted

-- ---- past the tests, neither is 0
not_zero : (c : Else-wanted-eq0) → is_zero c.args.wanted ≡ false
not_zero c = (nonzero_bits c.args.wanted c.ranges.wanted c.if-wanted-eq0.false).0

not-by-zero : (c : Else-factor-eq0) → is_zero c.args.factor ≡ false
not-by-zero c = (nonzero_bits c.args.factor c.ranges.factor c.if-factor-eq0.false).0

pub returns-then-factor-eq0 : goal.returns-then-factor-eq0
returns-then-factor-eq0 c =
    closed_by_zero c.args.wanted c.args.factor (not_zero (goal.at.returns-then-factor-eq0 c).Else-wanted-eq0) (zero_bits c.args.factor c.ranges.factor c.if-factor-eq0.true) ∙ closed_fx_lem c.args.wanted c.args.factor c.ranges.wanted

-- ---- the sizes
wanted-size : (c : After-magnitude-a) → c.magnitude-w.result ≡ nat_abs c.args.wanted
wanted-size c = c.magnitude-w.ensures ∙ ap nat_abs (to_z-of_z c.ranges.wanted)

factor-size : (c : After-magnitude-a) → c.magnitude-a.result ≡ nat_abs c.args.factor
factor-size c = c.magnitude-a.ensures ∙ ap nat_abs (to_z-of_z c.ranges.factor)

pub least_size-y-requires : goal.least_size-y-requires
least_size-y-requires c =
    let a = (goal.at.least_size-y-requires c).After-magnitude-a in
    let e = wanted-size a in
    let f = factor-size a in
    let l = zero_not c.args.factor (not-by-zero (goal.at.least_size-y-requires c).Else-factor-eq0) in
    let u = abs32 c.args.wanted c.ranges.wanted in
    let v = abs32 c.args.factor c.ranges.factor in
    (omega (arith, e, u), omega (arith, f, l), omega (arith, f, v))

abbrev w₀ : After-least_size-y → ℤ
w₀ c = c.args.wanted

abbrev a₀ : After-least_size-y → ℤ
a₀ c = c.args.factor

abbrev y₀ : After-least_size-y → ℕ
y₀ c = least_size (nat_abs (w₀ c)) (nat_abs (a₀ c))

size_is : (c : After-least_size-y) → c.least_size-y.result ≡ y₀ c
size_is c = c.least_size-y.ensures ∙ ap₂ least_size (wanted-size c.before) (factor-size c.before)

pub product-requires : goal.product-requires
product-requires c =
    let d = (goal.at.product-requires c).After-least_size-y in
    subst (λ (n : ℕ). n ≤ 4294967296000) (sym (ap₂ ◌*◌ (size_is d) (factor-size d.before))) (size_product (nat_abs (w₀ d)) (nat_abs (a₀ d)) (abs32 (w₀ d) c.ranges.wanted) (abs32 (a₀ d) c.ranges.factor))

product_is : (c : After-product) → c.product.result ≡ y₀ c.before * nat_abs (a₀ c.before) / 1000
product_is c = c.product.ensures ∙ ap₂ (λ (y a : ℕ). y * a / 1000) (size_is c.before) (factor-size c.before.before)

pub returns-then-w-product : goal.returns-then-w-product
returns-then-w-product c =
    let p = (goal.at.returns-then-w-product c).After-product in
    let d = p.before in
    let l : nat_abs (w₀ d) < y₀ d * nat_abs (a₀ d) / 1000 = simp (wanted-size d.before, product_is p) at c.if-w-product.true in
    closed_past (w₀ d) (a₀ d) (not_zero (goal.at.returns-then-w-product c).Else-wanted-eq0) (not-by-zero (goal.at.returns-then-w-product c).Else-factor-eq0) l ∙ closed_fx_lem (w₀ d) (a₀ d) c.ranges.wanted

-- the number of that size, with the sign, is the answer
there : (c : Else-w-product) → found_if (along (w₀ c.before.before) (a₀ c.before.before) c.least_size-y.result) ≡ factor_fx (w₀ c.before.before) (a₀ c.before.before)
there c =
    let d = c.before.before in
    let l : y₀ d * nat_abs (a₀ d) / 1000 ≤ nat_abs (w₀ d) = simp (wanted-size d.before, product_is c.before) at c.if-w-product.false in
    ap (λ (n : ℕ). found_if (along (w₀ d) (a₀ d) n)) (size_is d)
    ∙ closed_there (w₀ d) (a₀ d) (not_zero d.before.before.before.before) (not-by-zero d.before.before.before) l
    ∙ closed_fx_lem (w₀ d) (a₀ d) c.ranges.wanted

abbrev negative : ℤ → Bool
negative z = lt_z z (pos 0)

-- both tests of a sign, of the numbers as they were given
signs : (c : After-least_size-y) → beq (negative (to_z w32 (of_z w32 (w₀ c)))) (negative (to_z w32 (of_z w32 (a₀ c)))) ≡ beq (negative (w₀ c)) (negative (a₀ c))
signs c =
    passed (λ (x y : ℤ). beq (negative x) (negative y)) (w₀ c) (a₀ c) c.ranges.wanted.sfits c.ranges.factor.sfits

pub returns-then-wanted-factor : goal.returns-then-wanted-factor
returns-then-wanted-factor c =
    let e = (goal.at.returns-then-wanted-factor c).Else-w-product in
    let d = e.before.before in
    c.above.ensures ∙ ap found_if (sym (along-same (w₀ d) (a₀ d) d.least_size-y.result (sym (signs d) ∙ c.if-wanted-factor.true))) ∙ there e

pub returns : goal.returns
returns c =
    let e = (goal.at.returns c).Else-w-product in
    let d = e.before.before in
    c.below.ensures ∙ ap found_if (sym (along_other (w₀ d) (a₀ d) d.least_size-y.result (sym (signs d) ∙ c.if-wanted-factor.false))) ∙ there e
