-- `sites::list::count` meets its contract.
use mathlib.Core.Bool.{Bool, true, false}
use mir.Val.{bool_byte}
use mathlib.Core.Path.{◌≡◌, refl, ap₂, sym, ◌∙◌}
use Prim.Native.Nat.{ℕ, ◌+◌}
use native.Mathlib.Omega.{arith}
use lib.Dec.{eqb}
use lib.ListN.{get_or}
use Rattle.cells.specs.Lists.{one}
use Rattle.cells.proofs.Lists.{tally-next, one-most}
use Rattle.sites.proofs.list.count.Goals as goal

-- a test as a number
as_number : (b : Bool) → bool_byte b ≡ one b
as_number true = refl
as_number false = refl

pub loop-y-preserved : goal.loop-y-preserved
loop-y-preserved c =
    let s = c.args.list.now in
    let i = c.loop-y.y-index in
    let k : c.from-found.result ≡ one (eqb (get_or s i 0) c.args.x) = c.from-found.ensures ∙ as_number _ in
    (omega (arith, k, one-most (eqb (get_or s i 0) c.args.x)), ap₂ ◌+◌ c.loop-y.invariant.1 k ∙ sym (tally-next (λ (y : ℕ). eqb y c.args.x) 0 s i (omega arith)))
