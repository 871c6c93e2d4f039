-- `packed::restore::check_run` meets its contract.
use Rattle.std.proofs.lemmas.Result.{err_from_is_err_and}
use Rattle.std.specs.Prelude.{Ok}
use mathlib.Core.Path.{◌≡◌, refl, ap, sym, ◌∙◌}
use mathlib.Core.List.{List}
use Prim.Native.Nat.{ℕ, ◌+◌, ◌-◌, ◌≤◌, ◌<◌}
use native.Mathlib.Omega.{arith}
use lib.ListN.{length, take, drop}
use Rattle.packed.specs.Form.{Role}
use Rattle.packed.specs.Steps.{taken_as}
use Rattle.packed.proofs.Puts.{rest_is}
use Rattle.packed.proofs.Turns.{not-bytes, Checking, checking_none, checking_none-left, checking_fault, checking_next}
use Rattle.packed.proofs.restore.check_run.Goals as goal
use Rattle.packed.specs.Answer.{Packing}

pub loop-i-init : goal.loop-i-init
loop-i-init g c =
    let k = checking_none g.P.Promised.role c.args.s.now c.args.n c.args.position c.args.cell c.requires in
    (k.within, k.place, k)

pub returns-then-at-s : goal.returns-then-at-s
returns-then-at-s g c =
    let l = c.loop-i in
    let a = c.args in
    checking_none-left g.P.Promised.role a.s.now a.n a.position a.cell l.at l.i l.invariant.2 c.loop-i-test.true (omega (arith, l.invariant.1, c.if-cell-i-eq-MAX_CELLS.false)) c.if-at-s.true

-- what was said of the cell at i
answered : (r : Role) (s : List ℕ) (p d at : ℕ) {x : Packing} → x ≡ taken_as r p d (take (length s - at) (drop at s)) → x ≡ taken_as r p d (drop at s)
answered r s p d at e = e ∙ ap (taken_as r p d) (rest_is s at)

some : (d : ℕ) → d ≤ 4096 → (d ≡ 4096 → ⊥) → d < 4096
some d l n = omega arith

pub returns-in_err-k : goal.returns-in_err-k
returns-in_err-k g c =
    let l = c.loop-i in
    let a = c.args in
    let p = err_from_is_err_and c.from_residual.result c.from_residual.ensures.1 in
    rw (p.1, p.2)
    (checking_fault g.P.Promised.role a.s.now a.n a.position a.cell l.at l.i l.invariant.2 c.loop-i-test.true (some _ l.invariant.1 c.if-cell-i-eq-MAX_CELLS.false) _
    (answered g.P.Promised.role a.s.now a.position (a.cell + l.i) l.at (sym c.in_err-k.was ∙ c.check.ensures)) (not-bytes refl))

module _ (r : Role) where
  next : (s : List ℕ) (n p d at i k : ℕ) {x : Packing} → Checking r s n p d at i → d + i ≤ 4096 → i < n → (d + i ≡ 4096 → ⊥) → x ≡ taken_as r p (d + i) (take (length s - at) (drop at s)) → x ≡ Ok k
      → Checking r s n p d (at + k) (i + 1)
  next s n p d at i k v l h e t q = checking_next r s n p d at i v h (some (d + i) l e) k (sym q ∙ answered r s p (d + i) at t)

pub loop-i-preserved : goal.loop-i-preserved
loop-i-preserved g c =
    let l = c.loop-i in
    let a = c.args in
    let k = next g.P.Promised.role a.s.now a.n a.position a.cell l.at l.i c.in_ok-k.k l.invariant.2 l.invariant.1 c.loop-i-test.true c.if-cell-i-eq-MAX_CELLS.false c.check.ensures c.in_ok-k.was in
    (k.within, k.place, k)

pub overflow_add-at : goal.overflow_add-at
overflow_add-at g c =
    let l = c.loop-i in
    let a = c.args in
    let k = next g.P.Promised.role a.s.now a.n a.position a.cell l.at l.i c.in_ok-k.k l.invariant.2 l.invariant.1 c.loop-i-test.true c.if-cell-i-eq-MAX_CELLS.false c.check.ensures c.in_ok-k.was in
    omega (arith, k.within)
