-- Two answers are the same if their six numbers are.
use Prim.Native.Nat.{ℕ}
use mathlib.Core.Path.{◌≡◌, refl, ap}
use mathlib.Core.Logic.{◌↔◌}
use mathlib.Core.Bool.{true, ◌&&◌}
use lib.Dec.{eqb}
use Rattle.cases_passes.specs.declared.operation.Reply.{Reply}
use Rattle.casebook.proofs.Decides.{both, through, equal}

six : ℕ → ℕ → ℕ → ℕ → ℕ → ℕ → Reply
six n p d l r c = record { number = n; position = p; detail = d; length = l; rewrites = r; changed = c }

eta : (a : Reply) → six a.number a.position a.detail a.length a.rewrites a.changed ≡ a
unfolding six
eta a = refl

module _ (a b : Reply) where
  Fields : Type 0
  Fields = (a.number ≡ b.number) × ((a.position ≡ b.position) × ((a.detail ≡ b.detail) × ((a.length ≡ b.length) × ((a.rewrites ≡ b.rewrites) × (a.changed ≡ b.changed)))))

  same : Fields → a ≡ b
  unfolding Fields
  same h =
      let n : a.number ≡ b.number = h.0 in
      let p : a.position ≡ b.position = h.1.0 in
      let d : a.detail ≡ b.detail = h.1.1.0 in
      let l : a.length ≡ b.length = h.1.1.1.0 in
      let r : a.rewrites ≡ b.rewrites = h.1.1.1.1.0 in
      let c : a.changed ≡ b.changed = h.1.1.1.1.1 in
      cc (eta a, eta b)

  fields : a ≡ b → Fields
  unfolding Fields
  fields e =
      (ap (λ (x : Reply). x.number) e, (ap (λ (x : Reply). x.position) e, (ap (λ (x : Reply). x.detail) e, (ap (λ (x : Reply). x.length) e, (ap (λ (x : Reply). x.rewrites) e, ap (λ (x : Reply). x.changed) e)))))

  pub same-reply : ((eqb a.number b.number && (eqb a.position b.position && (eqb a.detail b.detail && (eqb a.length b.length && (eqb a.rewrites b.rewrites && eqb a.changed b.changed))))) ≡ true) ↔ (a ≡ b)
  unfolding Fields
  same-reply =
      through _
      (both _ _ (equal _ _) (both _ _ (equal _ _) (both _ _ (equal _ _) (both _ _ (equal _ _) (both _ _ (equal _ _) (equal _ _))))))
      same
      fields
