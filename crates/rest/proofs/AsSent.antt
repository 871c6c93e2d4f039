-- An image of bytes of which a rewrite reports 0 is handed back as it was sent: every cell and every event stays, and each head's counts, written
-- anew, are those that it has.
use mathlib.Core.Path.{◌≡◌, refl, sym, ◌∙◌, ap, ap₂}
use mathlib.Core.List.{List, [], ◌∷◌, ◌++◌}
use Prim.Native.Nat.{ℕ, ◌+◌, ◌*◌, ◌/◌, ◌%◌, ◌≤◌, ◌<◌}
use native.Mathlib.Omega.{arith}
use lib.ListN.{length}
use Rattle.cells.specs.Cells.{Cell, cells, flat, over}
use Rattle.cells.specs.Check.{code_count, event_count}
use Rattle.cells.specs.Functions.{Function, functions, new_head, cells_of, cells_of_all}
use Rattle.cells.specs.Lists.{All}
use Rattle.cells.specs.WellFormed.{WellFormed}
use Rattle.cells.proofs.Cells.{flat-cells, flat_append}
use Rattle.cells.proofs.Functions.{cells_of_functions}
use Rattle.cells.proofs.Lists.{all_parts}
use Rattle.cleanup.specs.Cleanup.{clean_function}
use Rattle.crystalfold.specs.Rules.{Rules, rules_of}
use Rattle.crystalfold.specs.CrystalFold.{fold_function}
use Rattle.rewrite.specs.Rewrite.{rewrite_function, rewrite_code, rewrite_count}
use Rattle.image.proofs.Again.{image_formed}
use Rattle.passes.specs.Passes.{pass_bytes, pass_check, pass_answer, pass_output, report}
use Rattle.passes.specs.declared.Pass.TheVariants.{Both}
use Rattle.passes.proofs.Done.{check_good}
use Rattle.rest.specs.Promises.{ZeroAtRest}
use Rattle.rest.proofs.Still.{Still, code_still, events_still, same-function, all, counts}
use Rattle.rest.proofs.Rounds.{count_is, once_is}
use Rattle.std.specs.Prelude.{Ok}

abbrev Byte : ℕ → Type 0
Byte b = b < 256

-- the counts that a head of bytes has, written anew
new_head-same : (h : Cell) → 7 ≤ length h → All Byte h → new_head h (code_count h) (event_count h) ≡ h
new_head-same [] l b = absurd (omega arith)
new_head-same (a ∷ []) l b = absurd (omega arith)
new_head-same (a ∷ b ∷ []) l s = absurd (omega arith)
new_head-same (a ∷ b ∷ c ∷ []) l s = absurd (omega arith)
new_head-same (a ∷ b ∷ c ∷ d ∷ []) l s = absurd (omega arith)
new_head-same (a ∷ b ∷ c ∷ d ∷ e ∷ []) l s = absurd (omega arith)
new_head-same (a ∷ b ∷ c ∷ d ∷ e ∷ f ∷ []) l s = absurd (omega arith)
new_head-same (a ∷ b ∷ c ∷ d ∷ e ∷ f ∷ g ∷ t) l s =
    let d₁ : (d + 256 * e) % 256 ≡ d = omega (arith, s.1.1.1.0) in
    let e₁ : (d + 256 * e) / 256 ≡ e = omega (arith, s.1.1.1.0) in
    let f₁ : (f + 256 * g) % 256 ≡ f = omega (arith, s.1.1.1.1.1.0) in
    let g₁ : (f + 256 * g) / 256 ≡ g = omega (arith, s.1.1.1.1.1.0) in
    rw (d₁, e₁, f₁, g₁)

module _ (f : Rules) where
  function-same : (g : Function) → WellFormed g → All Byte g.head → rewrite_count f g.code ≡ 0 → rewrite_function f g ≡ g
  unfolding rewrite_function fold_function clean_function rewrite_code
  function-same g w b e =
      let s : Still f g.code = code_still f g.code e in
      let v = events_still g.code g.events s.cleaned in
      same-function _ _ _ _ _ _
      (ap₂ (λ (i j : ℕ). new_head g.head i j) (ap length s.cleaned ∙ w.counted.0) (ap length v ∙ w.counted.1)
      ∙ new_head-same g.head (omega (arith, w.full.0)) b)
      s.rewritten
      v

  all_same : (fs : List Function) → All WellFormed fs → All Byte (flat (cells_of_all fs)) → counts f fs ≡ 0 → all f fs ≡ fs
  all_same [] w b e = refl
  all_same (g ∷ fs) w b e =
      let c = all_parts Byte (flat (cells_of g)) (flat (cells_of_all fs)) (rw (flat_append (cells_of g) (cells_of_all fs)) at b) in
      let h = all_parts Byte g.head (flat (g.code ++ g.events)) c.0 in
      ap₂ ◌∷◌ (function-same g w.0 h.0 (omega (arith, e))) (all_same fs w.1 c.1 (omega (arith, e)))

pub zero_at_rest : ZeroAtRest
unfolding pass_answer pass_output
zero_at_rest k s lent b g e l =
    let fs : List Function = functions (cells s) in
    let i : flat (cells_of_all fs) ≡ s = ap flat (cells_of_functions (cells s)) ∙ flat-cells s g.image.even in
    let same : all (rules_of k) fs ≡ fs = all_same (rules_of k) fs (image_formed s g.image) (rw i b) (sym (count_is k s) ∙ e) in
    let y : pass_bytes (Both k) s ≡ s = once_is k s ∙ ap (λ (gs : List Function). flat (cells_of_all gs)) same ∙ i in
    let c : pass_check s (length lent) ≡ Ok tt = (check_good s (length lent)).1 (g, l) in
    record {
      answer = rw c (ap₂ (λ (n m : ℕ). Ok (record { length = n; report = (report m) })) (ap length y) e);
      bytes = rw c (ap (λ (z : List ℕ). over z lent) y);
    }
