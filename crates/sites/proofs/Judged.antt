-- Small facts: answers that are good, and what a site is.
use mathlib.Core.Path.{◌≡◌, refl, sym, ap, ap₂}
use mathlib.Core.Bool.{Bool, true, false, cond, true≢false}
use mathlib.Core.List.{List, []}
use Prim.Native.Nat.{ℕ, ◌/◌, ◌<◌}
use native.Mathlib.Omega.{arith}
use lib.ListN.{length}
use Rattle.cells.specs.Answers.{or_else}
use Rattle.cells.specs.Cells.{chunks, cells}
use Rattle.cells.specs.declared.refusal.Refusal.{Refusal}
use Rattle.cells.proofs.Answers.{refused-good, or_left, or_right}
use Rattle.cells.proofs.Facts.{eqb_true, eqb_self}
use Rattle.sites.specs.Sites.{is_site}
use Rattle.sites.specs.Validators.{repeat_answer, activation_answer, site_check}
use Rattle.std.specs.Prelude.{Option, Some, None, Ok, Err}
use Rattle.cells.specs.Checked.{Checked}

-- of two answers, both are good
pub both-good : (a b : Checked) → or_else a b ≡ Ok tt → (a ≡ Ok tt) × (b ≡ Ok tt)
both-good a b e = (or_left a b e, or_right a b e)

-- a test that refuses, or leaves it to b
pub cond-good : (t : Bool) (r : Refusal) (b : Checked) → cond t (Err r) b ≡ Ok tt → (t ≡ false) × (b ≡ Ok tt)
cond-good true r b e = absurd (refused-good e)
cond-good false r b e = (refl, e)

-- a site that is x, both ways
pub site_is : (x : ℕ) (s : Option ℕ) → is_site x s ≡ true → s ≡ Some x
site_is x None e = absurd (true≢false (sym e))
site_is x (Some y) e = ap Some (eqb_true y x e)

pub is_site_lem : (x : ℕ) (s : Option ℕ) → s ≡ Some x → is_site x s ≡ true
is_site_lem x s e = rw e (eqb_self x)

pub not_absent : {C : Type 0} (x : ℕ) (s : Option ℕ) → s ≡ None → s ≡ Some x → C
not_absent x s y z = let z : ◌≡◌ {A = ℕ} 0 1 = cc in absurd (omega arith)

-- a function with no cells passes
pub no_cells : (position : ℕ) (s t : List ℕ) → length s < 16 → length t < 16 → site_check position (cells s) (cells t) ≡ Ok tt
unfolding repeat_answer activation_answer
no_cells position s t h k =
    let e : length s / 16 ≡ 0 = omega arith in
    let f : length t / 16 ≡ 0 = omega arith in
    let d : cells s ≡ [] = ap (λ (n : ℕ). chunks n s) e in
    let g : cells t ≡ [] = ap (λ (n : ℕ). chunks n t) f in
    ap₂ (site_check position) d g
