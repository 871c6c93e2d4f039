-- Laws of answers, and of the first refusal in order.
use mathlib.Core.Path.{◌≡◌, refl, ap, sym, ◌∙◌}
use mathlib.Core.List.{List, []}
use mathlib.Core.Bool.{Bool, true, false, cond}
use Prim.Native.Nat.{ℕ, ◌+◌, ◌≤◌, ◌<◌}
use native.Mathlib.Numerals.{add-one}
use native.Mathlib.Omega.{arith}
use lib.ListN.{length, get_or, take, drop, drop_of_length-le}
use lib.Seq.{take-suc, drop-cons}
use Rattle.cells.specs.Cells.{Cell}
use Rattle.cells.specs.Answers.{unless, or_else, scan}
use Rattle.cells.specs.declared.refusal.Refusal.{Refusal}
use Rattle.std.specs.Prelude.{Ok, Err}
use Rattle.cells.specs.Checked.{Checked}

-- a refusal is not good
pub refused-good : {x : Refusal} → ◌≡◌ {A = Checked} (Err x) (Ok tt) → ⊥
refused-good e = let z : ◌≡◌ {A = ℕ} 0 1 = cc in omega arith

pub or-good : {r : Checked} (b : Checked) → r ≡ Ok tt → or_else r b ≡ b
or-good b e = simp e

pub or-refused : {r : Checked} {x : Refusal} (b : Checked) → r ≡ Err x → or_else r b ≡ r
or-refused b e = simp e

pub or_left : (a b : Checked) → or_else a b ≡ Ok tt → a ≡ Ok tt
or_left (Ok tt) b e = refl
or_left (Err x) b e = e

pub or_right : (a b : Checked) → or_else a b ≡ Ok tt → b ≡ Ok tt
or_right (Ok tt) b e = e
or_right (Err x) b e = absurd (refused-good e)

pub or-both : (a b : Checked) → a ≡ Ok tt → b ≡ Ok tt → or_else a b ≡ Ok tt
or-both a b e g = or-good b e ∙ g

-- one check after another in the code: the first that refuses answers
pub halts : {r a : Checked} {x : Refusal} (b : Checked) → r ≡ a → r ≡ Err x → r ≡ or_else a b
halts b e f = rw (← e) (rw f)

pub goes : {r a t b : Checked} → r ≡ a → r ≡ Ok tt → t ≡ b → t ≡ or_else a b
goes e f g = rw (← e) (rw f g)

-- a test before an answer
pub test_good : (t : Bool) (a : Checked) (x : Refusal) → cond t a (Err x) ≡ Ok tt → (t ≡ true) × (a ≡ Ok tt)
test_good true a x e = (refl, e)
test_good false a x e = absurd (refused-good e)

pub unless-good : (t : Bool) (x : Refusal) → unless t x ≡ Ok tt → t ≡ true
unless-good t x e = (test_good t (Ok tt) x e).0

-- a loop over the cells of a scan: at i, what is left says what the whole says
module _ (judge : List Cell → Cell → Checked) (cs : List Cell) where
  abbrev pub Left : Checked → ℕ → Type 0
  Left all i = all ≡ scan judge (take i cs) (drop i cs)

  scan_step : (i : ℕ) → i < length cs → scan judge (take i cs) (drop i cs) ≡ or_else (judge (take i cs) (get_or cs i [])) (scan judge (take (i + 1) cs) (drop (i + 1) cs))
  scan_step i h = rw (add-one, take-suc cs i [], drop-cons cs i [])

  -- the cell at i refuses, or is passed
  pub scan-refuses : (i : ℕ) {all : Checked} {x : Refusal} → i < length cs → Left all i → judge (take i cs) (get_or cs i []) ≡ Err x → Err x ≡ all
  scan-refuses i {all} {x} h w e = sym (w ∙ scan_step i h ∙ ap (λ (r : Checked). or_else r (scan judge (take (i + 1) cs) (drop (i + 1) cs))) e)

  pub scan_passes : (i : ℕ) {all : Checked} → i < length cs → Left all i → judge (take i cs) (get_or cs i []) ≡ Ok tt → Left all (i + 1)
  scan_passes i h w e = w ∙ scan_step i h ∙ or-good _ e

  -- past the last cell
  pub scan-ends : (i : ℕ) {all : Checked} → length cs ≤ i → Left all i → Ok tt ≡ all
  scan-ends i h w = sym (w ∙ ap (scan judge (take i cs)) (drop_of_length-le cs h))
