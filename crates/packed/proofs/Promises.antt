-- What is promised, by the two counts that the code holds.
use mathlib.Core.Path.{◌≡◌, refl, ap, sym, ◌∙◌}
use mathlib.Core.List.{List, [], ◌∷◌}
use Prim.Native.Nat.{ℕ, zero, suc, ◌-◌, ◌≤◌}
use native.Mathlib.Omega.{arith}
use lib.ListN.{length}
use Rattle.cells.specs.Bytes.{byte, half}
use Rattle.cells.specs.Table.{head_row, event_row}
use Rattle.packed.specs.Form.{Role, Code, Event, promise, role_of, due_behind, row_size, size}
use Rattle.packed.specs.Steps.{NextCell}
use Rattle.packed.specs.declared.form.Next.{Next}
use Rattle.packed.proofs.Widths.{head-size}

pub some_code : (n m : ℕ) → (n ≡ 0 → ⊥) → promise n m ≡ Code ∷ promise (n - 1) m
some_code zero m h = absurd (h refl)
some_code (suc n) m h = let e : suc n - 1 ≡ n = omega arith in rw e

pub some_event : (n m : ℕ) → n ≡ 0 → (m ≡ 0 → ⊥) → promise n m ≡ Event ∷ promise n (m - 1)
some_event n zero e h = absurd (h refl)
some_event n (suc m) e h = let f : suc m - 1 ≡ m = omega arith in rw (e, f)

pub nothing_due : (n m : ℕ) → n ≡ 0 → m ≡ 0 → promise n m ≡ []
nothing_due n m e f = rw (e, f)

-- ---- the next cell

abbrev pub next : ℕ → ℕ → ℕ → Next
next n code events = record { size = n; due = record { code = code; events = events } }

module _ (code events : ℕ) (s : List ℕ) where
  pub next_code : (n : ℕ) → (code ≡ 0 → ⊥) → n ≡ row_size (byte s 0) → NextCell code events s (next n (code - 1) events)
  next_code n h e = let p = some_code code events h in record { keeps = e ∙ ap (λ (due : List Role). size (role_of due) s) (sym p); due = ap (λ (due : List Role). due_behind due s) (sym p) }

  pub next_event : (n : ℕ) → code ≡ 0 → (events ≡ 0 → ⊥) → n ≡ row_size event_row → NextCell code events s (next n code (events - 1))
  next_event n z h e = let p = some_event code events z h in record { keeps = e ∙ ap (λ (due : List Role). size (role_of due) s) (sym p); due = ap (λ (due : List Role). due_behind due s) (sym p) }

  pub next-head : (n x y : ℕ) → code ≡ 0 → events ≡ 0 → n ≡ row_size head_row → x ≡ half s 3 → y ≡ half s 5 → NextCell code events s (next n x y)
  next-head n x y z w e f g =
      let p = nothing_due code events z w in
      record {
        keeps = e ∙ ap (λ (due : List Role). size (role_of due) s) (sym p);
        due = ap (λ (a : ℕ). promise a y) f ∙ ap (promise (half s 3)) g ∙ ap (λ (due : List Role). due_behind due s) (sym p);
      }

  -- a head has its seven bytes
  pub head-there : code ≡ 0 → events ≡ 0 → size (role_of (promise code events)) s ≤ length s → 7 ≤ length s
  head-there z w l =
      let e : size (role_of (promise code events)) s ≡ 7 = ap (λ (due : List Role). size (role_of due) s) (nothing_due code events z w) ∙ head-size s in
      omega arith
