-- What a table has no entry for, and operands by their bits.
use Rattle.std.proofs.Common.{◌≡◌, ℕ, zero, suc, ◌<◌, ◌≤◌, ◌%◌, List, [], ◌∷◌, length, get_or, refl, sym, arith}
use native.Mathlib.Nat.{mod-lt}
use mir.Syntax.{w32}
use mir.Val.{SFits}
use mir.Facts.{sfits_to_z}
use Rattle.cases_leaves.specs.Leaves.{Answer, no_leaf, pick, i32_of}

get_or_past : {A : Type 0} (l : List A) (n : ℕ) (d : A) → length l ≤ n → get_or l n d ≡ d
get_or_past [] n d h = refl
get_or_past (x ∷ l) zero d h = absurd (omega arith)
get_or_past (x ∷ l) (suc n) d h = get_or_past l n d (omega arith)

-- of a table whose leaves begin at 1
pub picked_none : (l : List Answer) (n : ℕ) → ((n ≡ 0 → ⊥) → length l < n) → no_leaf ≡ pick (no_leaf ∷ l) n
unfolding pick
picked_none l zero h = refl
picked_none l (suc n) h =
    let past : length l < suc n = h (λ e. omega arith) in
    sym (get_or_past l n no_leaf (omega arith))

pub fits_i32 : (n : ℕ) → SFits w32 (i32_of n)
unfolding i32_of
fits_i32 n =
    let h : n % 4294967296 < 4294967296 = mod-lt n (omega arith) in
    sfits_to_z (record { fits = h })
