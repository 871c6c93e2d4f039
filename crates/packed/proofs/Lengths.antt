-- How many bytes cells keep: a byte each at least, 15 each at most, and of the first, a head, 7.
use mathlib.Core.Path.{◌≡◌, refl, ap}
use mathlib.Core.List.{List, [], ◌∷◌}
use Prim.Native.Nat.{ℕ, zero, suc, ◌+◌, ◌-◌, ◌*◌, ◌/◌, ◌≤◌}
use native.Mathlib.Omega.{arith}
use lib.ListN.{length, length-append, length-take}
use Rattle.cells.specs.Cells.{Cell, Full, cells}
use Rattle.cells.proofs.Cells.{length-cells}
use Rattle.packed.specs.Form.{Role, Head, role_of, due_behind, size, keep, pack_from, packed}
use Rattle.packed.specs.Steps.{most_kept}
use Rattle.packed.proofs.Widths.{size_some, size_fits, head-size, keep-length}

pub pack_least : (due : List Role) (cs : List Cell) → Full cs → length cs ≤ length (pack_from due cs)
pack_least due [] full = omega arith
pack_least due (c ∷ cs) full =
    let r = role_of due in
    omega (arith, length-append (keep r c) (pack_from (due_behind due c) cs), keep-length r c full.0, size_some r c, pack_least (due_behind due c) cs full.1)

keep-most : (r : Role) (c : Cell) → length (keep r c) ≤ size r c
keep-most r c = omega (arith, length-take (size r c) c)

pub pack_most : (due : List Role) (cs : List Cell) → length (pack_from due cs) ≤ 15 * length cs
pack_most due [] = omega arith
pack_most due (c ∷ cs) =
    let r = role_of due in
    omega (arith, length-append (keep r c) (pack_from (due_behind due c) cs), keep-most r c, size_fits r c, pack_most (due_behind due c) cs)

most_from : (cs : List Cell) → length (pack_from [] cs) ≤ most_kept (length cs)
most_from [] = omega arith
most_from (c ∷ cs) =
    omega (arith, length-append (keep Head c) (pack_from (due_behind [] c) cs), keep-most Head c, head-size c, pack_most (due_behind [] c) cs)

pub packed-most : (s : List ℕ) → length (packed s) ≤ most_kept (length s / 16)
unfolding packed
packed-most s = omega (arith, most_from (cells s), ap most_kept (length-cells s))

pub packed_shorter : (s : List ℕ) → length (packed s) ≤ length s
unfolding packed
packed_shorter s = omega (arith, pack_most [] (cells s), length-cells s)

-- as the code has it
pub most_some : (n : ℕ) → (n ≡ 0 → ⊥) → 7 + 15 * (n - 1) ≡ most_kept n
most_some zero h = absurd (h refl)
most_some (suc n) h = omega arith
