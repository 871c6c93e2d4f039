-- What the tests of `check` say of its answer.
use mathlib.Core.Path.{◌≡◌}
use mathlib.Core.List.{List}
use Prim.Native.Nat.{ℕ, ◌%◌, ◌≤◌, ◌<◌}
use borrow.Author.Tests.{le-leb, lt-leb, ne_eqb}
use lib.ListN.{length}
use Rattle.cells.specs.Check.{max_image}
use Rattle.cells.specs.declared.refusal.Refusal.TheVariants.{Length, OutputTooShort}
use Rattle.image.specs.SiteCheck.{site_answer}
use Rattle.passes.specs.Passes.{pass_check}
use Rattle.std.specs.Prelude.{Err}

module _ (s : List ℕ) (n : ℕ) where
  pub check_long : max_image < length s → Err Length ≡ pass_check s n
  unfolding pass_check
  check_long h = simp (lt-leb _ _ h)

  pub check_uneven : length s ≤ max_image → (length s % 16 ≡ 0 → ⊥) → Err Length ≡ pass_check s n
  unfolding pass_check
  check_uneven h u = simp (le-leb _ _ h, ne_eqb _ _ u)

  pub check_room : length s ≤ max_image → length s % 16 ≡ 0 → n < length s → Err OutputTooShort ≡ pass_check s n
  unfolding pass_check
  check_room h u r = simp (le-leb _ _ h, u, lt-leb _ _ r)

  pub check_sites : length s ≤ max_image → length s % 16 ≡ 0 → length s ≤ n → site_answer s ≡ pass_check s n
  unfolding pass_check
  check_sites h u r = simp (le-leb _ _ h, u, le-leb _ _ r)
