-- What is said of two words, by the numbers that were read.
use mathlib.Core.Path.{◌≡◌, sym, ◌∙◌}
use mathlib.Core.List.{List}
use Prim.Native.Nat.{ℕ}
use lib.IntN.{ℤ}
use Rattle.numbers.specs.Numbers.{number_in}
use Rattle.matchdesk.specs.Program.{on_output, on_error, factor_by, found_text, no_number_text, factor_texts}
use Rattle.matchdesk.specs.declared.product.Product.{Product}
use Rattle.std.specs.Prelude.{Option, Some, None}

module _ (product : Product) (wanted factor : List ℕ) {a : Option ℤ} (read : a ≡ number_in wanted) where
  pub wanted_none : a ≡ None → factor_texts product wanted factor ≡ on_error (no_number_text "WANTED")
  unfolding factor_texts
  wanted_none e = rw (sym read ∙ e)

  module _ {w : ℤ} (e : a ≡ Some w) {b : Option ℤ} (read₂ : b ≡ number_in factor) where
    pub factor_none : b ≡ None → factor_texts product wanted factor ≡ on_error (no_number_text "FACTOR")
    unfolding factor_texts
    factor_none f = rw (sym read ∙ e, sym read₂ ∙ f)

    pub factor_some : {f : ℤ} → b ≡ Some f → factor_texts product wanted factor ≡ on_output (found_text (factor_by product w f))
    unfolding factor_texts
    factor_some f = rw (sym read ∙ e, sym read₂ ∙ f)
