-- What `sealing_check` answers after each step: where the site check refuses, where activation numbers do, and else by write numbers.
use mathlib.Core.Path.{◌≡◌, refl, sym, ◌∙◌}
use mathlib.Core.List.{List}
use Prim.Native.Nat.{ℕ, ◌≤◌}
use lib.ListN.{length}
use Rattle.cells.specs.Cells.{cells}
use Rattle.cells.specs.Check.{max_image}
use Rattle.cells.specs.Functions.{functions}
use Rattle.cells.specs.declared.refusal.Refusal.{Refusal}
use Rattle.sites.specs.declared.Which.TheVariants.{Activation, Write}
use Rattle.image.specs.Operations.{SiteChecked}
use Rattle.sealing.specs.Sealing.{numbering_answer}
use Rattle.sealing.specs.Promises.{SealingChecked}
use Rattle.sealing.proofs.Outcomes.{site-refuses, answered, sealing_checked}
use Rattle.std.specs.Prelude.{Ok, Err}
use Rattle.cells.specs.Checked.{Checked}
use Rattle.sealing.specs.Answer.{Sealing}
use Rattle.sealing.specs.declared.SealingError.{SealingError}
use Rattle.sealing.specs.declared.SealingError.TheVariants.{Refused}

module _ (s : List ℕ) {r : Checked} (c : SiteChecked s r) where
  pub by-site_check : {x : Refusal} → r ≡ Err x → SealingChecked s (Err (Refused x))
  by-site_check {x} e = sealing_checked s (Err (Refused x)) (sym (site-refuses s x (sym c.answer ∙ e)))

  module _ (g : r ≡ Ok tt) where
    pub short : length s ≤ max_image
    short = (c.accepted.0 g).image.short

    pub by_activation_numbers : {a : Sealing} {x : SealingError} → a ≡ numbering_answer Activation (functions (cells s)) → a ≡ Err x → SealingChecked s (Err x)
    by_activation_numbers {a} {x} e k =
        sealing_checked s (Err x) (sym (answered s (sym c.answer ∙ g) (sym e ∙ k) refl))

    pub by_write_numbers : {a b : Sealing} → a ≡ numbering_answer Activation (functions (cells s)) → a ≡ Ok tt → b ≡ numbering_answer Write (functions (cells s)) → SealingChecked s b
    by_write_numbers {a} {b} e k f = sealing_checked s b (sym (answered s (sym c.answer ∙ g) (sym e ∙ k) (sym f)))
