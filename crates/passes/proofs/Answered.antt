-- What `run` answers and writes, by the answer of its check.
use mathlib.Core.Path.{◌≡◌, sym, ◌∙◌, ap, ap₂}
use mathlib.Core.List.{List}
use Prim.Native.Nat.{ℕ, ◌*◌, ◌≤◌}
use native.Mathlib.Omega.{arith}
use lib.ListN.{length}
use Rattle.cells.specs.Check.{max_image}
use Rattle.cells.specs.Cells.{cells}
use Rattle.cells.specs.Functions.{functions}
use Rattle.cells.specs.declared.refusal.Refusal.{Refusal}
use Rattle.image.specs.SiteCheck.{site_answer}
use Rattle.image.proofs.Good.{site-good}
use Rattle.passes.specs.Passes.{pass_all, count_all, pass_bytes, pass_count, pass_check, answer_as, output_as, pass_answer, pass_output, report}
use Rattle.passes.specs.Steps.{AllWritten}
use Rattle.passes.specs.declared.Pass.{Pass}
use Rattle.passes.specs.declared.Total.{Total}
use Rattle.passes.proofs.Done.{check_good, bytes-length, bytes_shorter}
use Rattle.std.specs.Prelude.{Ok, Err}
use Rattle.cells.specs.Checked.{Checked}

module _ (p : Pass) (s before : List ℕ) {a : Checked} (e : a ≡ pass_check s (length before)) where
  -- a refusal is handed on, and nothing is written
  pub run-refused : {x : Refusal} → a ≡ Err x → (Err x ≡ pass_answer p s (length before)) × (before ≡ pass_output p s before)
  unfolding pass_answer pass_output
  run-refused {x} f =
      let g : pass_check s (length before) ≡ Err x = sym e ∙ f in
      (sym (ap (λ (c : Checked). answer_as c (length (pass_bytes p s)) (pass_count p s)) g), sym (ap (λ (c : Checked). output_as c (pass_bytes p s) before) g))

  module _ (f : a ≡ Ok tt) where
    -- what the functions' rewrite asks
    pub run_ready : (site_answer s ≡ Ok tt) × (length s ≤ length before)
    run_ready = let g = (check_good s (length before)).0 (sym e ∙ f) in ((site-good s).1 g.0, g.1)

    module _ (after : List ℕ) (r : Total) (w : AllWritten (pass_all p (functions (cells s))) (count_all p (functions (cells s))) before after r) where
      run_length : 16 * r.cells ≡ length (pass_bytes p s)
      run_length = omega (arith, w.count, bytes-length p s ((check_good s (length before)).0 (sym e ∙ f)).0)

      pub run_short : 16 * r.cells ≤ max_image
      run_short =
          let g = ((check_good s (length before)).0 (sym e ∙ f)).0 in
          omega (arith, run_length, bytes_shorter p s g, g.image.short)

      pub run-written : (Ok (record { length = (16 * r.cells); report = (report r.rewrites) }) ≡ pass_answer p s (length before)) × (after ≡ pass_output p s before)
      unfolding pass_answer pass_output pass_bytes pass_count
      run-written =
          let g : pass_check s (length before) ≡ Ok tt = sym e ∙ f in (
            ap₂ (λ (n m : ℕ). Ok (record { length = n; report = (report m) })) run_length w.rewrites ∙ sym (ap (λ (c : Checked). answer_as c (length (pass_bytes p s)) (pass_count p s)) g),
            w.bytes ∙ sym (ap (λ (c : Checked). output_as c (pass_bytes p s) before) g),
          )
