-- The Rust's order of work: each pass validates, rewrites and validates again function by function. It refuses as the site check, which looks at
-- every function before any is rewritten.
use mathlib.Core.Path.{◌≡◌, refl}
use mathlib.Core.List.{List, [], ◌∷◌}
use Prim.Native.Nat.{ℕ, ◌+◌}
use Rattle.cells.specs.Answers.{or_else}
use Rattle.cells.specs.Functions.{Function}
use Rattle.sites.specs.AllSites.{sites_answer}
use Rattle.sites.specs.Validators.{site_check}
use Rattle.cleanup.specs.Cleanup.{clean_function}
use Rattle.cleanup.proofs.CleanupPasses.{clean_function_passes}
use Rattle.crystalfold.specs.Rules.{Rules}
use Rattle.crystalfold.specs.CrystalFold.{fold_function}
use Rattle.crystalfold.proofs.FoldPasses.{fold-function_passes}
use Rattle.rewrite.specs.AllFunctions.{clean_all}
use Rattle.rewrite.proofs.EachFunction.{clean_all_passes}
use Rattle.std.specs.Prelude.{Ok, Err}
use Rattle.cells.specs.Checked.{Checked}

-- a pass h as the Rust runs it: each function is validated, rewritten and validated again before the next one
abbrev pub rust_answer : (Function → Function) → ℕ → List Function → Checked
rust_answer h position [] = Ok tt
rust_answer h position (f ∷ fs) =
    or_else (site_check position f.code f.events)
    (or_else (site_check position (h f).code (h f).events) (rust_answer h (position + 1) fs))

-- a pass that keeps each function good: checking all of them before rewriting any answers as the Rust does
module _ (h : Function → Function)
    (keeps : (position : ℕ) (f : Function) → site_check position f.code f.events ≡ Ok tt → site_check position (h f).code (h f).events ≡ Ok tt) where
  pub pass_order : (position : ℕ) (fs : List Function) → rust_answer h position fs ≡ sites_answer position fs
  pass_order position [] = refl
  pass_order position (f ∷ fs) = go (site_check position f.code f.events) refl (pass_order (position + 1) fs)
    where
      go : (a : Checked) → site_check position f.code f.events ≡ a → rust_answer h (position + 1) fs ≡ sites_answer (position + 1) fs
          → or_else a (or_else (site_check position (h f).code (h f).events) (rust_answer h (position + 1) fs)) ≡ or_else a (sites_answer (position + 1) fs)
      go (Ok tt) e r = rw (keeps position f e) r
      go (Err x) e r = refl

-- both passes, first cleanup over every function, then CrystalFold by any rules
pub rust_order : (f : Rules) (position : ℕ) (fs : List Function) → or_else (rust_answer clean_function position fs) (rust_answer (fold_function f) position (clean_all fs)) ≡ sites_answer position fs
rust_order f position fs =
    rw (pass_order clean_function clean_function_passes position fs, pass_order (fold_function f) (fold-function_passes f) position (clean_all fs))
    (go (sites_answer position fs) refl)
  where
    go : (a : Checked) → sites_answer position fs ≡ a → or_else a (sites_answer position (clean_all fs)) ≡ a
    go (Ok tt) e = clean_all_passes position fs e
    go (Err r) e = refl
