-- What keeps each function good keeps all of them good.
use mathlib.Core.Path.{◌≡◌, refl}
use mathlib.Core.List.{List, [], ◌∷◌, map}
use Prim.Native.Nat.{ℕ, ◌+◌}
use Rattle.cells.specs.Functions.{Function}
use Rattle.cells.proofs.Answers.{or-both}
use Rattle.sites.specs.Validators.{site_check}
use Rattle.sites.specs.AllSites.{sites_answer}
use Rattle.sites.proofs.Judged.{both-good}
use Rattle.std.specs.Prelude.{Ok}

module _ (h : Function → Function)
    (keeps : (position : ℕ) (f : Function) → site_check position f.code f.events ≡ Ok tt → site_check position (h f).code (h f).events ≡ Ok tt) where
  pub each_passes : (position : ℕ) (fs : List Function) → sites_answer position fs ≡ Ok tt → sites_answer position (map h fs) ≡ Ok tt
  each_passes position [] e = refl
  each_passes position (f ∷ fs) e =
      let g = both-good (site_check position f.code f.events) (sites_answer (position + 1) fs) e in
      or-both (site_check position (h f).code (h f).events) (sites_answer (position + 1) (map h fs)) (keeps position f g.0) (each_passes (position + 1) fs g.1)
