-- How far a cell comes through the sweeps, and what its fate is by that.
use mathlib.Core.Path.{◌≡◌, refl}
use mathlib.Core.Bool.{Bool, true, false, cond, not}
use mathlib.Core.List.{List}
use Prim.Native.Nat.{ℕ}
use Rattle.cells.specs.Ins.{label_of}
use Rattle.cells.proofs.Facts.{clash}
use Rattle.cells.proofs.Lists.{Sub}
use Rattle.cleanup.specs.Marks.{jump_of, removable_load}
use Rattle.cleanup.specs.Positions.{see_at, every, left₁, left₂, left₃, left₄}
use Rattle.cleanup.proofs.Sweeping.{sub_dedupe, sub_reach, sub_sweep}
use Rattle.fates.specs.Fates.{among}
use Rattle.fates.specs.Steps.{reached, named_of}
use Rattle.fates.specs.declared.Fate.{Fate}
use Rattle.fates.specs.declared.Fate.TheVariants.{RepeatedLabel, Unreachable, JumpToNext, LoadOverwritten, Kept}
use Rattle.fates.specs.declared.Reason.TheVariants.{Nothing}
use Rattle.fates.proofs.Lists.{among_sub}

-- whether each of the four sweeps leaves it: once it is gone, no later one has it
pub data Level : Bool → Bool → Bool → Bool → Type 0 where
  gone₁ : Level false false false false
  gone₂ : Level true false false false
  gone₃ : Level true true false false
  gone₄ : Level true true true false
  left : Level true true true true

level : (b₁ b₂ b₃ b₄ : Bool) → (b₂ ≡ true → b₁ ≡ true) → (b₃ ≡ true → b₂ ≡ true) → (b₄ ≡ true → b₃ ≡ true) → Level b₁ b₂ b₃ b₄
level true true true true f g h = left
level true true true false f g h = gone₄
level true true false true f g h = clash false (h refl) refl
level true true false false f g h = gone₃
level true false true b₄ f g h = clash false (g refl) refl
level true false false true f g h = clash false (h refl) refl
level true false false false f g h = gone₂
level false true b₃ b₄ f g h = clash false (f refl) refl
level false false true b₄ f g h = clash false (g refl) refl
level false false false true f g h = clash false (h refl) refl
level false false false false f g h = gone₁

module _ (s : List ℕ) where
  pub sub₁ : Sub (left₁ s) (every s)
  sub₁ = sub_dedupe (see_at s) _ (every s)

  pub sub₂ : Sub (left₂ s) (left₁ s)
  sub₂ = sub_reach (see_at s) false (left₁ s)

  pub sub₃ : Sub (left₃ s) (left₂ s)
  sub₃ = sub_sweep (see_at s) jump_of label_of (left₂ s)

  pub sub₄ : Sub (left₄ s) (left₃ s)
  sub₄ = sub_sweep (see_at s) removable_load removable_load (left₃ s)

  pub level_at : (k : ℕ) → Level (among k (left₁ s)) (among k (left₂ s)) (among k (left₃ s)) (among k (left₄ s))
  level_at k = level _ _ _ _ (among_sub k sub₂) (among_sub k sub₃) (among_sub k sub₄)

-- the fate by the sweeps; u is where an unreachable one lies, f what the fold says
abbrev pub by_level : Bool → Bool → Bool → Bool → ℕ → Fate → Fate
by_level b₁ b₂ b₃ b₄ u f = cond (not b₁) RepeatedLabel (cond (not b₂) (Unreachable u) (cond (not b₃) JumpToNext (cond (not b₄) LoadOverwritten f)))

-- the fate that the sweeps give it
abbrev pub swept_fate : Bool → Bool → Bool → Bool → Fate
swept_fate b₁ b₂ b₃ b₄ = cond b₄ (Kept Nothing) (cond b₃ LoadOverwritten (cond b₂ JumpToNext (cond b₁ (Unreachable 0) RepeatedLabel)))

pub fate-by : {b₁ b₂ b₃ b₄ : Bool} (u : ℕ) (f : Fate) → Level b₁ b₂ b₃ b₄ → cond b₄ f (named_of (swept_fate b₁ b₂ b₃ b₄) u) ≡ by_level b₁ b₂ b₃ b₄ u f
fate-by u f gone₁ = refl
fate-by u f gone₂ = refl
fate-by u f gone₃ = refl
fate-by u f gone₄ = refl
fate-by u f left = refl

-- by it, whether sweep two leaves the cell
pub reached_by : {b₁ b₂ b₃ b₄ : Bool} → Level b₁ b₂ b₃ b₄ → reached (swept_fate b₁ b₂ b₃ b₄) ≡ b₂
reached_by gone₁ = refl
reached_by gone₂ = refl
reached_by gone₃ = refl
reached_by gone₄ = refl
reached_by left = refl
