-- What the `else` of a `let .. else` on a known value is told: its tag is one of the others'.
use Rattle.std.proofs.Common.{◌≡◌, ℕ, Bool, true, false, not, List, [], ◌∷◌, ℤ, refl}
use lib.Dec as Dec
use lib.Ieee.{Float}
use mir.Val.{has_key}
use types.Run.{OneOf, miss}
use denote.Enum.Declared.{tag_of}
use Rattle.leaves.specs.declared.quad.Quad.{Quad}
use Rattle.leaves.specs.declared.constant.ConstVal.{ConstVal}
use Rattle.leaves.specs.declared.constant.ConstVal.TheVariants.{Unknown, Quad as QuadV, Bool as BoolV, F64, I32, U32, Fx}
use Rattle.leaves.specs.Constants.{on_quad, on_bool, on_f64, on_i32, on_u32, on_fx, is_known}
use Rattle.leaves.specs.contracts.constant.ConstVal.{the_type}

has : (ts : List ℕ) (k : ℕ) → OneOf ts k → Dec.T (has_key ts k)
has ts k h = go (has_key ts k) (λ (t : Dec.T (not (has_key ts k))). miss ts k t h)
  where
    go : (b : Bool) → (Dec.T (not b) → ⊥) → Dec.T b
    go true f = tt
    go false f = absurd (f tt)

-- g answers d at every value whose tag is one of ts, if it does so kind by kind
pub among : {A : Type 0} (g : ConstVal → A) (d : A) (ts : List ℕ) (v : ConstVal) → OneOf ts (tag_of the_type v)
    → (Dec.T (has_key ts 0) → g Unknown ≡ d)
    → ((x : Quad) → Dec.T (has_key ts 1) → g (QuadV x) ≡ d)
    → ((x : Bool) → Dec.T (has_key ts 2) → g (BoolV x) ≡ d)
    → ((x : Float) → Dec.T (has_key ts 3) → g (F64 x) ≡ d)
    → ((x : ℤ) → Dec.T (has_key ts 4) → g (I32 x) ≡ d)
    → ((x : ℕ) → Dec.T (has_key ts 5) → g (U32 x) ≡ d)
    → ((x : ℤ) → Dec.T (has_key ts 6) → g (Fx x) ≡ d)
    → g v ≡ d
among g d ts Unknown h u q b f i n z = u (has ts 0 h)
among g d ts (QuadV x) h u q b f i n z = q x (has ts 1 h)
among g d ts (BoolV x) h u q b f i n z = b x (has ts 2 h)
among g d ts (F64 x) h u q b f i n z = f x (has ts 3 h)
among g d ts (I32 x) h u q b f i n z = i x (has ts 4 h)
among g d ts (U32 x) h u q b f i n z = n x (has ts 5 h)
among g d ts (Fx x) h u q b f i n z = z x (has ts 6 h)

pub not_quad : {A : Type 0} (v : ConstVal) (f : Quad → A) (d : A) → OneOf (0 ∷ 2 ∷ 3 ∷ 4 ∷ 5 ∷ 6 ∷ []) (tag_of the_type v) → on_quad v f d ≡ d
not_quad v f d h = among (λ (v : ConstVal). on_quad v f d) d (0 ∷ 2 ∷ 3 ∷ 4 ∷ 5 ∷ 6 ∷ []) v h (λ t. refl) (λ x t. absurd t) (λ x t. refl) (λ x t. refl) (λ x t. refl) (λ x t. refl) (λ x t. refl)

pub not_bool : {A : Type 0} (v : ConstVal) (f : Bool → A) (d : A) → OneOf (0 ∷ 1 ∷ 3 ∷ 4 ∷ 5 ∷ 6 ∷ []) (tag_of the_type v) → on_bool v f d ≡ d
not_bool v f d h = among (λ (v : ConstVal). on_bool v f d) d (0 ∷ 1 ∷ 3 ∷ 4 ∷ 5 ∷ 6 ∷ []) v h (λ t. refl) (λ x t. refl) (λ x t. absurd t) (λ x t. refl) (λ x t. refl) (λ x t. refl) (λ x t. refl)

pub not-f64 : {A : Type 0} (v : ConstVal) (f : Float → A) (d : A) → OneOf (0 ∷ 1 ∷ 2 ∷ 4 ∷ 5 ∷ 6 ∷ []) (tag_of the_type v) → on_f64 v f d ≡ d
not-f64 v f d h = among (λ (v : ConstVal). on_f64 v f d) d (0 ∷ 1 ∷ 2 ∷ 4 ∷ 5 ∷ 6 ∷ []) v h (λ t. refl) (λ x t. refl) (λ x t. refl) (λ x t. absurd t) (λ x t. refl) (λ x t. refl) (λ x t. refl)

pub not-i32 : {A : Type 0} (v : ConstVal) (f : ℤ → A) (d : A) → OneOf (0 ∷ 1 ∷ 2 ∷ 3 ∷ 5 ∷ 6 ∷ []) (tag_of the_type v) → on_i32 v f d ≡ d
not-i32 v f d h = among (λ (v : ConstVal). on_i32 v f d) d (0 ∷ 1 ∷ 2 ∷ 3 ∷ 5 ∷ 6 ∷ []) v h (λ t. refl) (λ x t. refl) (λ x t. refl) (λ x t. refl) (λ x t. absurd t) (λ x t. refl) (λ x t. refl)

pub not-u32 : {A : Type 0} (v : ConstVal) (f : ℕ → A) (d : A) → OneOf (0 ∷ 1 ∷ 2 ∷ 3 ∷ 4 ∷ 6 ∷ []) (tag_of the_type v) → on_u32 v f d ≡ d
not-u32 v f d h = among (λ (v : ConstVal). on_u32 v f d) d (0 ∷ 1 ∷ 2 ∷ 3 ∷ 4 ∷ 6 ∷ []) v h (λ t. refl) (λ x t. refl) (λ x t. refl) (λ x t. refl) (λ x t. refl) (λ x t. absurd t) (λ x t. refl)

pub not-fx : {A : Type 0} (v : ConstVal) (f : ℤ → A) (d : A) → OneOf (0 ∷ 1 ∷ 2 ∷ 3 ∷ 4 ∷ 5 ∷ []) (tag_of the_type v) → on_fx v f d ≡ d
not-fx v f d h = among (λ (v : ConstVal). on_fx v f d) d (0 ∷ 1 ∷ 2 ∷ 3 ∷ 4 ∷ 5 ∷ []) v h (λ t. refl) (λ x t. refl) (λ x t. refl) (λ x t. refl) (λ x t. refl) (λ x t. refl) (λ x t. absurd t)

-- what is left of the values once Unknown is gone
pub is_known_lem : (v : ConstVal) → OneOf (1 ∷ 2 ∷ 3 ∷ 4 ∷ 5 ∷ 6 ∷ []) (tag_of the_type v) → is_known v ≡ true
is_known_lem v h = among is_known true (1 ∷ 2 ∷ 3 ∷ 4 ∷ 5 ∷ 6 ∷ []) v h (λ t. absurd t) (λ x t. refl) (λ x t. refl) (λ x t. refl) (λ x t. refl) (λ x t. refl) (λ x t. refl)
