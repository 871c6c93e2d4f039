-- A value that is of no kind asked for: by each kind, and what is known.
use Rattle.std.proofs.Common.{◌≡◌, ℕ, Bool, true, ℤ, refl}
use Rattle.std.specs.Prelude.{Float}
use denote.Enum.Bare.{sameb}
use Rattle.leaves.specs.declared.quad.Quad.{Quad}
use Rattle.leaves.specs.declared.quad.Quad.TheVariants.{N, F, T, S}
use Rattle.leaves.specs.contracts.quad.Quad.{the_type}
use Rattle.leaves.specs.declared.constant.ConstVal.{ConstVal}
use Rattle.leaves.specs.declared.constant.ConstVal.TheVariants.{Unknown, Quad as QuadV, Bool as BoolV, F64, I32, U32, Fx}
use Rattle.leaves.specs.Constants.{on_quad, on_bool, on_f64, on_i32, on_u32, on_fx, is_known}
use Rattle.leaves.specs.Quads.{q_same}

-- a value that is none of a kind's has the other answer
pub on_quad-other : {A : Type 0} (v : ConstVal) (f : Quad → A) (d : A) → ((x : Quad) → v ≡ QuadV x → ⊥) → on_quad v f d ≡ d
on_quad-other Unknown f d h = refl
on_quad-other (QuadV x) f d h = absurd (h x refl)
on_quad-other (BoolV x) f d h = refl
on_quad-other (F64 x) f d h = refl
on_quad-other (I32 x) f d h = refl
on_quad-other (U32 x) f d h = refl
on_quad-other (Fx x) f d h = refl

pub on_bool-other : {A : Type 0} (v : ConstVal) (f : Bool → A) (d : A) → ((x : Bool) → v ≡ BoolV x → ⊥) → on_bool v f d ≡ d
on_bool-other Unknown f d h = refl
on_bool-other (QuadV x) f d h = refl
on_bool-other (BoolV x) f d h = absurd (h x refl)
on_bool-other (F64 x) f d h = refl
on_bool-other (I32 x) f d h = refl
on_bool-other (U32 x) f d h = refl
on_bool-other (Fx x) f d h = refl

pub on_f64-other : {A : Type 0} (v : ConstVal) (f : Float → A) (d : A) → ((x : Float) → v ≡ F64 x → ⊥) → on_f64 v f d ≡ d
on_f64-other Unknown f d h = refl
on_f64-other (QuadV x) f d h = refl
on_f64-other (BoolV x) f d h = refl
on_f64-other (F64 x) f d h = absurd (h x refl)
on_f64-other (I32 x) f d h = refl
on_f64-other (U32 x) f d h = refl
on_f64-other (Fx x) f d h = refl

pub on_i32-other : {A : Type 0} (v : ConstVal) (f : ℤ → A) (d : A) → ((x : ℤ) → v ≡ I32 x → ⊥) → on_i32 v f d ≡ d
on_i32-other Unknown f d h = refl
on_i32-other (QuadV x) f d h = refl
on_i32-other (BoolV x) f d h = refl
on_i32-other (F64 x) f d h = refl
on_i32-other (I32 x) f d h = absurd (h x refl)
on_i32-other (U32 x) f d h = refl
on_i32-other (Fx x) f d h = refl

pub on_u32-other : {A : Type 0} (v : ConstVal) (f : ℕ → A) (d : A) → ((x : ℕ) → v ≡ U32 x → ⊥) → on_u32 v f d ≡ d
on_u32-other Unknown f d h = refl
on_u32-other (QuadV x) f d h = refl
on_u32-other (BoolV x) f d h = refl
on_u32-other (F64 x) f d h = refl
on_u32-other (I32 x) f d h = refl
on_u32-other (U32 x) f d h = absurd (h x refl)
on_u32-other (Fx x) f d h = refl

pub on_fx-other : {A : Type 0} (v : ConstVal) (f : ℤ → A) (d : A) → ((x : ℤ) → v ≡ Fx x → ⊥) → on_fx v f d ≡ d
on_fx-other Unknown f d h = refl
on_fx-other (QuadV x) f d h = refl
on_fx-other (BoolV x) f d h = refl
on_fx-other (F64 x) f d h = refl
on_fx-other (I32 x) f d h = refl
on_fx-other (U32 x) f d h = refl
on_fx-other (Fx x) f d h = absurd (h x refl)

-- a value that is not Unknown is known
pub is_known-other : (v : ConstVal) → (v ≡ Unknown → ⊥) → is_known v ≡ true
is_known-other Unknown h = absurd (h refl)
is_known-other (QuadV x) h = refl
is_known-other (BoolV x) h = refl
is_known-other (F64 x) h = refl
is_known-other (I32 x) h = refl
is_known-other (U32 x) h = refl
is_known-other (Fx x) h = refl

-- the derived equality of two quads
pub sameb-quads : (x y : Quad) → sameb the_type x y ≡ q_same x y
sameb-quads N N = refl
sameb-quads N F = refl
sameb-quads N T = refl
sameb-quads N S = refl
sameb-quads F N = refl
sameb-quads F F = refl
sameb-quads F T = refl
sameb-quads F S = refl
sameb-quads T N = refl
sameb-quads T F = refl
sameb-quads T T = refl
sameb-quads T S = refl
sameb-quads S N = refl
sameb-quads S F = refl
sameb-quads S T = refl
sameb-quads S S = refl
