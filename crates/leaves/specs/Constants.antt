-- Promise: known values and their equality, of document 01's module 2 (Quad and equality leaves).
-- Also: a value taken apart by its kind.
--
use Rattle.std.specs.Prelude.{ℕ, Bool, true, false, ℤ, nat_eq, Float}
use Rattle.std.specs.Bool.{beq}
use Rattle.std.specs.Float.Ieee as Ieee
use Rattle.leaves.specs.declared.quad.Quad.{Quad}
use Rattle.leaves.specs.declared.constant.ConstVal.{ConstVal}
use Rattle.leaves.specs.declared.constant.ConstVal.TheVariants.{Unknown, Quad as QuadV, Bool as BoolV, F64, I32, U32, Fx}
use Rattle.leaves.specs.Quads.{q_same}
use Rattle.leaves.specs.Signed.{same_z}

-- ---- a value taken apart

-- by its kind: u where it is unknown, else the kind's function of what it holds
abbrev pub by_kind : {A : Type 0} → A → (Quad → A) → (Bool → A) → (Float → A) → (ℤ → A) → (ℕ → A) → (ℤ → A) → ConstVal → A
by_kind u q b f i n z Unknown = u
by_kind u q b f i n z (QuadV x) = q x
by_kind u q b f i n z (BoolV x) = b x
by_kind u q b f i n z (F64 x) = f x
by_kind u q b f i n z (I32 x) = i x
by_kind u q b f i n z (U32 x) = n x
by_kind u q b f i n z (Fx x) = z x

-- by one kind: f of what a value of the kind holds, and d of any other value
abbrev pub on_quad : {A : Type 0} → ConstVal → (Quad → A) → A → A
on_quad v f d = by_kind d f (λ (x : Bool). d) (λ (x : Float). d) (λ (x : ℤ). d) (λ (x : ℕ). d) (λ (x : ℤ). d) v

abbrev pub on_bool : {A : Type 0} → ConstVal → (Bool → A) → A → A
on_bool v f d = by_kind d (λ (x : Quad). d) f (λ (x : Float). d) (λ (x : ℤ). d) (λ (x : ℕ). d) (λ (x : ℤ). d) v

abbrev pub on_f64 : {A : Type 0} → ConstVal → (Float → A) → A → A
on_f64 v f d = by_kind d (λ (x : Quad). d) (λ (x : Bool). d) f (λ (x : ℤ). d) (λ (x : ℕ). d) (λ (x : ℤ). d) v

abbrev pub on_i32 : {A : Type 0} → ConstVal → (ℤ → A) → A → A
on_i32 v f d = by_kind d (λ (x : Quad). d) (λ (x : Bool). d) (λ (x : Float). d) f (λ (x : ℕ). d) (λ (x : ℤ). d) v

abbrev pub on_u32 : {A : Type 0} → ConstVal → (ℕ → A) → A → A
on_u32 v f d = by_kind d (λ (x : Quad). d) (λ (x : Bool). d) (λ (x : Float). d) (λ (x : ℤ). d) f (λ (x : ℤ). d) v

abbrev pub on_fx : {A : Type 0} → ConstVal → (ℤ → A) → A → A
on_fx v f d = by_kind d (λ (x : Quad). d) (λ (x : Bool). d) (λ (x : Float). d) (λ (x : ℤ). d) (λ (x : ℕ). d) f v

-- a value is known
abbrev pub is_known : ConstVal → Bool
is_known = by_kind false (λ (x : Quad). true) (λ (x : Bool). true) (λ (x : Float). true) (λ (x : ℤ). true) (λ (x : ℕ). true) (λ (x : ℤ). true)

-- "Equality of two kinds is false; f64 equality is IEEE 754's". An unknown value equals none
unfoldable pub const_eq : ConstVal → ConstVal → Bool
const_eq Unknown b = false
const_eq (QuadV x) b = on_quad b (q_same x) false
const_eq (BoolV x) b = on_bool b (beq x) false
const_eq (F64 x) b = on_f64 b (Ieee.eq x) false
const_eq (I32 x) b = on_i32 b (same_z x) false
const_eq (U32 x) b = on_u32 b (nat_eq x) false
const_eq (Fx x) b = on_fx b (same_z x) false
