-- What the arms of the fold share: the answers of leaves, and a command that is none of the patterns of a `match`.
use mathlib.Core.Path.{◌≡◌, refl, sym, ◌∙◌, ap}
use mathlib.Core.Bool.{Bool, true, cond}
use mathlib.Core.List.{List, [], ◌∷◌, map}
use Prim.Native.Nat.{ℕ}
use Rattle.leaves.specs.declared.quad.Quad.{Quad}
use Rattle.leaves.specs.declared.constant.ConstVal.TheVariants.{Quad as QuadV, Bool as BoolV}
use Rattle.cells.proofs.Facts.{and_true, T_of}
use Rattle.cells.proofs.Matches.{Missed, listed, covered, singly, missed_test}
use Rattle.crystalfold.specs.Arms.{Choice, chosen, Leaves, leaf_of}
use Rattle.std.specs.Prelude.{Ok, Err}
use Rattle.leaves.specs.Verdict.{Verdict}
use Rattle.leaves.specs.declared.verdict.Decline.TheVariants.{NotComputed}

-- the answers of leaves that have one at any two
abbrev pub as_bool : Bool → Verdict
as_bool b = Ok (BoolV b)

abbrev pub as_quad : Quad → Verdict
as_quad q = Ok (QuadV q)

-- ---- a command in none of the arms of a `match`, which have all of a list: it is none of the list's

abbrev keys : {B : Type 0} → List (Choice B) → List ℕ
keys {B} cs = map (λ (c : Choice B). c.key) cs

pub not_chosen : {B : Type 0} (d : B) (kss : List (List ℕ)) (cs : List (Choice B)) (o : ℕ) → Missed kss o → covered kss (keys cs) ≡ true → chosen d o cs ≡ d
not_chosen d kss [] o m c = refl
not_chosen d kss (x ∷ xs) o m c =
    let (y, z) = and_true (listed kss x.key) (covered kss (keys xs)) c in
    ap (λ (t : Bool). cond t x.gives (chosen d o xs)) (missed_test kss o m x.key (T_of (listed kss x.key) y)) ∙ not_chosen d kss xs o m z

pub no_leaf : {A : Type 0} (cs : Leaves A) (o : ℕ) (a b : A) → Missed (singly (keys cs)) o → covered (singly (keys cs)) (keys cs) ≡ true → Err NotComputed ≡ leaf_of o cs a b
no_leaf {A} cs o a b m c = sym (ap (λ (g : A → A → Verdict). g a b) (not_chosen (λ (a b : A). Err NotComputed) (singly (keys cs)) cs o m c))
