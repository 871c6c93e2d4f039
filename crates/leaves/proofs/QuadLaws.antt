-- Laws that show the definitions of specs/Quads.antt to be the right ones: each order is a partial order with the bounds `meet` and `join`.
use Rattle.std.proofs.Common.{◌≡◌, ℕ, ◌<◌, Bool, true, false, not, ◌&&◌, ◌||◌, eqb, [], ◌∷◌, map, sym, refl, ap, ◌∙◌, arith, ne_eqb}
use mathlib.Core.Bool.{beq}
use lib.Dec as Dec
use Rattle.leaves.specs.declared.quad.Quad.{Quad}
use Rattle.leaves.specs.declared.quad.Quad.TheVariants.{N, F, T, S}
use Rattle.leaves.specs.Quads.{told_false, told_true, of_told, Order, every, meet, join, approx_below, truth_below, q_and, q_or, q_not, q_truth_and, q_truth_or, q_truth_not, q_same, quad_of, number_of}
use Rattle.std.specs.Prelude.{Some, None}

-- ---- a test that passes at all four passes at each

and_l : (a b : Bool) → Dec.T (a && b) → Dec.T a
and_l true b t = tt
and_l false b t = t

and_r : (a b : Bool) → Dec.T (a && b) → Dec.T b
and_r true b t = t
and_r false b t = absurd t

-- a test that holds wherever two others do
implied : (a b c : Bool) → Dec.T (not (a && b) || c) → Dec.T a → Dec.T b → Dec.T c
implied true true c t x y = t
implied true false c t x y = absurd y
implied false b c t x y = absurd x

every_at : (f : Quad → Bool) → Dec.T (every f) → (q : Quad) → Dec.T (f q)
every_at f t N = and_l (f N) (f F) (and_l (f N && f F) (f T) (and_l (f N && f F && f T) (f S) t))
every_at f t F = and_r (f N) (f F) (and_l (f N && f F) (f T) (and_l (f N && f F && f T) (f S) t))
every_at f t T = and_r (f N && f F) (f T) (and_l (f N && f F && f T) (f S) t)
every_at f t S = and_r (f N && f F && f T) (f S) t

abbrev every2 : (Quad → Quad → Bool) → Bool
every2 f = every (λ (a : Quad). every (f a))

every2_at : (f : Quad → Quad → Bool) → Dec.T (every2 f) → (a b : Quad) → Dec.T (f a b)
every2_at f t a b = every_at (f a) (every_at (λ (a : Quad). every (f a)) t a) b

abbrev every3 : (Quad → Quad → Quad → Bool) → Bool
every3 f = every (λ (a : Quad). every2 (f a))

every3_at : (f : Quad → Quad → Quad → Bool) → Dec.T (every3 f) → (a b x : Quad) → Dec.T (f a b x)
every3_at f t a = every2_at (f a) (every_at (λ (a : Quad). every2 (f a)) t a)

-- ---- equality

-- two quads are the same exactly when their numbers are ..
pub same_number : (a b : Quad) → Dec.T (beq (q_same a b) (eqb (number_of a) (number_of b)))
same_number = every2_at (λ (a b : Quad). beq (q_same a b) (eqb (number_of a) (number_of b))) tt

-- .. and then they are one
pub same_quad : (a b : Quad) → Dec.T (q_same a b) → a ≡ b
same_quad a b t =
    sym (told a)
    ∙ ap (λ (f : Bool). of_told f (told_true a)) (equal (told_false a) (told_false b) (and_l (beq (told_false a) (told_false b)) (beq (told_true a) (told_true b)) t))
    ∙ ap (of_told (told_false b)) (equal (told_true a) (told_true b) (and_r (beq (told_false a) (told_false b)) (beq (told_true a) (told_true b)) t))
    ∙ told b
  where
    told : (q : Quad) → of_told (told_false q) (told_true q) ≡ q
    told N = refl
    told F = refl
    told T = refl
    told S = refl

    equal : (x y : Bool) → Dec.T (beq x y) → x ≡ y
    equal true true t = refl
    equal true false t = absurd t
    equal false true t = absurd t
    equal false false t = refl

-- ---- an order with its bounds

-- a partial order, in which x is below `meet a b` exactly when it is below both, and `join a b` is below x exactly when both are
pub record Lattice (below : Order) : Type 0 where
  pub reflexive : (a : Quad) → Dec.T (below a a)
  pub antisymmetric : (a b : Quad) → Dec.T (below a b) → Dec.T (below b a) → a ≡ b
  pub transitive : (a b x : Quad) → Dec.T (below a b) → Dec.T (below b x) → Dec.T (below a x)
  pub greatest_lower : (a b x : Quad) → Dec.T (beq (below x (meet below a b)) (below x a && below x b))
  pub least_upper : (a b x : Quad) → Dec.T (beq (below (join below a b) x) (below a x && below b x))

-- an order is one if the tests pass everywhere
lattice : (below : Order)
    → Dec.T (every (λ (a : Quad). below a a))
    → Dec.T (every2 (λ (a b : Quad). not (below a b && below b a) || q_same a b))
    → Dec.T (every3 (λ (a b x : Quad). not (below a b && below b x) || below a x))
    → Dec.T (every3 (λ (a b x : Quad). beq (below x (meet below a b)) (below x a && below x b)))
    → Dec.T (every3 (λ (a b x : Quad). beq (below (join below a b) x) (below a x && below b x)))
    → Lattice below
lattice below r s t m j = record {
  reflexive = every_at (λ (a : Quad). below a a) r;
  antisymmetric = λ a b x y. same_quad a b (implied (below a b) (below b a) (q_same a b) (every2_at (λ (a b : Quad). not (below a b && below b a) || q_same a b) s a b) x y);
  transitive = λ a b x. implied (below a b) (below b x) (below a x) (every3_at (λ (a b x : Quad). not (below a b && below b x) || below a x) t a b x);
  greatest_lower = every3_at (λ (a b x : Quad). beq (below x (meet below a b)) (below x a && below x b)) m;
  least_upper = every3_at (λ (a b x : Quad). beq (below (join below a b) x) (below a x && below b x)) j;
}

pub approximation : Lattice approx_below
unfolding meet join
approximation = lattice approx_below tt tt tt tt tt

pub truth : Lattice truth_below
unfolding meet join
truth = lattice truth_below tt tt tt tt tt

-- ---- negation

-- QNot and QTruthNot exchange F and T and keep N and S
pub exchanges : map q_not (N ∷ F ∷ T ∷ S ∷ []) ≡ N ∷ T ∷ F ∷ S ∷ []
exchanges = refl

pub truth_exchanges : map q_truth_not (N ∷ F ∷ T ∷ S ∷ []) ≡ N ∷ T ∷ F ∷ S ∷ []
truth_exchanges = refl

-- ---- how the leaves compute the bounds: by what has been told, false by u, true by v

abbrev ByTold : (Bool → Bool → Bool) → (Bool → Bool → Bool) → (Quad → Quad → Quad) → Type 0
ByTold u v g =
    (a b : Quad) (f f' t t' : Bool) → f ≡ told_false a → f' ≡ told_false b → t ≡ told_true a → t' ≡ told_true b → of_told (u f f') (v t t') ≡ g a b

by-told : (u v : Bool → Bool → Bool) (g : Quad → Quad → Quad)
    → Dec.T (every2 (λ (a b : Quad). q_same (of_told (u (told_false a) (told_false b)) (v (told_true a) (told_true b))) (g a b))) → ByTold u v g
by-told u v g passes a b f f' t t' e e' d d' =
    let same : of_told (u (told_false a) (told_false b)) (v (told_true a) (told_true b)) ≡ g a b =
    same_quad (of_told (u (told_false a) (told_false b)) (v (told_true a) (told_true b))) (g a b)
    (every2_at (λ (a b : Quad). q_same (of_told (u (told_false a) (told_false b)) (v (told_true a) (told_true b))) (g a b)) passes a b) in
    cc

-- in the approximation order: what both have been told, what either has been told
pub and-told : ByTold ◌&&◌ ◌&&◌ q_and
unfolding meet
and-told = by-told ◌&&◌ ◌&&◌ q_and tt

pub or-told : ByTold ◌||◌ ◌||◌ q_or
unfolding meet join
or-told = by-told ◌||◌ ◌||◌ q_or tt

-- in the truth order: false if either has been told so and true if both have, and the other way round
pub truth-and-told : ByTold ◌||◌ ◌&&◌ q_truth_and
unfolding meet
truth-and-told = by-told ◌||◌ ◌&&◌ q_truth_and tt

pub truth-or-told : ByTold ◌&&◌ ◌||◌ q_truth_or
unfolding meet join
truth-or-told = by-told ◌&&◌ ◌||◌ q_truth_or tt

-- ---- numbers

-- a quad's number is read back as the quad
pub quad_numbered : (q : Quad) → quad_of (number_of q) ≡ Some q
unfolding quad_of
quad_numbered N = refl
quad_numbered F = refl
quad_numbered T = refl
quad_numbered S = refl

pub not-numbered : (n : ℕ) → 3 < n → quad_of n ≡ None
unfolding quad_of
not-numbered n h = simp (
  ne_eqb n 0 (λ (e : n ≡ 0). omega arith),
  ne_eqb n 1 (λ (e : n ≡ 1). omega arith),
  ne_eqb n 2 (λ (e : n ≡ 2). omega arith),
  ne_eqb n 3 (λ (e : n ≡ 3). omega arith),
)
