-- What a checked operation comes to as a verdict: its value as a value of a kind, or the reason why there is none.
use Rattle.std.proofs.Common.{◌≡◌, ℕ, ◌<◌, eqb, ne_eqb, eq-eqb, arith, Bool, not, true, false, cond, ℤ, refl, ap, ◌∙◌, subst, w32, SFits, to_z-of_z, of_z, to_z, lt-ltb}
use Rattle.std.specs.Prelude.{Option, Some, None, Ok, Err, SomeIff, MatchOption, IsSomeAnd, IsErrAnd, ok_or, int_div}
use Rattle.std.specs.Int.{CanDivide}
use Rattle.std.specs.Int.Signed.{mag}
use Rattle.leaves.specs.declared.constant.ConstVal.{ConstVal}
use Rattle.leaves.specs.declared.verdict.Decline.{Decline}
use Rattle.leaves.specs.declared.verdict.Decline.TheVariants.{OutOfRange}
use Rattle.leaves.specs.Verdict.{Verdict}
use Rattle.leaves.specs.Signed.{in_i32, checked_as}
use Rattle.leaves.proofs.Ranges.{sfits_in, nonzero_bits}

-- the option that an operation gives exactly where P holds, mapped to its kind, or the reason e; b is the test of P
pub checked : {A P : Type 0} (kind : A → ConstVal) (e : Decline) (b : Bool) (o : Option A) (m : Option ConstVal) (r : Verdict) (v : A)
    → SomeIff o P v → MatchOption o (m ≡ None) (λ x. IsSomeAnd m (λ y. y ≡ kind x)) → r ≡ ok_or m e → (P → b ≡ true) → ((P → ⊥) → b ≡ false)
    → r ≡ cond b (Ok (kind v)) (Err e)
checked kind e b None None r v s h q t f = q ∙ rw (f s) refl
checked kind e b None (Some y) r v s h q t f = cc
checked kind e b (Some x) None r v s h q t f = absurd h
checked kind e b (Some x) (Some y) r v s h q t f = q ∙ rw (t s.0, h, s.1) refl

pub fits_in : (z : ℤ) → SFits w32 z → in_i32 z ≡ true
fits_in z h = lt-ltb (mag z) 2147483648 h.sfits

pub unfit_out : (z : ℤ) → (SFits w32 z → ⊥) → in_i32 z ≡ false
unfit_out z n = go (in_i32 z) (λ e. n (sfits_in z e))
  where
    go : (b : Bool) → (b ≡ true → ⊥) → b ≡ false
    go true f = absurd (f refl)
    go false f = refl

-- two i32 as an operation is given them
abbrev pub passed_z : ℤ → ℤ
passed_z a = to_z w32 (of_z w32 a)

-- an operation of two i32 whose result is exact where an i32 holds it
pub exact_or : (kind : ℤ → ConstVal) (f : ℤ → ℤ → ℤ) {a b : ℤ} (o : Option ℤ) (m : Option ConstVal) (r : Verdict) → SFits w32 a → SFits w32 b
    → SomeIff o (SFits w32 (f (passed_z a) (passed_z b))) (f (passed_z a) (passed_z b)) → MatchOption o (m ≡ None) (λ x. IsSomeAnd m (λ y. y ≡ kind x))
    → r ≡ ok_or m OutOfRange → r ≡ checked_as kind (f a b)
exact_or kind f {a} {b} o m r h k s t q =
    simp (to_z-of_z h, to_z-of_z k) at (checked kind OutOfRange (in_i32 (f (passed_z a) (passed_z b))) o m r (f (passed_z a) (passed_z b)) s t q (fits_in _) (unfit_out _))

-- a quotient, or what goes with one: there where the quotient is an i32, by a divisor other than zero
pub divided_or : (kind : ℤ → ConstVal) (f : ℤ → ℤ → ℤ) {a b : ℤ} (o : Option ℤ) (m : Option ConstVal) (r : Verdict) → SFits w32 a → SFits w32 b
    → (of_z w32 b ≡ 0 → ⊥)
    → SomeIff o (CanDivide w32 (passed_z a) (passed_z b)) (f (passed_z a) (passed_z b)) → MatchOption o (m ≡ None) (λ x. IsSomeAnd m (λ y. y ≡ kind x))
    → r ≡ ok_or m OutOfRange → r ≡ cond (in_i32 (int_div a b)) (Ok (kind (f a b))) (Err OutOfRange)
divided_or kind f {a} {b} o m r h k ne s t q =
    let by : 0 < of_z w32 (passed_z b) = simp (to_z-of_z k) (nonzero_bits b k ne).1 in
    simp (to_z-of_z h, to_z-of_z k) at
    (checked kind OutOfRange (in_i32 (int_div (passed_z a) (passed_z b))) o m r (f (passed_z a) (passed_z b)) s t q
    (λ p. fits_in _ p.1) (λ n. unfit_out _ (λ p. n (by, p))))

-- ---- a number at 64 bits as an i32

pub narrowed : (kind : ℤ → ConstVal) {z x y : ℤ} → x ≡ y → SFits w32 x × (z ≡ x) → ◌≡◌ {A = Verdict} (Ok (kind (to_z w32 (of_z w32 z)))) (checked_as kind y)
narrowed kind {z} {x} {y} e (h, f) =
    let k : SFits w32 y = subst (SFits w32) e h in
    rw (fits_in y k) (ap (λ (n : ℤ). Ok (kind n)) (ap passed_z (f ∙ e) ∙ to_z-of_z k))

pub not_narrowed : (kind : ℤ → ConstVal) (r : Verdict) {x y : ℤ} → x ≡ y → (SFits w32 x → ⊥) → IsErrAnd r (λ d. d ≡ OutOfRange) → r ≡ checked_as kind y
not_narrowed kind (Ok v) e n h = absurd h
not_narrowed kind (Err d) {x} {y} e n h = rw (unfit_out y (subst (λ (z : ℤ). SFits w32 z → ⊥) e n)) (ap Err h)

-- a quotient of naturals, or what goes with one, by a divisor other than zero
pub nonzero_or : (kind : ℕ → ConstVal) (e : Decline) (o : Option ℕ) (m : Option ConstVal) (r : Verdict) (b v : ℕ)
    → SomeIff o (0 < b) v → MatchOption o (m ≡ None) (λ x. IsSomeAnd m (λ y. y ≡ kind x)) → r ≡ ok_or m e → r ≡ cond (eqb b 0) (Err e) (Ok (kind v))
nonzero_or kind e o m r b v s h q =
    checked kind e (not (eqb b 0)) o m r v s h q (λ l. ap not (ne_eqb b 0 (λ i. omega arith))) (λ n. ap not (eq-eqb b 0 (omega arith)))
    ∙ turned (eqb b 0)
  where
    turned : (t : Bool) → ◌≡◌ {A = Verdict} (cond (not t) (Ok (kind v)) (Err e)) (cond t (Err e) (Ok (kind v)))
    turned true = refl
    turned false = refl
