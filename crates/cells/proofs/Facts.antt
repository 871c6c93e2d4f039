-- Small facts: tests as equations, numbers that may be there, labels.
use Rattle.std.specs.Prelude.{Option, None, Some}
use mathlib.Core.Path.{◌≡◌, refl, sym, ◌∙◌, ap}
use mathlib.Core.Bool.{Bool, true, false, ◌&&◌, ◌||◌, not, true≢false}
use Prim.Native.Nat.{ℕ}
use lib.Dec.{eqb, T, eqb→eq, eqb_refl}
use Rattle.cells.specs.Ins.{Ins, load, comp, label, jmp, jmp_if, ret, act, label_of, alike}

-- goes by a test's two values, with the equation
pub by_test : {C : Type 0} (b : Bool) → (b ≡ true → C) → (b ≡ false → C) → C
by_test true f g = f refl
by_test false f g = g refl

pub clash : {C : Type 0} (b : Bool) → b ≡ true → b ≡ false → C
clash b y z = absurd (true≢false (sym y ∙ z))

pub T_of : (b : Bool) → b ≡ true → T b
T_of b e = rw e tt

pub of_T : (b : Bool) → T b → b ≡ true
of_T true t = refl
of_T false t = absurd t

pub eqb_true : (m n : ℕ) → eqb m n ≡ true → m ≡ n
eqb_true m n e = eqb→eq m n (T_of (eqb m n) e)

pub eqb_self : (n : ℕ) → eqb n n ≡ true
eqb_self n = of_T (eqb n n) (eqb_refl n)

pub eqb_false : (m n : ℕ) → eqb m n ≡ false → m ≡ n → ⊥
eqb_false m n e y = clash (eqb m n) (rw y (eqb_self n)) e

pub and_true : (a b : Bool) → (a && b) ≡ true → (a ≡ true) × (b ≡ true)
and_true true b y = (refl, y)
and_true false b y = absurd (true≢false (sym y))

pub or_false : (a b : Bool) → (a || b) ≡ false → (a ≡ false) × (b ≡ false)
or_false true b y = absurd (true≢false y)
or_false false b y = (refl, y)

pub not_false : (a : Bool) → not a ≡ false → a ≡ true
not_false true e = refl
not_false false e = absurd (true≢false e)

-- two numbers that are alike are there, and one
pub alike_true : (a b : Option ℕ) → alike a b ≡ true → (l : ℕ) × (a ≡ Some l) × (b ≡ Some l)
alike_true None b e = absurd (true≢false (sym e))
alike_true (Some k) None e = absurd (true≢false (sym e))
alike_true (Some k) (Some l) e = (l, ap Some (eqb_true k l e), refl)

pub alike_self : (l : ℕ) → alike (Some l) (Some l) ≡ true
alike_self l = eqb_self l

pub alike-none : (a : Option ℕ) → alike a None ≡ false
alike-none None = refl
alike-none (Some l) = refl

pub alike_eq : (a b : Option ℕ) → alike a b ≡ true → a ≡ b
alike_eq a b e = let (l, u, v) = alike_true a b e in u ∙ sym v

-- the instruction whose label is l
pub label_is : (i : Ins) (l : ℕ) → label_of i ≡ Some l → i ≡ label l
label_is (load d v) l e = cc
label_is (comp c o d a b) l e = cc
label_is (label k) l e = cc
label_is (jmp k) l e = cc
label_is (jmp_if c k) l e = cc
label_is (ret s) l e = cc
label_is (act c d b) l e = cc
