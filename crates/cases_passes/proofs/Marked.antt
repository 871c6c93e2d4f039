-- The loops over a marked output: each mark, and each byte compared.
use Prim.Native.Nat.{ℕ, zero, suc, ◌+◌, ◌%◌, ◌≤◌, ◌<◌}
use mathlib.Core.Path.{◌≡◌, refl, sym, ◌∙◌, ap}
use mathlib.Core.List.{List, [], ◌∷◌, ◌++◌}
use native.Mathlib.Omega.{arith}
use native.Mathlib.Numerals.{add-one}
use lib.ListN.{length, take, get_or, set, length-take, length-append}
use lib.Seq.{take-suc, take-suc-set, take_all}
use Rattle.cases_passes.specs.Rows.{marks}

pub mark_turn : (out : List ℕ) (i : ℕ) → i < length out → take i out ≡ marks i → take (i + 1) (set out i (i % 251)) ≡ marks (i + 1)
mark_turn out i h e = rw (add-one, take-suc-set) (ap (λ (l : List ℕ). l ++ (i % 251 ∷ [])) e)

pub marked : (out : List ℕ) (n i : ℕ) → length out ≤ i → i ≤ length out → length out ≡ n → take i out ≡ marks i → out ≡ marks n
marked out n i a b l e =
    let f : i ≡ n = omega arith in
    sym (take_all i out a) ∙ e ∙ ap marks f

length-marks : (n : ℕ) → length (marks n) ≡ n
length-marks zero = refl
length-marks (suc n) = simp (length-append, length-marks n) (omega arith)

pub marked-length : (out : List ℕ) (n : ℕ) → out ≡ marks n → length out ≡ n
marked-length out n e = ap length e ∙ length-marks n

module _ (a b : List ℕ) (l : length a ≡ length b) where
  pub same_turn : (i : ℕ) → i < length a → take i a ≡ take i b → get_or a i 0 ≡ get_or b i 0 → take (i + 1) a ≡ take (i + 1) b
  same_turn i h e f =
      let k : i < length b = omega arith in
      rw (add-one, take-suc a i 0, take-suc b i 0) (cc)

  pub same_end : (i : ℕ) → length a ≤ i → take i a ≡ take i b → a ≡ b
  same_end i h e =
      let k : length b ≤ i = omega arith in
      sym (take_all i a h) ∙ e ∙ take_all i b k

pub differ : (a b : List ℕ) (i : ℕ) → (get_or a i 0 ≡ get_or b i 0 → ⊥) → a ≡ b → ⊥
differ a b i f e = f (ap (λ (l : List ℕ). get_or l i 0) e)

-- a part from the start is as long as asked
pub part : (n : ℕ) (l : List ℕ) → n ≤ length l → n ≡ length (take n l)
part n l h = simp length-take (omega arith)
