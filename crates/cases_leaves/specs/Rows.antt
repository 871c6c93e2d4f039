-- Inner: a row of vectors by its bytes (tests/vectors/README.md), and when it holds.
use Rattle.std.specs.Prelude.{ℕ, zero, suc, ◌+◌, ◌-◌, ◌*◌, ◌%◌, ◌≡◌, ◌==◌, Bool, cond, ◌&&◌, List, [], ◌∷◌, leb, get_or, drop, Option, Some, None, option_map, option_and_then, Ok, Err}
use Rattle.std.specs.List.{starts_with}
use Rattle.cases_leaves.specs.Leaves.{Answer, answer_of}
use Rattle.cases_leaves.specs.declared.leaf.NoValue.TheVariants.{Absent, DivisorZero, OutOfRange}
use Rattle.cases_leaves.specs.declared.row.Vector.{Vector}

-- what a character counts as a hexadecimal digit, `0` to `9` and `A` to `F`
abbrev pub digit_of : ℕ → Option ℕ
digit_of c = cond (leb 48 c && leb c 57) (Some (c - 48)) (cond (leb 65 c && leb c 70) (Some (c - 65 + 10)) None)

-- n with a digit more behind, of which 16 are kept
abbrev pub more : ℕ → ℕ → ℕ
more n d = n % 1152921504606846976 * 16 + d

-- the number n and so many digits behind it, from a position on
unfoldable pub number_in : List ℕ → ℕ → ℕ → ℕ → Option ℕ
number_in line at zero n = Some n
number_in line at (suc k) n = option_and_then (λ (d : ℕ). number_in line (suc at) k (more n d)) (digit_of (get_or line at 0))

-- a text stands in the line from a position on
abbrev pub is_text : List ℕ → ℕ → List ℕ → Bool
is_text line at text = starts_with (λ x y. x == y) (drop at line) text

-- blanks between the fields, and a line feed
unfoldable pub is_separated : List ℕ → Bool
is_separated line = is_text line 16 (32 ∷ []) && (is_text line 33 (32 ∷ []) && is_text line 50 (10 ∷ []))

-- what may stand in the result's place, with blanks up to 16 characters: `none`, `divisor zero`, `out of range`
abbrev pub none_text : List ℕ
none_text = 110 ∷ 111 ∷ 110 ∷ 101 ∷ 32 ∷ 32 ∷ 32 ∷ 32 ∷ 32 ∷ 32 ∷ 32 ∷ 32 ∷ 32 ∷ 32 ∷ 32 ∷ 32 ∷ []

abbrev pub zero_text : List ℕ
zero_text = 100 ∷ 105 ∷ 118 ∷ 105 ∷ 115 ∷ 111 ∷ 114 ∷ 32 ∷ 122 ∷ 101 ∷ 114 ∷ 111 ∷ 32 ∷ 32 ∷ 32 ∷ 32 ∷ []

abbrev pub range_text : List ℕ
range_text = 111 ∷ 117 ∷ 116 ∷ 32 ∷ 111 ∷ 102 ∷ 32 ∷ 114 ∷ 97 ∷ 110 ∷ 103 ∷ 101 ∷ 32 ∷ 32 ∷ 32 ∷ 32 ∷ []

unfoldable pub result_in : List ℕ → Option Answer
result_in line =
    cond (is_text line 34 none_text) (Some (Err Absent))
    (cond (is_text line 34 zero_text) (Some (Err DivisorZero))
    (cond (is_text line 34 range_text) (Some (Err OutOfRange))
    (option_map (λ (x : ℕ). Ok x) (number_in line 34 16 0))))

abbrev pub vector : ℕ → ℕ → Answer → Vector
vector a b expected = record { a = a; b = b; expected = expected }

unfoldable pub row_in : List ℕ → Option Vector
row_in line =
    option_and_then (λ (a : ℕ). option_and_then (λ (b : ℕ). cond (is_separated line) (option_map (λ (r : Answer). vector a b r) (result_in line)) None) (number_in line 17 16 0)) (number_in line 0 16 0)

-- the leaf answers what the row says
abbrev pub HoldsAs : ℕ → Option Vector → Type 0
HoldsAs leaf (Some v) = answer_of leaf v.a v.b ≡ v.expected
HoldsAs leaf None = ⊥

unfoldable pub Holds : ℕ → List ℕ → Type 0
Holds leaf line = HoldsAs leaf (row_in line)

-- of a group's line, which has the leaf's number
abbrev pub HoldsFor : Option ℕ → List ℕ → Type 0
HoldsFor (Some leaf) line = Holds leaf line
HoldsFor None line = ⊥

unfoldable pub HoldsUnder : List ℕ → List ℕ → Type 0
HoldsUnder group line = HoldsFor (number_in group 2 2 0) line
