-- Inner: the text of a system's error ends before its number, as `Is a directory (os error 21)`, or before a 0, that a buffer holds behind it.
use Rattle.std.specs.Prelude.{ℕ, suc, List, [], ◌∷◌, cond, ◌==◌, ◌||◌}
use Rattle.std.specs.List.{starts_with}

-- ` (os error `
abbrev pub number_mark : List ℕ
number_mark = 32 ∷ 40 ∷ 111 ∷ 115 ∷ 32 ∷ 101 ∷ 114 ∷ 114 ∷ 111 ∷ 114 ∷ 32 ∷ []

-- how many bytes the text has
abbrev pub reason_len : List ℕ → ℕ
reason_len [] = 0
reason_len (c ∷ s) = cond (c == 0 || starts_with (λ x y. x == y) (c ∷ s) number_mark) 0 (suc (reason_len s))
