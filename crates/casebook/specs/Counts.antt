-- Inner: a count of what a program has run.
use Rattle.std.specs.Prelude.{ℕ, ◌+◌, Bool, cond, ◌&&◌, ltb}

-- n, and one more if so; the largest count stays
abbrev pub counted : ℕ → Bool → ℕ
counted n more = cond (more && ltb n 18446744073709551615) (n + 1) n
