-- A number, a digit a turn.
use Rattle.std.proofs.Common.{◌≡◌, ℕ, suc, ◌+◌, List, get_or, Option, Some, None, add-one}
use Rattle.cases_leaves.specs.Rows.{digit_of, more, number_in}

module _ (line : List ℕ) (i k n : ℕ) (r : Option ℕ) (f : number_in line i (suc k) n ≡ r) where
  pub digit_turn : (d : ℕ) → digit_of (get_or line i 0) ≡ Some d → number_in line (i + 1) k (more n d) ≡ r
  unfolding number_in
  digit_turn d e = rw add-one (simp e at f)

  pub no_digit : digit_of (get_or line i 0) ≡ None → None ≡ r
  unfolding number_in
  no_digit e = simp e at f

pub number_end : (line : List ℕ) (i n : ℕ) (r : Option ℕ) → number_in line i 0 n ≡ r → Some n ≡ r
unfolding number_in
number_end line i n r f = f
