-- Promise: the whole rewrite repeated until it rests (document 02, W11), on the bytes of an image s, by a rule set k: rounds, each of what the one before
-- handed back. The operation is by the default rules; what is defined and proved here holds of either rule set.
use Rattle.std.specs.Prelude.{ℕ, zero, suc, ◌+◌, cond, List, eqb, length}
use Rattle.crystalfold.specs.declared.rules.RuleSet.{RuleSet}
use Rattle.passes.specs.Passes.{pass_bytes, pass_count, pass_check, answer_as, output_as}
use Rattle.passes.specs.declared.Pass.TheVariants.{Both}
use Rattle.passes.specs.Rewrite.{Rewrite}

-- the image after n rounds
abbrev pub image_after : RuleSet → ℕ → List ℕ → List ℕ
image_after k zero s = s
image_after k (suc n) s = pass_bytes (Both k) (image_after k n s)

-- what the round behind these n reports
abbrev pub reported : RuleSet → ℕ → List ℕ → ℕ
reported k n s = pass_count (Both k) (image_after k n s)

-- "the sum of the counts", of n rounds
abbrev pub sum_after : RuleSet → ℕ → List ℕ → ℕ
sum_after k zero s = 0
sum_after k (suc n) s = sum_after k n s + reported k n s

-- "repeats the default rewrite until one reports 0": how many rounds these are, the one that reports 0 counted, where n are done and at most m
-- follow
abbrev pub rounds_behind : RuleSet → ℕ → ℕ → List ℕ → ℕ
rounds_behind k n zero s = n
rounds_behind k n (suc m) s = cond (eqb (reported k n s) 0) (suc n) (rounds_behind k (suc n) m s)

-- three are always enough: where no earlier one does, the third reports 0 (`WithinThree`, Promises.antt)
abbrev pub rounds_to_rest : RuleSet → List ℕ → ℕ
rounds_to_rest k s = rounds_behind k 0 3 s

-- what the last round hands back, and the sum of all counts
unfoldable pub rest_bytes : RuleSet → List ℕ → List ℕ
rest_bytes k s = image_after k (rounds_to_rest k s) s

unfoldable pub rest_count : RuleSet → List ℕ → ℕ
rest_count k s = sum_after k (rounds_to_rest k s) s

-- ---- the operation, lent an output of n bytes, or which held `before`

-- "It refuses as the default rewrite"; else the last round's length and the sum of the counts
unfoldable pub rest_answer : RuleSet → List ℕ → ℕ → Rewrite
rest_answer k s n = answer_as (pass_check s n) (length (rest_bytes k s)) (rest_count k s)

-- "bytes past the last round's length keep the values they were lent with", however long an earlier round was; a refusal changes none
unfoldable pub rest_output : RuleSet → List ℕ → List ℕ → List ℕ
rest_output k s before = output_as (pass_check s (length before)) (rest_bytes k s) before
