-- The rewriting operations with the limit of registers as a parameter. At today's limit they are today's; below a lower one, as document 01's 256,
-- they answer and write as today, or refused 4: so what an operation answered before document 02's W7 it answers now, unless that was a 4. The
-- passes themselves name no limit.
use mathlib.Core.Path.{◌≡◌, refl, ap}
use mathlib.Core.Logic.{◌⊎◌, inl, inr}
use mathlib.Core.Bool.{cond}
use mathlib.Core.List.{List}
use Prim.Native.Nat.{ℕ, ◌≤◌}
use native.Mathlib.Omega.{arith}
use lib.Dec.{leb}
use lib.ListN.{length}
use Rattle.cells.specs.Answers.{or_else, unless}
use Rattle.cells.specs.Check.{registers}
use Rattle.cells.specs.declared.refusal.Refusal.TheVariants.{Length, Operand, OutputTooShort}
use Rattle.cells.proofs.WiderRegisters.{AsBefore, or_as_before, test_as_before}
use Rattle.image.specs.Image.{good_length}
use Rattle.image.proofs.WiderRegisters.{sites_below, sites_today, sites_as_before}
use Rattle.passes.specs.Passes.{pass_bytes, pass_count, pass_check, answer_as, output_as, pass_answer, pass_output}
use Rattle.passes.specs.declared.Pass.{Pass}
use Rattle.std.specs.Prelude.{Err}
use Rattle.cells.specs.Checked.{Checked}
use Rattle.passes.specs.Rewrite.{Rewrite}

-- ---- with a limit

abbrev pub check_below : ℕ → List ℕ → ℕ → Checked
check_below limit s n = cond (good_length s) (or_else (unless (leb (length s) n) OutputTooShort) (sites_below limit s)) (Err Length)

abbrev pub answer_below : ℕ → Pass → List ℕ → ℕ → Rewrite
answer_below limit p s n = answer_as (check_below limit s n) (length (pass_bytes p s)) (pass_count p s)

abbrev pub output_below : ℕ → Pass → List ℕ → List ℕ → List ℕ
output_below limit p s before = output_as (check_below limit s (length before)) (pass_bytes p s) before

-- ---- at today's

check_today : (s : List ℕ) (n : ℕ) → check_below registers s n ≡ pass_check s n
unfolding pass_check
check_today s n = ap (λ (r : Checked). cond (good_length s) (or_else (unless (leb (length s) n) OutputTooShort) r) (Err Length)) (sites_today s)

pub answer_today : (p : Pass) (s : List ℕ) (n : ℕ) → answer_below registers p s n ≡ pass_answer p s n
unfolding pass_answer
answer_today p s n = ap (λ (r : Checked). answer_as r (length (pass_bytes p s)) (pass_count p s)) (check_today s n)

pub output_today : (p : Pass) (s before : List ℕ) → output_below registers p s before ≡ pass_output p s before
unfolding pass_output
output_today p s before = ap (λ (r : Checked). output_as r (pass_bytes p s) before) (check_today s (length before))

-- ---- below a lower one

check_as_before : (limit : ℕ) → limit ≤ registers → (s : List ℕ) (n : ℕ) → AsBefore (check_below limit s n) (pass_check s n)
unfolding pass_check
check_as_before limit lower s n =
    let room = unless (leb (length s) n) OutputTooShort in
    test_as_before (good_length s) _ _ Length (or_as_before room room _ _ (inl refl) (sites_as_before limit lower s))

-- the same answer and the same bytes, or a refusal 4 before
abbrev pub SameOperation : ℕ → Pass → List ℕ → List ℕ → Type 0
SameOperation limit p s before =
    ((answer_below limit p s (length before) ≡ pass_answer p s (length before)) × (output_below limit p s before ≡ pass_output p s before))
    ⊎ ((position : ℕ) × (d : ℕ) × (answer_below limit p s (length before) ≡ Err (Operand position d)))

same_operation : (limit : ℕ) (p : Pass) (s before : List ℕ) → AsBefore (check_below limit s (length before)) (pass_check s (length before)) → SameOperation limit p s before
unfolding pass_answer pass_output
same_operation limit p s before (inl e) =
    inl (ap (λ (r : Checked). answer_as r (length (pass_bytes p s)) (pass_count p s)) e, ap (λ (r : Checked). output_as r (pass_bytes p s) before) e)
same_operation limit p s before (inr (position, d, e)) =
    inr (position, d, ap (λ (r : Checked). answer_as r (length (pass_bytes p s)) (pass_count p s)) e)

pub operation_as_before : (p : Pass) (s before : List ℕ) → SameOperation 256 p s before
operation_as_before p s before = same_operation 256 p s before (check_as_before 256 (omega arith) s (length before))
