-- Promise: the rewriting operations on an image s and a lent output (document 01, module 6 and 'Answers of the operations'; document 02, W2): what each
-- answers and what the output then holds, by the image's bytes and by what the output held before.
use Rattle.std.specs.Prelude.{ℕ, List, cond, leb, ltb, length, Ok, Err}
use Rattle.cells.specs.Answers.{or_else, unless}
use Rattle.cells.specs.Cells.{cells, flat, over}
use Rattle.cells.specs.Functions.{Function, functions, cells_of_all}
use Rattle.cells.specs.declared.refusal.Refusal.TheVariants.{Length, OutputTooShort}
use Rattle.crystalfold.specs.Rules.{rules_of}
use Rattle.rewrite.specs.AllFunctions.{clean_all, fold_all, rewrite_all, clean_count_all, folds_of_all, rewrite_count_all}
use Rattle.image.specs.Image.{good_length}
use Rattle.image.specs.SiteCheck.{site_answer}
use Rattle.passes.specs.declared.Pass.{Pass}
use Rattle.passes.specs.declared.Pass.TheVariants.{Cleanup, CrystalFold, Both}
use Rattle.passes.specs.declared.OptReport.{OptReport}
use Rattle.cells.specs.Checked.{Checked}
use Rattle.passes.specs.Rewrite.{Rewrite}

-- ---- what the passes make of all functions

-- as the Rust's `run_default_opt_passes`: cleanup over every function, then CrystalFold over every function, by the rules of a rule set
abbrev pub pass_all : Pass → List Function → List Function
pass_all Cleanup fs = clean_all fs
pass_all (CrystalFold k) fs = fold_all (rules_of k) fs
pass_all (Both k) fs = rewrite_all (rules_of k) fs

-- the rewrites counted; "the report is the sum of both counts"
abbrev pub count_all : Pass → List Function → ℕ
count_all Cleanup fs = clean_count_all fs
count_all (CrystalFold k) fs = folds_of_all (rules_of k) fs
count_all (Both k) fs = rewrite_count_all (rules_of k) fs

-- ---- on bytes

-- the image that a pass makes of s
unfoldable pub pass_bytes : Pass → List ℕ → List ℕ
pass_bytes p s = flat (cells_of_all (pass_all p (functions (cells s))))

unfoldable pub pass_count : Pass → List ℕ → ℕ
pass_count p s = count_all p (functions (cells s))

-- refused, whatever the pass: 1; "then 5, a lent output shorter than the image; then as the site check". The output has n bytes
unfoldable pub pass_check : List ℕ → ℕ → Checked
pass_check s n = cond (good_length s) (or_else (unless (leb (length s) n) OutputTooShort) (site_answer s)) (Err Length)

-- the report: how many rewrites, "`changed` true when it is above 0"
abbrev pub report : ℕ → OptReport
report n = record { changed = ltb 0 n; num_rewrites = n }

-- "success gives the length written and the report"
abbrev pub answer_as : Checked → ℕ → ℕ → Rewrite
answer_as (Ok tt) n count = Ok (record { length = n; report = (report count) })
answer_as (Err x) n count = Err x

unfoldable pub pass_answer : Pass → List ℕ → ℕ → Rewrite
pass_answer p s n = answer_as (pass_check s n) (length (pass_bytes p s)) (pass_count p s)

-- on success the bytes stand over the start of the output, "bytes past that length keep their values"; a refusal changes none
abbrev pub output_as : Checked → List ℕ → List ℕ → List ℕ
output_as (Ok tt) new before = over new before
output_as (Err x) new before = before

unfoldable pub pass_output : Pass → List ℕ → List ℕ → List ℕ
pass_output p s before = output_as (pass_check s (length before)) (pass_bytes p s) before
