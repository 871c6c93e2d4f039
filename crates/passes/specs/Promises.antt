-- Promise: what the rewriting operations promise: s is the image, `before` and `after` are what the lent output holds at entry and at exit, and r is
-- the answer. `answer` and `bytes` say everything outright; the other fields say what follows.
use Rattle.std.specs.Prelude.{ℕ, ◌≤◌, ◌≡◌, ◌↔◌, List, [], ◌∷◌, Bool, true, false, length, take, Ok, Err}
use Rattle.cells.specs.Cells.{cells}
use Rattle.cells.specs.Functions.{Function, functions}
use Rattle.cells.specs.Lists.{All}
use Rattle.cells.specs.Refusals.{numbers_of}
use Rattle.cells.specs.declared.refusal.Numbers.{Numbers}
use Rattle.crystalfold.specs.Rules.{rules_of}
use Rattle.crystalfold.specs.declared.rules.RuleSet.{RuleSet}
use Rattle.rewrite.specs.Claim.{Rewritten}
use Rattle.rewrite.specs.Preserved.{Preserved}
use Rattle.image.specs.SiteCheck.{SitesPass}
use Rattle.passes.specs.Passes.{pass_all, pass_answer, pass_output}
use Rattle.passes.specs.declared.Pass.{Pass}
use Rattle.passes.specs.declared.Pass.TheVariants.{Both}
use Rattle.passes.specs.Rewrite.{Rewrite}

-- an answer as document 01 sets it out: the length written, the count of rewrites and `changed`; or number, position and detail
pub data Reply : Type 0 where
  success : ℕ → ℕ → Bool → Reply
  refusal : Numbers → Reply

abbrev pub reply_of : Rewrite → Reply
reply_of (Ok written) = success written.length written.report.num_rewrites written.report.changed
reply_of (Err x) = refusal (numbers_of x)

abbrev pub is_written : Rewrite → Bool
is_written (Ok written) = true
is_written (Err x) = false

abbrev pub length_written : Rewrite → ℕ
length_written (Ok written) = written.length
length_written (Err x) = 0

-- the functions of two images, position by position
abbrev pub Each : (Function → Function → Type 0) → List Function → List Function → Type 0
Each R [] [] = Unit {0}
Each R [] (g ∷ gs) = ⊥
Each R (f ∷ fs) [] = ⊥
Each R (f ∷ fs) (g ∷ gs) = R f g × Each R fs gs

pub record PassDone (p : Pass) (s before after : List ℕ) (r : Rewrite) : Type 0 where
  -- the answer, and the same by the document's numbers
  pub answer : r ≡ pass_answer p s (length before)
  pub reply : reply_of r ≡ reply_of (pass_answer p s (length before))
  -- every byte of the output
  pub bytes : after ≡ pass_output p s before
  -- success exactly if the image passes the image check and the site check and the output is as long as the image
  pub accepted : (is_written r ≡ true) ↔ (SitesPass s × (length s ≤ length before))
  -- what was written is no longer than the image, and passes both checks again
  pub shorter : length_written r ≤ length s
  pub again : is_written r ≡ true → SitesPass (take (length_written r) after)
  -- the functions read back are what the pass makes of those sent
  pub functions_back : is_written r ≡ true → functions (cells (take (length_written r) after)) ≡ pass_all p (functions (cells s))

-- the whole rewrite, by the rule set k
pub record RewriteDone (k : RuleSet) (s before after : List ℕ) (r : Rewrite) : Type 0 where
  pub done : PassDone (Both k) s before after r
  -- "The Rust's other errors (missing paired events, changed fingerprints) are proved never to occur": of every function sent
  pub preserved : is_written r ≡ true → All (Preserved (rules_of k)) (functions (cells s))
  -- each function handed back records what the one sent at its position does
  pub records : is_written r ≡ true → Each (Rewritten (rules_of k)) (functions (cells s)) (functions (cells (take (length_written r) after)))
