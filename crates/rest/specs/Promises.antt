-- Promise: what the rewrite until it rests promises, by a rule set k: s is the image, `before` and `after` are what the lent output holds at entry and at
-- exit, and r is the answer. `answer` and `bytes` say everything outright; the other fields say what follows.
use Rattle.std.specs.Prelude.{ℕ, suc, ◌≤◌, ◌<◌, ◌≡◌, ◌↔◌, List, true, length, take, Ok, Err}
use Rattle.cells.specs.Cells.{cells, over}
use Rattle.cells.specs.Functions.{Function, functions}
use Rattle.cells.specs.Lists.{All}
use Rattle.cells.specs.declared.refusal.Refusal.{Refusal}
use Rattle.machine.specs.Records.{SameRecords}
use Rattle.cleanup.specs.Premise.{OnePlace}
use Rattle.crystalfold.specs.Rules.{Rules, rules_of}
use Rattle.crystalfold.specs.declared.rules.RuleSet.{RuleSet}
use Rattle.rewrite.specs.Claim.{program}
use Rattle.rewrite.specs.Preserved.{Preserved}
use Rattle.rewrite.specs.Rewrite.{rewrite_function}
use Rattle.image.specs.SiteCheck.{SitesPass}
use Rattle.passes.specs.Promises.{reply_of, is_written, length_written, Each}
use Rattle.passes.specs.Passes.{pass_answer, pass_output, report}
use Rattle.passes.specs.declared.Pass.TheVariants.{Both}
use Rattle.rest.specs.Rounds.{image_after, reported, rounds_to_rest, rest_answer, rest_output}
use Rattle.passes.specs.Rewrite.{Rewrite}

-- a round is the rewrite itself: of what n rounds handed back, lent an output as long as that or longer, it is accepted, reports this and writes this
pub record RoundDone (k : RuleSet) (s : List ℕ) (n : ℕ) (lent : List ℕ) : Type 0 where
  pub answer : pass_answer (Both k) (image_after k n s) (length lent) ≡ Ok (record { length = (length (image_after k (suc n) s)); report = (report (reported k n s)) })
  pub bytes : pass_output (Both k) (image_after k n s) lent ≡ over (image_after k (suc n) s) lent

-- n rounds are those "until one reports 0": the last reports 0, and none before it does
pub record UntilZero (k : RuleSet) (s : List ℕ) (n : ℕ) : Type 0 where
  pub last : (m : ℕ) × (n ≡ suc m) × (reported k m s ≡ 0)
  pub earlier : (m : ℕ) → suc m < n → 0 < reported k m s

-- "it ends within three rounds", the one that reports 0 counted; and no other number of rounds is the one
pub record WithinThree (k : RuleSet) (s : List ℕ) (n : ℕ) : Type 0 where
  pub until_zero : UntilZero k s n
  pub three : n ≤ 3
  pub only : (m : ℕ) → UntilZero k s m → m ≡ n

-- "a further rewrite changes no byte": lent an output as long as the image y, or longer, it is accepted, reports 0, and writes y
pub record AtRest (k : RuleSet) (y lent : List ℕ) : Type 0 where
  pub answer : pass_answer (Both k) y (length lent) ≡ Ok (record { length = (length y); report = (report 0) })
  pub bytes : pass_output (Both k) y lent ≡ over y lent

-- a function as sent and as handed back, by the rules f
pub record Rested (f : Rules) (sent back : Function) : Type 0 where
  -- it is what two rewrites make of the one sent, however many rounds there were
  pub returned : back ≡ rewrite_function f (rewrite_function f sent)
  -- "a function with single-place labels still records what it did as first sent, in no more steps": all three claims of demand 3
  pub records : OnePlace (program sent) → SameRecords (program sent) (program back)

pub record RestDone (k : RuleSet) (s before after : List ℕ) (r : Rewrite) : Type 0 where
  -- the answer, and the same by the document's numbers
  pub answer : r ≡ rest_answer k s (length before)
  pub reply : reply_of r ≡ reply_of (rest_answer k s (length before))
  -- every byte of the output
  pub bytes : after ≡ rest_output k s before
  -- success exactly if the image passes the image check and the site check and the output is as long as the image
  pub accepted : (is_written r ≡ true) ↔ (SitesPass s × (length s ≤ length before))
  -- a refusal is the rewrite's, and the rewrite's refusal is one
  pub refused : (x : Refusal) → (r ≡ Err x) ↔ (pass_answer (Both k) s (length before) ≡ Err x)
  -- the rounds that the answer and the bytes are defined by, each of them and how many there are
  pub each_round : is_written r ≡ true → (n : ℕ) (lent : List ℕ) → length (image_after k n s) ≤ length lent → RoundDone k s n lent
  pub rounds : is_written r ≡ true → WithinThree k s (rounds_to_rest k s)
  -- what was written is what two rounds hand back, however many there were; it is no longer than the image, and passes both checks again
  pub twice : is_written r ≡ true → take (length_written r) after ≡ image_after k 2 s
  pub shorter : length_written r ≤ length s
  pub again : is_written r ≡ true → SitesPass (take (length_written r) after)
  -- and rests, whatever is lent as the output of a further rewrite
  pub rests : is_written r ≡ true → (lent : List ℕ) → length_written r ≤ length lent → AtRest k (take (length_written r) after) lent
  -- in no round do the Rust's other errors occur: of every function that the round is sent
  pub preserved : is_written r ≡ true → (n : ℕ) → All (Preserved (rules_of k)) (functions (cells (image_after k n s)))
  -- each function handed back records what the one first sent at its position does
  pub records : is_written r ≡ true → Each (Rested (rules_of k)) (functions (cells s)) (functions (cells (take (length_written r) after)))

-- the theorem `either_rests` of proofs/Done: what is defined promises this by either rule set; the operation is the default one's
abbrev pub EitherRests : Type 0
EitherRests = (k : RuleSet) (s before : List ℕ) → RestDone k s before (rest_output k s before) (rest_answer k s (length before))

-- the theorem `zero_at_rest` of proofs/AsSent: an image of which the rewrite reports 0 rests as it was sent, byte for byte. The definitions read any
-- numbers, an image has bytes
abbrev pub ZeroAtRest : Type 0
ZeroAtRest = (k : RuleSet) (s lent : List ℕ) → All (λ (b : ℕ). b < 256) s → SitesPass s → reported k 0 s ≡ 0 → length s ≤ length lent → AtRest k s lent
