-- Promise: what the operations promise: s is the image, `before` and `after` are what the lent output holds at entry and at exit, `number` is the
-- value returned, and `first` and `second` are what stands behind the two references at exit.
use Rattle.std.specs.Prelude.{ℕ, ◌≤◌, ◌≡◌, ◌↔◌, List, ℤ, length, Option}
use Rattle.image.specs.Image.{image_answer, GoodImage}
use Rattle.image.specs.SiteCheck.{site_answer, SitesPass}
use Rattle.pages.specs.Pages.{pages_text}
use Rattle.pages.specs.Promises.{pages_answer, PagesDone}
use Rattle.packed.specs.Form.{packed}
use Rattle.packed.specs.Operations.{pack_result, unpack_result, answer_of, PackDone, PackedImage, UnpackDone}
use Rattle.passes.specs.Passes.{pass_answer}
use Rattle.passes.specs.Promises.{PassDone, RewriteDone}
use Rattle.passes.specs.declared.Pass.{Pass}
use Rattle.passes.specs.declared.Pass.TheVariants.{Both}
use Rattle.release.specs.Promises.{Admissible, ReleaseDone}
use Rattle.release.specs.Release.{release_answer}
use Rattle.rest.specs.Promises.{RestDone}
use Rattle.sealing.specs.Promises.{SealingPass, SealingChecked}
use Rattle.sealing.specs.Sealing.{sealing_answer}
use Rattle.rest.specs.Rounds.{rest_answer}
use Rattle.crystalfold.specs.declared.rules.RuleSet.{RuleSet}
use Rattle.factor.specs.Claim.{IsFactor, Nearest}
use Rattle.leaves.specs.declared.constant.ConstVal.{ConstVal}
use Rattle.capi.specs.Replies.{three, check_reply, sealing_reply, rewrite_reply, release_reply, pages_reply, packing_reply, two, factor_reply}
use Rattle.leaves.specs.Verdict.{Verdict}

pub record ImageReplied (s : List ℕ) (number first second : ℕ) : Type 0 where
  pub reply : three number first second ≡ check_reply (image_answer s)
  pub accepted : (number ≡ 0) ↔ GoodImage s

pub record SitesReplied (s : List ℕ) (number first second : ℕ) : Type 0 where
  pub reply : three number first second ≡ check_reply (site_answer s)
  pub accepted : (number ≡ 0) ↔ SitesPass s

pub record SealingReplied (s : List ℕ) (number first second : ℕ) : Type 0 where
  pub reply : three number first second ≡ sealing_reply (sealing_answer s)
  pub accepted : (number ≡ 0) ↔ SealingPass s
  -- all that `sealing_check` promises: when each refusal is given
  pub checked : SealingChecked s (sealing_answer s)

pub record PassReplied (p : Pass) (s before after : List ℕ) (number first second : ℕ) : Type 0 where
  pub reply : three number first second ≡ rewrite_reply (pass_answer p s (length before))
  pub accepted : (number ≡ 0) ↔ (SitesPass s × (length s ≤ length before))
  -- every byte of the output, and all that the pass promises
  pub done : PassDone p s before after (pass_answer p s (length before))

-- the whole rewrite by the rule set k
pub record RewriteReplied (k : RuleSet) (s before after : List ℕ) (number first second : ℕ) : Type 0 where
  pub reply : three number first second ≡ rewrite_reply (pass_answer (Both k) s (length before))
  pub accepted : (number ≡ 0) ↔ (SitesPass s × (length s ≤ length before))
  pub done : RewriteDone k s before after (pass_answer (Both k) s (length before))

-- the rewrite until it rests, by the rule set k
pub record RestReplied (k : RuleSet) (s before after : List ℕ) (number first second : ℕ) : Type 0 where
  pub reply : three number first second ≡ rewrite_reply (rest_answer k s (length before))
  pub accepted : (number ≡ 0) ↔ (SitesPass s × (length s ≤ length before))
  -- every byte of the output, and all that `rewrite_until_rest` promises
  pub done : RestDone k s before after (rest_answer k s (length before))

-- a whole release s: `out` and `out'` are what the lent output holds at entry and at exit, `answers` and `answers'` the same of the answers
pub record ReleaseReplied (s out out' answers answers' : List ℕ) (number first second : ℕ) : Type 0 where
  pub reply : three number first second ≡ release_reply (release_answer s (length out) (length answers))
  pub accepted : (number ≡ 0) ↔ Admissible s (length out) (length answers)
  -- every byte of both buffers, and all that `rewrite_release` promises
  pub done : ReleaseDone s out out' answers answers' (release_answer s (length out) (length answers))

-- the pages
pub record PagesReplied (s before after : List ℕ) (number first second : ℕ) : Type 0 where
  pub reply : three number first second ≡ pages_reply (pages_answer s (length before))
  pub accepted : (number ≡ 0) ↔ (SitesPass s × (length (pages_text s) ≤ length before))
  -- every byte of the buffer, and all that `pages` promises
  pub done : PagesDone s before after (pages_answer s (length before))

-- the packed form of the image s
pub record PackReplied (s before after : List ℕ) (number first second : ℕ) : Type 0 where
  pub reply : three number first second ≡ packing_reply (answer_of (pack_result s) (length before))
  pub accepted : (number ≡ 0) ↔ (GoodImage s × (length (packed s) ≤ length before))
  -- every byte of the output, and all that `pack` promises
  pub done : PackDone s before after (answer_of (pack_result s) (length before))

-- the image of which s is the packed form
pub record UnpackReplied (s before after : List ℕ) (number first second : ℕ) : Type 0 where
  pub reply : three number first second ≡ packing_reply (answer_of (unpack_result s) (length before))
  pub accepted : (number ≡ 0) ↔ PackedImage s (length before)
  -- every byte of the output, and all that `unpack` promises
  pub done : UnpackDone s before after (answer_of (unpack_result s) (length before))

-- the other factor: of a leaf's product, a wanted value as that leaf has it, a factor and the answer r; `other` is what stands behind the reference
-- at exit
pub record FactorReplied (product : ℤ → ℤ → Verdict) (wanted : ConstVal) (factor : ℤ) (r : Option ℤ) (number : ℕ) (other : ℤ) : Type 0 where
  pub reply : two number other ≡ factor_reply r
  -- 0 exactly if some i32 is a factor, and then `other` is the one nearest zero, of two equally near the positive one
  pub accepted : (number ≡ 0) ↔ ((x : ℤ) × IsFactor product wanted factor x)
  pub nearest : number ≡ 0 → Nearest (IsFactor product wanted factor) other
  -- 36 exactly if none is
  pub refused : (number ≡ 36) ↔ ((x : ℤ) → IsFactor product wanted factor x → ⊥)
