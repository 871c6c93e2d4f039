-- An input past the longest image: what the program keeps of it decides what each job writes.
use mathlib.Core.Path.{◌≡◌, sym, ◌∙◌, ap}
use mathlib.Core.List.{List}
use Prim.Native.Nat.{ℕ, ◌<◌}
use native.Mathlib.Omega.{arith}
use borrow.Author.Tests.{lt-leb}
use lib.ListN.{length, take}
use Rattle.cells.specs.Check.{max_image}
use Rattle.cells.specs.declared.refusal.Refusal.TheVariants.{Length}
use Rattle.crystalfold.specs.declared.rules.RuleSet.TheVariants.{Default}
use Rattle.image.specs.Image.{image_answer}
use Rattle.image.specs.SiteCheck.{site_answer}
use Rattle.packed.specs.Reading.{refused}
use Rattle.packed.specs.Operations.{pack_result, unpack_result}
use Rattle.packed.proofs.FirstBytes.{first-bytes_decide}
use Rattle.passes.specs.Passes.{pass_answer}
use Rattle.passes.specs.declared.Pass.{Pass}
use Rattle.passes.specs.declared.Pass.TheVariants.{Both}
use Rattle.passes.proofs.Checked.{check_long}
use Rattle.rest.specs.Rounds.{rest_answer}
use Rattle.sealing.specs.Sealing.{sealing_answer}
use Rattle.sealing.proofs.Outcomes.{site-refuses}
use Rattle.matchdesk.specs.Program.{result_texts, program_texts, LongInputs}
use Rattle.matchdesk.specs.declared.Job.{Job}
use Rattle.matchdesk.specs.declared.Job.TheVariants.{Rewrite as RewriteJob, Rest, Bytes, Check, Pages, Pack, Unpack, Seal}
use Rattle.std.specs.Prelude.{Err}
use Rattle.sealing.specs.declared.SealingError.TheVariants.{Refused as RefusedSealing}

answer-long : (p : Pass) (image : List ℕ) → max_image < length image → pass_answer p image max_image ≡ Err Length
unfolding pass_answer
answer-long p image h = rw (← check_long image max_image h)

rest-long : (image : List ℕ) → max_image < length image → rest_answer Default image max_image ≡ Err Length
unfolding rest_answer
rest-long image h = rw (← check_long image max_image h)

site-long : (image : List ℕ) → max_image < length image → site_answer image ≡ Err Length
unfolding site_answer image_answer
site-long image h = simp (lt-leb _ _ h)

sealing_long : (image : List ℕ) → max_image < length image → sealing_answer image ≡ Err (RefusedSealing Length)
sealing_long image h = site-refuses image Length (site-long image h)

pack_long : (image : List ℕ) → max_image < length image → pack_result image ≡ refused Length
unfolding pack_result image_answer
pack_long image h = simp (lt-leb _ _ h)

unpack_long : (s t : List ℕ) → take max_image s ≡ take max_image t → unpack_result s ≡ unpack_result t
unpack_long s t e = sym (first-bytes_decide s max_image (omega arith)) ∙ ap unpack_result e ∙ first-bytes_decide t max_image (omega arith)

-- an image so long is refused, whatever its bytes are
abbrev pub ReadsImage : Job → Type 0
ReadsImage (RewriteJob rules) = Unit {0}
ReadsImage Rest = Unit {0}
ReadsImage Bytes = Unit {0}
ReadsImage Check = Unit {0}
ReadsImage Pages = Unit {0}
ReadsImage Pack = Unit {0}
ReadsImage Unpack = ⊥
ReadsImage Seal = Unit {0}

pub images_long : (job : Job) (s t : List ℕ) → ReadsImage job → max_image < length s → max_image < length t → program_texts job s ≡ program_texts job t
unfolding program_texts
images_long (RewriteJob rules) s t r h k = rw (answer-long (Both rules) s h, answer-long (Both rules) t k)
images_long Rest s t r h k = rw (rest-long s h, rest-long t k)
images_long Bytes s t r h k = rw (answer-long (Both Default) s h, answer-long (Both Default) t k)
images_long Check s t r h k = rw (site-long s h, site-long t k)
images_long Pages s t r h k = rw (site-long s h, site-long t k)
images_long Pack s t r h k = rw (pack_long s h, pack_long t k)
images_long Unpack s t r h k = absurd r
images_long Seal s t r h k = rw (sealing_long s h, sealing_long t k)

pub long_inputs : LongInputs
unfolding program_texts
long_inputs (RewriteJob rules) s t h k e = images_long (RewriteJob rules) t s tt k h
long_inputs Rest s t h k e = images_long Rest t s tt k h
long_inputs Bytes s t h k e = images_long Bytes t s tt k h
long_inputs Check s t h k e = images_long Check t s tt k h
long_inputs Pages s t h k e = images_long Pages t s tt k h
long_inputs Pack s t h k e = images_long Pack t s tt k h
long_inputs Unpack s t h k e = ap result_texts (unpack_long t s e)
long_inputs Seal s t h k e = images_long Seal t s tt k h
