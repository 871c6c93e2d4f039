-- Inner: the operations of documents 01 and 02 by their bytes in a file of cases (tests/images/README.md), what each answers by their
-- numbers, and what it leaves in a lent output.
use Rattle.std.specs.Prelude.{ℕ, ◌+◌, ◌*◌, ◌-◌, List, ◌++◌, Bool, false, cond, eqb, length, take, drop, Option, Some, None, Ok, Err}
use Rattle.cells.specs.Lists.{one}
use Rattle.cells.specs.Refusals.{numbered, numbers_of}
use Rattle.cells.specs.declared.refusal.Numbers.{Numbers}
use Rattle.crystalfold.specs.declared.rules.RuleSet.TheVariants.{Default as DefaultRules, Fuller as FullerRules}
use Rattle.image.specs.Image.{image_answer}
use Rattle.image.specs.SiteCheck.{site_answer}
use Rattle.packed.specs.Operations.{pack_result, unpack_result, answer_of, output_of}
use Rattle.pages.specs.Promises.{pages_answer, pages_output}
use Rattle.passes.specs.Passes.{pass_answer, pass_output}
use Rattle.passes.specs.declared.Pass.TheVariants.{Cleanup as CleanupPass, CrystalFold as CrystalFoldPass, Both}
use Rattle.release.specs.Frames.{Image, images_of}
use Rattle.release.specs.Release.{release_answer, release_output, release_answers}
use Rattle.rest.specs.Rounds.{rest_answer, rest_output}
use Rattle.sealing.specs.Promises.{repeat_number}
use Rattle.sealing.specs.Sealing.{sealing_answer}
use Rattle.cases_passes.specs.declared.operation.Operation.{Operation}
use Rattle.cases_passes.specs.declared.operation.Operation.TheVariants.{ImageCheck, SiteCheck, Cleanup, CrystalFold, Default, Fuller, Pages, Pack, Unpack, Rest, Seal, Release}
use Rattle.cases_passes.specs.declared.operation.Reply.{Reply}
use Rattle.cells.specs.Checked.{Checked}
use Rattle.packed.specs.Answer.{Packing}
use Rattle.packed.specs.declared.PackingError.TheVariants.{Refused as RefusedPacking, Ends}
use Rattle.pages.specs.Answer.{Paged}
use Rattle.pages.specs.declared.PagesError.TheVariants.{Refused as RefusedPages, TooShort}
use Rattle.passes.specs.Rewrite.{Rewrite}
use Rattle.sealing.specs.Answer.{Sealing}
use Rattle.sealing.specs.declared.SealingError.TheVariants.{Refused as RefusedSealing, Repeated}

-- by the byte n; k goes with a release
unfoldable pub asked_by : ℕ → ℕ → Option Operation
asked_by n k =
    cond (eqb n 16) (Some ImageCheck)
    (cond (eqb n 17) (Some SiteCheck)
    (cond (eqb n 18) (Some Cleanup)
    (cond (eqb n 19) (Some CrystalFold)
    (cond (eqb n 20) (Some Default)
    (cond (eqb n 21) (Some Fuller)
    (cond (eqb n 22) (Some Pages)
    (cond (eqb n 23) (Some Pack)
    (cond (eqb n 24) (Some Unpack)
    (cond (eqb n 25) (Some Rest)
    (cond (eqb n 26) (Some Seal)
    (cond (eqb n 27) (Some (Release k)) None)))))))))))

-- "success gives the length written and the report"; "the two checks .. on success answer only that"
abbrev pub good_reply : ℕ → ℕ → Bool → Reply
good_reply n rewrites changed = record { number = 0; position = 0; detail = 0; length = n; rewrites = rewrites; changed = one changed }

abbrev pub refused_reply : Numbers → Reply
refused_reply x = record { number = x.number; position = x.position; detail = x.detail; length = 0; rewrites = 0; changed = 0 }

abbrev pub check_reply : Checked → Reply
check_reply (Ok tt) = good_reply 0 0 false
check_reply (Err x) = refused_reply (numbers_of x)

abbrev pub sealing_reply : Sealing → Reply
sealing_reply (Ok tt) = good_reply 0 0 false
sealing_reply (Err (RefusedSealing x)) = refused_reply (numbers_of x)
sealing_reply (Err (Repeated w position x)) = refused_reply (numbered (repeat_number w) position x)

abbrev pub rewrite_reply : Rewrite → Reply
rewrite_reply (Ok w) = good_reply w.length w.report.num_rewrites w.report.changed
rewrite_reply (Err x) = refused_reply (numbers_of x)

abbrev pub pages_reply : Paged → Reply
pages_reply (Ok n) = good_reply n 0 false
pages_reply (Err (RefusedPages x)) = refused_reply (numbers_of x)
pages_reply (Err TooShort) = refused_reply (numbered 30 0 0)

abbrev pub packing_reply : Packing → Reply
packing_reply (Ok n) = good_reply n 0 false
packing_reply (Err (RefusedPacking x)) = refused_reply (numbers_of x)
packing_reply (Err (Ends position detail)) = refused_reply (numbered 32 position detail)

-- ---- a release s: the lent bytes, of which there are n, are cut at c, and those behind are the answers' buffer

abbrev pub images_in : Option (List Image) → ℕ
images_in None = 0
images_in (Some is) = length is

-- "success answers the length written to the output"; the reply's `length` is where the answers end, 12 bytes an image
abbrev pub release_reply : ℕ → Option (List Image) → Option ℕ → Reply
release_reply c is (Some n) = good_reply (c + 12 * images_in is) n false
release_reply c is None = refused_reply (numbered 33 0 0)

unfoldable pub parts_reply : List ℕ → ℕ → ℕ → Reply
parts_reply s c n = release_reply c (images_of s) (release_answer s c (n - c))

unfoldable pub parts_output : List ℕ → ℕ → List ℕ → List ℕ
parts_output s c before = release_output s (take c before) (length before - c) ++ release_answers s c (drop c before)

-- ---- every operation

-- on s, an image, for `unpack` a packed form, or a release, lent n bytes
abbrev pub answer : Operation → List ℕ → ℕ → Reply
answer ImageCheck s n = check_reply (image_answer s)
answer SiteCheck s n = check_reply (site_answer s)
answer Cleanup s n = rewrite_reply (pass_answer CleanupPass s n)
answer CrystalFold s n = rewrite_reply (pass_answer (CrystalFoldPass DefaultRules) s n)
answer Default s n = rewrite_reply (pass_answer (Both DefaultRules) s n)
answer Fuller s n = rewrite_reply (pass_answer (Both FullerRules) s n)
answer Pages s n = pages_reply (pages_answer s n)
answer Pack s n = packing_reply (answer_of (pack_result s) n)
answer Unpack s n = packing_reply (answer_of (unpack_result s) n)
answer Rest s n = rewrite_reply (rest_answer DefaultRules s n)
answer Seal s n = sealing_reply (sealing_answer s)
answer (Release k) s n = parts_reply s (n - k) n

-- what the lent bytes then are; "the two checks write nothing", nor does the sealing check
abbrev pub output : Operation → List ℕ → List ℕ → List ℕ
output ImageCheck s before = before
output SiteCheck s before = before
output Cleanup s before = pass_output CleanupPass s before
output CrystalFold s before = pass_output (CrystalFoldPass DefaultRules) s before
output Default s before = pass_output (Both DefaultRules) s before
output Fuller s before = pass_output (Both FullerRules) s before
output Pages s before = pages_output s before
output Pack s before = output_of (pack_result s) before
output Unpack s before = output_of (unpack_result s) before
output Rest s before = rest_output DefaultRules s before
output Seal s before = before
output (Release k) s before = parts_output s (length before - k) before
