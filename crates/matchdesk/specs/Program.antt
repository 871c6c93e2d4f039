-- Promise: what the program is asked for, and what it writes to standard output and to standard error for each job. The text of the rewrite's answer is
-- document 01's ('Cells on either edge', the last paragraph); of the fuller rewrite (document 02, W2) and of the rewrite until it rests (W11) it is the
-- same. The pages are document 02's (W1), and so are the packed form (W8), the sealing check (W13) and the other factor (W14), which is found without
-- an image.
use Rattle.std.specs.Prelude.{◌≡◌, List, [], ◌∷◌, ◌++◌, Bool, true, false, cond, ◌&&◌, ℕ, ◌<◌, eqb, ℤ, length, take, Option, Some, None, Ok, Err}
use Prim.Native.String.{String}
use Rattle.cells.specs.Cells.{cells}
use Rattle.cells.specs.Check.{max_image}
use Rattle.crystalfold.specs.declared.rules.RuleSet.TheVariants.{Default, Fuller}
use Rattle.factor.specs.Factor.{factor_fx, factor_i32}
use Rattle.image.specs.SiteCheck.{site_answer}
use Rattle.listing.specs.Places.{ascii}
use Rattle.listing.specs.Text.{line_feed, rewritten_text, refused_text, refusal_text, good_text, checked_text}
use Rattle.packed.specs.Operations.{pack_result, unpack_result}
use Rattle.packed.specs.Reading.{Result, bytes, refused, ends}
use Rattle.pages.specs.Pages.{pages_text}
use Rattle.passes.specs.Promises.{length_written}
use Rattle.passes.specs.Passes.{pass_answer, pass_bytes, pass_output}
use Rattle.passes.specs.declared.Pass.TheVariants.{Both}
use Rattle.rest.specs.Rounds.{rest_bytes, rest_answer, rest_output}
use Rattle.sealing.specs.Promises.{repeat_number}
use Rattle.sealing.specs.Sealing.{sealing_answer}
use Rattle.numbers.specs.Numbers.{number_in, signed}
use Rattle.matchdesk.specs.declared.product.Product.{Product}
use Rattle.matchdesk.specs.declared.product.Product.TheVariants.{Fx, I32}
use Rattle.matchdesk.specs.declared.Job.{Job}
use Rattle.matchdesk.specs.declared.Job.TheVariants.{Rewrite as RewriteJob, Rest, Bytes, Check, Pages, Pack, Unpack, Seal}
use Rattle.cells.specs.Checked.{Checked}
use Rattle.passes.specs.Rewrite.{Rewrite}
use Rattle.sealing.specs.Answer.{Sealing}
use Rattle.sealing.specs.declared.SealingError.TheVariants.{Refused as RefusedSealing, Repeated}

-- ---- the words

abbrev pub same_bytes : List ℕ → List ℕ → Bool
same_bytes [] [] = true
same_bytes [] (y ∷ ys) = false
same_bytes (x ∷ xs) [] = false
same_bytes (x ∷ xs) (y ∷ ys) = eqb x y && same_bytes xs ys

-- `rewrite`, `fuller`, `rest`, `bytes`, `check`, `pages`, `pack`, `unpack` and `seal`
abbrev pub rewrite_word : List ℕ
rewrite_word = 114 ∷ 101 ∷ 119 ∷ 114 ∷ 105 ∷ 116 ∷ 101 ∷ []

abbrev pub fuller_word : List ℕ
fuller_word = 102 ∷ 117 ∷ 108 ∷ 108 ∷ 101 ∷ 114 ∷ []

abbrev pub rest_word : List ℕ
rest_word = 114 ∷ 101 ∷ 115 ∷ 116 ∷ []

abbrev pub bytes_word : List ℕ
bytes_word = 98 ∷ 121 ∷ 116 ∷ 101 ∷ 115 ∷ []

abbrev pub check_word : List ℕ
check_word = 99 ∷ 104 ∷ 101 ∷ 99 ∷ 107 ∷ []

abbrev pub pages_word : List ℕ
pages_word = 112 ∷ 97 ∷ 103 ∷ 101 ∷ 115 ∷ []

abbrev pub pack_word : List ℕ
pack_word = 112 ∷ 97 ∷ 99 ∷ 107 ∷ []

abbrev pub unpack_word : List ℕ
unpack_word = 117 ∷ 110 ∷ 112 ∷ 97 ∷ 99 ∷ 107 ∷ []

abbrev pub seal_word : List ℕ
seal_word = 115 ∷ 101 ∷ 97 ∷ 108 ∷ []

unfoldable pub asked_for : List ℕ → Option Job
asked_for word =
    cond (same_bytes word rewrite_word) (Some (RewriteJob Default))
    (cond (same_bytes word fuller_word) (Some (RewriteJob Fuller))
    (cond (same_bytes word rest_word) (Some Rest)
    (cond (same_bytes word bytes_word) (Some Bytes)
    (cond (same_bytes word check_word) (Some Check)
    (cond (same_bytes word pages_word) (Some Pages)
    (cond (same_bytes word pack_word) (Some Pack)
    (cond (same_bytes word unpack_word) (Some Unpack)
    (cond (same_bytes word seal_word) (Some Seal) None))))))))

-- `fx` and `i32`
abbrev pub fx_word : List ℕ
fx_word = 102 ∷ 120 ∷ []

abbrev pub i32_word : List ℕ
i32_word = 105 ∷ 51 ∷ 50 ∷ []

unfoldable pub product_for : List ℕ → Option Product
product_for word = cond (same_bytes word fx_word) (Some Fx) (cond (same_bytes word i32_word) (Some I32) None)

-- ---- the texts

-- what goes to standard output and to standard error
pub record Texts : Type 0 where
  pub output : List ℕ
  pub error : List ℕ

abbrev pub on_output : List ℕ → Texts
on_output text = record { output = text; error = [] }

abbrev pub on_error : List ℕ → Texts
on_error text = record { output = []; error = text }

-- the text of a rewrite's answer; `new` are the bytes that it wrote
abbrev pub answer_text : Rewrite → List ℕ → List ℕ
answer_text (Ok w) new = rewritten_text (cells new) w.report.num_rewrites
answer_text (Err x) new = refusal_text x

-- those bytes themselves; a refusal goes to standard error
abbrev pub answer_bytes : Rewrite → List ℕ → Texts
answer_bytes (Ok w) new = on_output new
answer_bytes (Err x) new = on_error (refusal_text x)

-- of the sealing check as of a check: `good`, or the line of the refusal
abbrev pub sealed_text : Sealing → List ℕ
sealed_text (Ok tt) = good_text
sealed_text (Err (RefusedSealing x)) = refusal_text x
sealed_text (Err (Repeated w position x)) = refused_text (repeat_number w) position x

-- the pages of an accepted image; or as of a refused one. There is always room for them
abbrev pub laid_text : Checked → List ℕ → List ℕ
laid_text (Ok tt) pages = pages
laid_text (Err x) pages = refusal_text x

-- a packed form, or the image of one; a refusal goes to standard error. There is always room for the bytes
abbrev pub result_texts : Result → Texts
result_texts (bytes b) = on_output b
result_texts (refused x) = on_error (refusal_text x)
result_texts (ends position detail) = on_error (refused_text 32 position detail)

-- the bytes that a rewrite wrote, by its answer and what its output then holds
abbrev pub written : Rewrite → List ℕ → List ℕ
written r out = take (length_written r) out

-- what each job writes for its input, which is an image, for `unpack` a packed form; a rewrite is lent an output as long as the longest image
unfoldable pub program_texts : Job → List ℕ → Texts
program_texts (RewriteJob k) input = on_output (answer_text (pass_answer (Both k) input max_image) (pass_bytes (Both k) input))
program_texts Rest input = on_output (answer_text (rest_answer Default input max_image) (rest_bytes Default input))
program_texts Bytes input = answer_bytes (pass_answer (Both Default) input max_image) (pass_bytes (Both Default) input)
program_texts Check input = on_output (checked_text (site_answer input))
program_texts Pages input = on_output (laid_text (site_answer input) (pages_text input))
program_texts Pack input = result_texts (pack_result input)
program_texts Unpack input = result_texts (unpack_result input)
program_texts Seal input = on_output (sealed_text (sealing_answer input))

-- Of an input past the longest image the program keeps the first 65,536 bytes and, of the others, only that there are some (`input`). What it
-- writes for what it kept is what each job writes for the whole input: an image so long is refused, whatever its bytes are, and of a packed form
-- the first 65,536 bytes decide, since the cells of the longest image keep fewer.
abbrev pub LongInputs : Type 0
LongInputs =
    (job : Job) (input kept : List ℕ) → max_image < length input → max_image < length kept → take max_image kept ≡ take max_image input
    → program_texts job kept ≡ program_texts job input

-- what a job leaves in the output that it lends to a rewrite
unfoldable pub work_after : Job → List ℕ → List ℕ → List ℕ
work_after (RewriteJob k) input before = pass_output (Both k) input before
work_after Rest input before = rest_output Default input before
work_after Bytes input before = pass_output (Both Default) input before
work_after Check input before = before
work_after Pages input before = before
work_after Pack input before = before
work_after Unpack input before = before
work_after Seal input before = before

-- ---- the texts of `factor`

abbrev pub factor_by : Product → ℤ → ℤ → Option ℤ
factor_by Fx wanted factor = factor_fx wanted factor
factor_by I32 wanted factor = factor_i32 wanted factor

-- the factor that is found, in decimal; or document 02's refusal where there is none
abbrev pub found_text : Option ℤ → List ℕ
found_text (Some z) = signed z ++ line_feed ∷ []
found_text None = refused_text 36 0 0

-- of a word that is no number, by its name in the usage
abbrev pub no_number_text : String → List ℕ
no_number_text name = ascii name ++ ascii " is no i32: a whole number from -2147483648 to 2147483647" ++ line_feed ∷ []

-- the first of the two words that is none is said; else what is found for the two numbers
abbrev pub numbers_texts : (ℤ → ℤ → Option ℤ) → Option ℤ → Option ℤ → Texts
numbers_texts find None factor = on_error (no_number_text "WANTED")
numbers_texts find (Some w) None = on_error (no_number_text "FACTOR")
numbers_texts find (Some w) (Some f) = on_output (found_text (find w f))

-- what is written for a product and the words of its two numbers
unfoldable pub factor_texts : Product → List ℕ → List ℕ → Texts
factor_texts product wanted factor = numbers_texts (factor_by product) (number_in wanted) (number_in factor)
