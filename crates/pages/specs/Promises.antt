-- Promise: what `pages` promises (document 02, W1): s is the image, `before` and `after` are what the lent buffer holds at entry and at exit, and r is
-- the answer. `answer` and `bytes` say everything outright; the other fields say what follows.
use Rattle.std.specs.Prelude.{ℕ, ◌*◌, ◌≤◌, ◌≡◌, ◌↔◌, List, Bool, true, false, cond, leb, length, take, Ok, Err}
use Rattle.cells.specs.Cells.{cells, over}
use Rattle.cells.specs.Functions.{functions}
use Rattle.cells.specs.Lists.{All}
use Rattle.cells.specs.Refusals.{numbered, numbers_of}
use Rattle.cells.specs.declared.refusal.Numbers.{Numbers}
use Rattle.image.specs.SiteCheck.{site_answer, SitesPass}
use Rattle.pages.specs.Pages.{Line, page_lines, pages_text, lines_of_all, line_bytes, most_lines}
use Rattle.cells.specs.Checked.{Checked}
use Rattle.pages.specs.Answer.{Paged}
use Rattle.pages.specs.declared.PagesError.{PagesError}
use Rattle.pages.specs.declared.PagesError.TheVariants.{Refused, TooShort}

-- what the documents say of each error. 30 has neither position nor detail
abbrev pub error_numbers : PagesError → Numbers
error_numbers (Refused x) = numbers_of x
error_numbers TooShort = numbered 30 0 0

-- an answer as the document sets it out: the length written; or number, position and detail
pub data Reply : Type 0 where
  success : ℕ → Reply
  refusal : Numbers → Reply

abbrev pub reply_of : Paged → Reply
reply_of (Ok n) = success n
reply_of (Err e) = refusal (error_numbers e)

abbrev pub is_laid : Paged → Bool
is_laid (Ok n) = true
is_laid (Err (Refused x)) = false
is_laid (Err TooShort) = false

abbrev pub length_laid : Paged → ℕ
length_laid (Ok n) = n
length_laid (Err (Refused x)) = 0
length_laid (Err TooShort) = 0

-- 'it refuses as the site check, then 30 if the lent buffer is shorter than the pages'; 'success answers the length written'. A text of so many
-- bytes, behind a check, into a buffer of `room` bytes
abbrev pub answer_as : Checked → ℕ → ℕ → Paged
answer_as (Ok tt) n room = cond (leb n room) (Ok n) (Err TooShort)
answer_as (Err x) n room = Err (Refused x)

unfoldable pub pages_answer : List ℕ → ℕ → Paged
pages_answer s room = answer_as (site_answer s) (length (pages_text s)) room

-- on success the pages stand over the start of the buffer, and the rest of it stays; a refusal changes no byte
abbrev pub output_as : Paged → List ℕ → List ℕ → List ℕ
output_as (Ok n) text before = over text before
output_as (Err (Refused x)) text before = before
output_as (Err TooShort) text before = before

unfoldable pub pages_output : List ℕ → List ℕ → List ℕ
pages_output s before = output_as (pages_answer s (length before)) (pages_text s) before

pub record PagesDone (s before after : List ℕ) (r : Paged) : Type 0 where
  -- the answer, and the same by the document's numbers
  pub answer : r ≡ pages_answer s (length before)
  pub reply : reply_of r ≡ reply_of (pages_answer s (length before))
  -- every byte of the buffer
  pub bytes : after ≡ pages_output s before
  -- success exactly if the image passes the site check and the buffer is as long as the pages
  pub accepted : (is_laid r ≡ true) ↔ (SitesPass s × (length (pages_text s) ≤ length before))
  -- what stands there then, up to the length answered, is the pages
  pub written : is_laid r ≡ true → take (length_laid r) after ≡ pages_text s
  -- each line has 57 bytes and its line feed: so the length is 58 times the number of lines, which the functions' cell counts give
  pub lines : SitesPass s → All (λ (l : Line). length l ≡ line_bytes) (page_lines s)
  pub size : SitesPass s → length (pages_text s) ≡ line_bytes * lines_of_all (functions (cells s))
  -- 4,179 lines at most, 242,382 bytes
  pub most : SitesPass s → lines_of_all (functions (cells s)) ≤ most_lines
