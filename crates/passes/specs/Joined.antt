-- Promise: functions don't lean on each other (document 02, W12): what a pass, by either rule set, answers and writes of two images joined. s and t are
-- the images; u, v and w are what is lent as the outputs of s, of t and of s ++ t, whatever they hold. Nothing is assumed of labels, names or sites.
use Rattle.std.specs.Prelude.{ℕ, ◌+◌, ◌≤◌, ◌≡◌, List, ◌++◌, Bool, true, false, ◌||◌, length, take, Ok, Err}
use Rattle.cells.specs.Cells.{cells, over}
use Rattle.cells.specs.Check.{max_image}
use Rattle.cells.specs.Functions.{functions}
use Rattle.cells.specs.declared.refusal.Refusal.{Refusal}
use Rattle.image.specs.Image.{image_answer}
use Rattle.image.specs.JoinedChecks.{refusal_behind, EndsFunction}
use Rattle.passes.specs.Passes.{pass_answer, pass_output}
use Rattle.passes.specs.Promises.{is_written, length_written}
use Rattle.passes.specs.declared.Pass.{Pass}
use Rattle.passes.specs.Rewrite.{Rewrite}

-- "each time with an output as long as its image", or longer; "whose joined length is within the limit"
pub record Room (s t u v w : List ℕ) : Type 0 where
  pub first : length s ≤ length u
  pub second : length t ≤ length v
  pub joined : length s + length t ≤ length w
  pub within : length s + length t ≤ max_image

-- the image s is accepted, with the output u lent
abbrev pub Accepted : Pass → List ℕ → List ℕ → Type 0
Accepted p s u = is_written (pass_answer p s (length u)) ≡ true

-- it is refused by x, and no lent byte is changed
pub record RefusedFor (p : Pass) (s u : List ℕ) (x : Refusal) : Type 0 where
  pub answer : pass_answer p s (length u) ≡ Err x
  pub output : pass_output p s u ≡ u

-- what is written of s: as many bytes of the output as the answer says
abbrev pub written : Pass → List ℕ → List ℕ → List ℕ
written p s u = take (length_written (pass_answer p s (length u))) (pass_output p s u)

-- success with the sum of two answers' lengths and of their counts; `changed` if either is
abbrev pub count_of : Rewrite → ℕ
count_of (Ok written) = written.report.num_rewrites
count_of (Err x) = 0

abbrev pub changed_of : Rewrite → Bool
changed_of (Ok written) = written.report.changed
changed_of (Err x) = false

abbrev pub sum : Rewrite → Rewrite → Rewrite
sum a b = Ok (record { length = (length_written a + length_written b); report = (record { changed = changed_of a || changed_of b; num_rewrites = count_of a + count_of b }) })

-- ---- both are accepted

pub record InOrder (p : Pass) (s t u v w : List ℕ) : Type 0 where
  -- "the joined image is accepted, .. and its count is the sum"
  pub answer : pass_answer p (s ++ t) (length w) ≡ sum (pass_answer p s (length u)) (pass_answer p t (length v))
  -- "its output is both outputs joined in that order": the bytes written, and every byte of what was lent
  pub bytes : written p (s ++ t) w ≡ written p s u ++ written p t v
  pub output : pass_output p (s ++ t) w ≡ over (written p s u ++ written p t v) w
  -- the same by functions
  pub functions_back : functions (cells (written p (s ++ t) w)) ≡ functions (cells (written p s u)) ++ functions (cells (written p t v))

pub record Joined (p : Pass) (s t u v w : List ℕ) : Type 0 where
  pub in_order : InOrder p s t u v w
  -- "joined the other way round, the functions' outputs are the same in the other order"
  pub other_way : InOrder p t s v u w

-- the theorem `joined` of proofs/JoinedImages
abbrev pub ImagesJoin : Type 0
ImagesJoin = (p : Pass) (s t u v w : List ℕ) → Room s t u v w → Accepted p s u → Accepted p t v → Joined p s t u v w

-- ---- one is refused: whose function is at fault. Where the image check refuses s, its last head may count cells of t, and nothing is said

-- the theorem `second_refused`: s is accepted, t refused by x. The joined image is refused by x, moved on by the functions and the cells of s
abbrev pub SecondRefused : Type 0
SecondRefused =
    (p : Pass) (s t u v w : List ℕ) (x : Refusal) → Room s t u v w → Accepted p s u → pass_answer p t (length v) ≡ Err x → RefusedFor p (s ++ t) w (refusal_behind s x)

-- the theorem `second_unread`: the image check passes s and refuses t, by x. It is the same, whatever the validators say of s
abbrev pub SecondUnread : Type 0
SecondUnread =
    (p : Pass) (s t u v w : List ℕ) (x : Refusal) → Room s t u v w → image_answer s ≡ Ok tt → image_answer t ≡ Err x → RefusedFor p (s ++ t) w (refusal_behind s x)

-- the theorem `first-refused`: the image check passes both, and a validator refuses s, by x. The joined image is refused by x too
abbrev pub FirstRefused : Type 0
FirstRefused =
    (p : Pass) (s t u v w : List ℕ) (x : Refusal) → Room s t u v w → image_answer s ≡ Ok tt → image_answer t ≡ Ok tt → pass_answer p s (length u) ≡ Err x → RefusedFor p (s ++ t) w x

-- ---- the converse

-- the theorem `parted`: an accepted image, cut where a function ends, is two accepted images. Cut elsewhere, both may be refused (`cut_inside`, Worked)
abbrev pub ImagesPart : Type 0
ImagesPart =
    (p : Pass) (s t u v w : List ℕ) → length s ≤ length u → length t ≤ length v → Accepted p (s ++ t) w → EndsFunction s t → Accepted p s u × Accepted p t v

-- the theorem `ends-function`: so it is wherever the first part is accepted
abbrev pub AcceptedEnds : Type 0
AcceptedEnds = (p : Pass) (s t u : List ℕ) → Accepted p s u → EndsFunction s t
