-- Promise: what a buyer reads of the two operations together (document 02, W8), by their own definitions, whatever is lent: `answer_of (pack_result s)
-- (length lent)` is what `pack` answers for the image s and the lent output, and `output_of (pack_result s) lent` is what the output then holds; and so
-- for `unpack`.
use Rattle.std.specs.Prelude.{ℕ, ◌≤◌, ◌<◌, ◌≡◌, List, [], ◌∷◌, ◌++◌, length, take, Ok}
use Rattle.cells.specs.Bytes.{byte}
use Rattle.cells.specs.Cells.{Cell, cells, over}
use Rattle.cells.specs.Functions.{Function, functions}
use Rattle.image.specs.Image.{image_answer}
use Rattle.packed.specs.Form.{Role, Head, Code, Event, size, keep, packed}
use Rattle.packed.specs.Reading.{Result}
use Rattle.packed.specs.Operations.{pack_result, unpack_result, answer_of, output_of}

-- an operation wrote n bytes to the lent output: these
abbrev pub Wrote : Result → List ℕ → ℕ → Type 0
Wrote t lent n = answer_of t (length lent) ≡ Ok n

abbrev pub wrote : Result → List ℕ → ℕ → List ℕ
wrote t lent n = take n (output_of t lent)

-- it answers the length of b, and b stands over the start of the output, whose rest stays
pub record Writes (t : Result) (lent b : List ℕ) : Type 0 where
  pub answer : answer_of t (length lent) ≡ Ok (length b)
  pub bytes : output_of t lent ≡ over b lent

-- 'import undoes export': of what `pack` wrote, `unpack` makes the image again, in any output as long as the image
abbrev pub UnpackUndoesPack : Type 0
UnpackUndoesPack =
    (s lent back : List ℕ) (n : ℕ) → Wrote (pack_result s) lent n → length s ≤ length back → Writes (unpack_result (wrote (pack_result s) lent n)) back s

-- 'two images never pack alike'
abbrev pub NeverAlike : Type 0
NeverAlike =
    (s t lentS lentT : List ℕ) (n m : ℕ) → Wrote (pack_result s) lentS n → Wrote (pack_result t) lentT m
    → wrote (pack_result s) lentS n ≡ wrote (pack_result t) lentT m → s ≡ t

-- the other way: of what `unpack` wrote, `pack` makes what it was given again, so that no image has two packed forms
abbrev pub PackUndoesUnpack : Type 0
PackUndoesUnpack =
    (s lent back : List ℕ) (n : ℕ) → Wrote (unpack_result s) lent n → length s ≤ length back → Writes (pack_result (wrote (unpack_result s) lent n)) back s

abbrev pub OneForm : Type 0
OneForm =
    (s t lentS lentT : List ℕ) (n m : ℕ) → Wrote (unpack_result s) lentS n → Wrote (unpack_result t) lentT m
    → wrote (unpack_result s) lentS n ≡ wrote (unpack_result t) lentT m → s ≡ t

-- what `unpack` wrote passes the image check
abbrev pub UnpackedPasses : Type 0
UnpackedPasses = (s lent : List ℕ) (n : ℕ) → Wrote (unpack_result s) lent n → image_answer (wrote (unpack_result s) lent n) ≡ Ok tt

-- an output as long as the image is always enough for `pack`
abbrev pub PackNeverLonger : Type 0
PackNeverLonger = (s lent : List ℕ) (n : ℕ) → Wrote (pack_result s) lent n → n ≤ length s

-- where a cell ends among the packed bytes is decided by its first byte and by what it is
abbrev pub FirstByteDecides : Type 0
FirstByteDecides = (r : Role) (s t : List ℕ) → byte s 0 ≡ byte t 0 → size r s ≡ size r t

-- there is no limit on packed bytes but the image's: 4,096 cells keep at most 61,440, and one byte more is past them, whatever follows it
abbrev pub FirstBytesDecide : Type 0
FirstBytesDecide = (s : List ℕ) (n : ℕ) → 61440 < n → unpack_result (take n s) ≡ unpack_result s

-- ---- the packed form, function by function: of each the head, the instructions and the events

abbrev pub keep_all : Role → List Cell → List ℕ
keep_all r [] = []
keep_all r (c ∷ cs) = keep r c ++ keep_all r cs

abbrev pub pack_function : Function → List ℕ
pack_function f = keep Head f.head ++ (keep_all Code f.code ++ keep_all Event f.events)

abbrev pub pack_functions : List Function → List ℕ
pack_functions [] = []
pack_functions (f ∷ fs) = pack_function f ++ pack_functions fs

abbrev pub ByFunctions : Type 0
ByFunctions = (s : List ℕ) → packed s ≡ pack_functions (functions (cells s))
