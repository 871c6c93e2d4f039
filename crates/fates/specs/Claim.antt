-- Promise: what each fate means, said of the rewrite's own definition (document 02, W6: "The reason is proved true of the rewrite's definition, and a
-- cell has only one"), and that the fates of all cells give back what the rewrite hands back. `see` says what the n instruction cells of a function
-- are; `left₁` to `left₄` are the positions that the sweeps leave (Fates.antt).
use Rattle.std.specs.Prelude.{ℕ, ◌+◌, ◌<◌, ◌≡◌, true, false, cond, ◌||◌, List, [], ◌∷◌, ◌++◌, ◌↔◌, eqb, length, get_or, Some, Option, None}
use Rattle.cells.specs.Bytes.{half}
use Rattle.cells.specs.Cells.{Cell}
use Rattle.cells.specs.Functions.{Function}
use Rattle.cells.specs.Ins.{Const, Ins, label_of}
use Rattle.cells.specs.Lists.{All}
use Rattle.cells.specs.View.{view, load_bytes, load_cell}
use Rattle.sites.specs.Sites.{site_of, event_site, stands}
use Rattle.sites.specs.declared.Which.{Which}
use Rattle.cleanup.specs.Marks.{terminal, jump_of, removable_load}
use Rattle.cleanup.specs.Sweeps.{removed}
use Rattle.cleanup.specs.Cleanup.{clean_events}
use Rattle.crystalfold.specs.Rules.{default_rules}
use Rattle.crystalfold.specs.Fold.{Table, unknown, dst_of, known_after}
use Rattle.rewrite.specs.Rewrite.{rewrite_function, rewrite_code, rewrite_count}
use Rattle.fates.specs.Fates.{among, left₁, left₂, left₃, left₄, verdict_of, load_of, judged, see_in, code_fate, code_fates, event_fate, event_fates, function_fates}
use Rattle.fates.specs.declared.Fate.{Fate}
use Rattle.fates.specs.declared.Fate.TheVariants.{RepeatedLabel, Unreachable, JumpToNext, LoadOverwritten, Folded, EventGone, Kept}
use Rattle.fates.specs.declared.Reason.TheVariants.{Nothing}

-- ---- the fates of instruction cells, one record a reason

module _ (see : ℕ → Ins) (n k : ℕ) where
  -- sweep one does not leave it, and it has the name of the label just kept
  pub record RepeatedLabelTrue : Type 0 where
    pub gone : among k (left₁ see n) ≡ false
    -- the cell just kept: the last before it that sweep one leaves
    pub before : List ℕ
    pub kept : ℕ
    pub behind : List ℕ
    pub parts : left₁ see n ≡ before ++ kept ∷ behind
    pub earlier : kept < k
    pub last : All (λ (j : ℕ). k < j) behind
    pub name : ℕ
    pub of_kept : label_of (see kept) ≡ Some name
    pub of_this : label_of (see k) ≡ Some name

  -- sweep one leaves it and sweep two does not; `end` is the last Ret or Jmp before it that sweep two leaves
  pub record UnreachableTrue (end : ℕ) : Type 0 where
    pub left : among k (left₁ see n) ≡ true
    pub gone : among k (left₂ see n) ≡ false
    pub before : List ℕ
    pub behind : List ℕ
    -- sweep two leaves no cell at all between the two
    pub parts : left₂ see n ≡ before ++ end ∷ behind
    pub earlier : end < k
    pub last : All (λ (j : ℕ). k < j) behind
    pub ends : terminal (see end) ≡ true
    -- and sweep one leaves no label between them; it is none itself
    pub no_label : (j : ℕ) → among j (left₁ see n) ≡ true → end < j → j < k → label_of (see j) ≡ None
    pub of_this : label_of (see k) ≡ None

  -- it goes by its next cell: one sweep leaves the positions p, the next one only q; f finds in it the number that g finds in the next
  pub record ByNextTrue (f g : Ins → Option ℕ) (p q : List ℕ) : Type 0 where
    pub left : among k p ≡ true
    pub gone : among k q ≡ false
    pub before : List ℕ
    pub next : ℕ
    pub behind : List ℕ
    pub parts : p ≡ before ++ k ∷ next ∷ behind
    pub number : ℕ
    pub of_this : f (see k) ≡ Some number
    pub of_next : g (see next) ≡ Some number

-- what the fold knows behind the cells at p
abbrev pub known_behind : (ℕ → Ins) → Table → List ℕ → Table
known_behind see t [] = t
known_behind see t (j ∷ p) = known_behind see (known_after default_rules t (see j)) p

-- all four sweeps leave it; the fold's verdict on it, by what it knows behind the cells left before it, gives the fate x; and in the output c stands
-- at its place, behind as many cells as are left before it
pub record LeftTrue (cs : List Cell) (k : ℕ) (x : Fate) (c : Cell) : Type 0 where
  pub left : among k (left₄ (see_in cs) (length cs)) ≡ true
  pub before : List ℕ
  pub behind : List ℕ
  pub parts : left₄ (see_in cs) (length cs) ≡ before ++ k ∷ behind
  pub verdict : x ≡ judged (verdict_of (known_behind (see_in cs) unknown before) (see_in cs k))
  pub place : length before < length (rewrite_code default_rules cs)
  pub stands : get_or (rewrite_code default_rules cs) (length before) [] ≡ c

-- folded to a constant: the load of it into the command's dst stands at its place
pub record FoldedTrue (cs : List Cell) (k : ℕ) (x : Fate) : Type 0 where
  pub constant : Const
  pub is : x ≡ load_of constant
  pub left : LeftTrue cs k x (load_cell (dst_of (see_in cs k)) constant)

-- the fate x of the cell at k of the instruction cells cs, the first of which is the cell `first` of the image
abbrev pub CodeTrue : ℕ → List Cell → ℕ → Fate → Type 0
CodeTrue first cs k RepeatedLabel = RepeatedLabelTrue (see_in cs) (length cs) k
CodeTrue first cs k (Unreachable j) = (end : ℕ) × (j ≡ first + end) × UnreachableTrue (see_in cs) (length cs) k end
CodeTrue first cs k JumpToNext = ByNextTrue (see_in cs) (length cs) k jump_of label_of (left₂ (see_in cs) (length cs)) (left₃ (see_in cs) (length cs))
CodeTrue first cs k LoadOverwritten = ByNextTrue (see_in cs) (length cs) k removable_load removable_load (left₃ (see_in cs) (length cs)) (left₄ (see_in cs) (length cs))
CodeTrue first cs k (Folded command bits) = FoldedTrue cs k (Folded command bits)
-- no instruction cell is an event
CodeTrue first cs k EventGone = ⊥
-- a kept one stands unchanged at its place
CodeTrue first cs k (Kept r) = LeftTrue cs k (Kept r) (get_or cs k [])

-- the theorem `code_true` of proofs/CodeTrue
abbrev pub CodeFatesTrue : Type 0
CodeFatesTrue = (first : ℕ) (cs : List Cell) (k : ℕ) → k < length cs → CodeTrue first cs k (code_fate (see_in cs) (length cs) first k)

-- ---- events

-- the event e is one of these
abbrev pub OneOf : Cell → List Cell → Type 0
OneOf e es = (i : ℕ) × (i < length es) × (get_or es i [] ≡ e)

-- gone by a site, of its own sort, on a command that sweep two removes
pub record GoneTrue (cs : List Cell) (e : Cell) : Type 0 where
  pub sort : Which
  pub site : ℕ
  pub of_event : event_site sort e ≡ Some site
  pub of_command : stands (site_of sort) site (removed view cs) ≡ true

-- of an event of a function with the instruction cells cs and the events es: it is gone, or kept with nothing to add; it is gone exactly if it is not
-- among the output's events, and only by such a site
pub record EventTrue (cs es : List Cell) (e : Cell) (x : Fate) : Type 0 where
  pub not_among : (x ≡ EventGone) ↔ (OneOf e (clean_events cs es) → ⊥)
  pub kept : (x ≡ Kept Nothing) ↔ OneOf e (clean_events cs es)
  pub by-site : x ≡ EventGone → GoneTrue cs e

-- the theorem `event_true` of proofs/EventTrue
abbrev pub EventFatesTrue : Type 0
EventFatesTrue = (cs es : List Cell) (e : Cell) → OneOf e es → EventTrue cs es e (event_fate cs e)

-- ---- the fates of all cells give back the output and the count

-- the width of a load's value, by its command
abbrev pub width_by : ℕ → ℕ
width_by command = cond (eqb command 0x28 || eqb command 0x2C) 1 (cond (eqb command 0x29) 8 4)

-- what is handed back for a cell
abbrev pub back_of : Fate → Cell → List Cell
back_of RepeatedLabel c = []
back_of (Unreachable j) c = []
back_of JumpToNext c = []
back_of LoadOverwritten c = []
-- the load of the value into the command's dst, its first operand
back_of (Folded command bits) c = load_bytes command (half c 1) (width_by command) bits ∷ []
back_of EventGone c = []
back_of (Kept r) c = c ∷ []

abbrev pub all_back : List Fate → List Cell → List Cell
all_back [] cs = []
all_back (x ∷ xs) [] = []
all_back (x ∷ xs) (c ∷ cs) = back_of x c ++ all_back xs cs

-- each dropped or folded instruction cell counts 1; an event does not
abbrev pub count_of : Fate → ℕ
count_of RepeatedLabel = 1
count_of (Unreachable j) = 1
count_of JumpToNext = 1
count_of LoadOverwritten = 1
count_of (Folded command bits) = 1
count_of EventGone = 0
count_of (Kept r) = 0

abbrev pub all_counts : List Fate → ℕ
all_counts [] = 0
all_counts (x ∷ xs) = count_of x + all_counts xs

-- of a function whose first cell is the cell `first` of the image: a fate for each cell, the cells and events of the rewrite, and its count
pub record GivesBack (first : ℕ) (f : Function) : Type 0 where
  pub one_each : length (function_fates first f.code f.events) ≡ length f.code + length f.events
  pub code : all_back (code_fates first f.code) f.code ≡ (rewrite_function default_rules f).code
  pub events : all_back (event_fates f.code f.events) f.events ≡ (rewrite_function default_rules f).events
  pub count : all_counts (function_fates first f.code f.events) ≡ rewrite_count default_rules f.code

-- the theorem `gives_back` of proofs/GivesBack
abbrev pub AllGiveBack : Type 0
AllGiveBack = (first : ℕ) (f : Function) → GivesBack first f
