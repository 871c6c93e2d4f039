-- Inner: what the loops write in a lent list of fates.
use Rattle.std.specs.Prelude.{ℕ, ◌+◌, ◌/◌, ◌%◌, ◌≤◌, ◌≡◌, Bool, true, false, cond, ◌&&◌, List, [], ◌∷◌, map, length, get_or, set}
use Rattle.leaves.specs.Verdicts.{value_in}
use Rattle.leaves.specs.declared.constant.ConstVal.{ConstVal}
use Rattle.cells.specs.Cells.{Cell, cells}
use Rattle.cells.specs.Check.{max_instructions, max_events, max_image}
use Rattle.cells.specs.Ins.{Ins}
use Rattle.cells.specs.Lists.{All}
use Rattle.cells.specs.View.{view, Registers}
use Rattle.machine.specs.Values.{written_of}
use Rattle.cleanup.specs.Marks.{terminal}
use Rattle.cleanup.specs.Positions.{up_from, AllBelow, see_at, every, left₁, left₂, left₃, left₄}
use Rattle.cleanup.specs.Receipts.{spared}
use Rattle.crystalfold.specs.Rules.{default_rules, known_of}
use Rattle.crystalfold.specs.Fold.{Table, known_after}
use Rattle.fates.specs.Fates.{nearest_below, verdict_of, judged, folded_as}
use Rattle.fates.specs.declared.Fate.{Fate}
use Rattle.fates.specs.declared.Fate.TheVariants.{RepeatedLabel, Unreachable, JumpToNext, LoadOverwritten, Folded, EventGone, Kept}
use Rattle.fates.specs.declared.Reason.TheVariants.{Nothing}
use Rattle.leaves.specs.Verdict.{Verdict}

-- ---- what is asked

-- the instruction part of a function that the image check passed, whose first cell is the cell `first` of the image
pub record CodePart (code : List ℕ) (first : ℕ) : Type 0 where
  pub even : length code % 16 ≡ 0
  pub few : length code / 16 ≤ max_instructions
  pub in_range : All (λ (c : Cell). Registers (view c)) (cells code)
  pub near : first ≤ max_image

-- and its event part
pub record FunctionParts (code events : List ℕ) (first : ℕ) : Type 0 where
  pub instructions : CodePart code first
  pub few : length events / 16 ≤ max_events

-- ---- the sweeps

-- x at each of some places
abbrev pub marked : Fate → List ℕ → List Fate → List Fate
marked x [] l = l
marked x (k ∷ p) l = marked x p (set l k x)

-- by the sweep that takes each cell; where an unreachable one lies is not yet told
unfoldable pub swept_fates : List ℕ → List Fate → List Fate
swept_fates s l =
    marked (Kept Nothing) (left₄ s) (marked LoadOverwritten (left₃ s) (marked JumpToNext (left₂ s) (marked (Unreachable 0) (left₁ s) (marked RepeatedLabel (every s) l))))

-- sweep two leaves a cell of this fate
abbrev pub reached : Fate → Bool
reached RepeatedLabel = false
reached (Unreachable j) = false
reached JumpToNext = true
reached LoadOverwritten = true
reached (Folded command bits) = true
reached EventGone = true
reached (Kept r) = true

-- a Ret or Jmp that sweep two leaves, by its fate
abbrev pub is_end : (ℕ → Ins) → ℕ → Fate → Bool
is_end see k x = reached x && terminal (see k)

abbrev pub named_of : Fate → ℕ → Fate
named_of RepeatedLabel end = RepeatedLabel
named_of (Unreachable j) end = Unreachable end
named_of JumpToNext end = JumpToNext
named_of LoadOverwritten end = LoadOverwritten
named_of (Folded command bits) end = Folded command bits
named_of EventGone end = EventGone
named_of (Kept r) end = Kept r

abbrev pub end_fate : ℕ → (ℕ → Ins) → List Fate → ℕ → Fate
end_fate first see fates k = named_of (get_or fates k RepeatedLabel) (first + nearest_below (λ (j : ℕ). is_end see j (get_or fates j RepeatedLabel)) k)

abbrev pub end_fates : ℕ → List ℕ → List Fate → List Fate
end_fates first s fates = map (end_fate first (see_at s) fates) (up_from 0 (length s / 16))

-- ---- the fold

-- the fates along the cells at p
abbrev pub fold_fates : (ℕ → Ins) → Table → List ℕ → List Fate
fold_fates see t [] = []
fold_fates see t (j ∷ p) = judged (verdict_of t (see j)) ∷ fold_fates see (known_after default_rules t (see j)) p

-- fates, each at its place
abbrev pub placed : List ℕ → List Fate → List Fate → List Fate
placed [] xs l = l
placed (k ∷ p) [] l = l
placed (k ∷ p) (x ∷ xs) l = placed p xs (set l k x)

pub record Judgeable (code list : List ℕ) (fates : List Fate) : Type 0 where
  pub part : CodePart code 0
  pub below : AllBelow (length code / 16) list
  pub room : length code / 16 ≤ length fates

-- a verdict's fate. That of a value, read back, gives it
pub record VerdictTold (v : Verdict) (x : Fate) : Type 0 where
  pub fate : x ≡ judged v
  pub read_back : known_of (written_of (value_in v)) ≡ value_in v

pub record ValueTold (v : ConstVal) (x : Fate) : Type 0 where
  pub fate : x ≡ folded_as (written_of v)
  pub read_back : known_of (written_of v) ≡ v

-- ---- the events

abbrev pub spared_fate : List ℕ → List ℕ → Cell → Fate
spared_fate activations writes e = cond (spared activations writes e) (Kept Nothing) EventGone
