-- Promise: the premise of demand 3 (document 01, 'How a function runs'): in the function as sent, each label name stands at one place, that is, its
-- Label cells follow one another with no other cell between.
use Rattle.std.specs.Prelude.{◌≡◌, Bool, true, cond, ◌&&◌, not, List, [], ◌∷◌, ◌++◌, ℕ, Option, None, Some}
use Rattle.cells.specs.Ins.{Ins, label, label_of, alike}
use Rattle.cells.specs.Lists.{any}

-- every cell of the list is this one
abbrev pub AllAre : Ins → List Ins → Type 0
AllAre i [] = Unit {0}
AllAre i (j ∷ p) = (j ≡ i) × AllAre i p

-- between two cells Label l there is no cell other than Label l
unfoldable pub OnePlace : List Ins → Type 0
OnePlace P = (l : ℕ) (a m z : List Ins) → P ≡ a ++ (label l ∷ (m ++ (label l ∷ z))) → AllAre (label l) m

-- ---- the same as a test that computes

abbrev pub is_label : ℕ → Ins → Bool
is_label l i = alike (Some l) (label_of i)

-- p without the cells Label l that it starts with
abbrev pub past_labels : ℕ → List Ins → List Ins
past_labels l [] = []
past_labels l (i ∷ p) = cond (is_label l i) (past_labels l p) (i ∷ p)

-- behind a cell of this name and those of its name that follow it there is none
abbrev pub ends_here : Option ℕ → List Ins → Bool
ends_here None p = true
ends_here (Some l) p = not (any (is_label l) (past_labels l p))

abbrev pub one_place : List Ins → Bool
one_place [] = true
one_place (i ∷ p) = ends_here (label_of i) p && one_place p
