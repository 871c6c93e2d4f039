-- Promise: answers of a check, and 'the first refusal in order'.
use Rattle.std.specs.Prelude.{List, [], ◌∷◌, ◌++◌, Bool, cond, Ok, Err}
use Rattle.cells.specs.Cells.{Cell}
use Rattle.cells.specs.declared.refusal.Refusal.{Refusal}
use Rattle.cells.specs.Checked.{Checked}

-- good where the test passes, else this refusal
abbrev pub unless : Bool → Refusal → Checked
unless b r = cond b (Ok tt) (Err r)

-- the first of two answers that refuses
abbrev pub or_else : Checked → Checked → Checked
or_else (Ok tt) b = b
or_else (Err r) b = Err r

-- the cells cs in order, each judged with those before it, which are es at the start. The first refusal is the answer
abbrev pub scan : (List Cell → Cell → Checked) → List Cell → List Cell → Checked
scan judge es [] = Ok tt
scan judge es (c ∷ cs) = or_else (judge es c) (scan judge (es ++ c ∷ []) cs)
