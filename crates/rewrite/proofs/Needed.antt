-- The premise is needed. Label 1, Jmp 1, Label 1 has the name 1 at two places; as sent it loops with an empty record, and as returned, Label 1,
-- Label 1, it ends.
use mathlib.Core.Path.{◌≡◌, refl, sym, ◌∙◌, ap}
use mathlib.Core.Logic.{◌⊎◌, inl, inr}
use mathlib.Core.List.{List, [], ◌∷◌, map, cons≢nil}
use Prim.Native.Nat.{ℕ, zero, suc}
use native.Mathlib.Omega.{arith}
use Rattle.cells.specs.Cells.{Cell}
use Rattle.cells.specs.Ins.{label, jmp}
use Rattle.cells.specs.Table.{rows, class_of}
use Rattle.cells.specs.View.{view}
use Rattle.machine.specs.Values.{shown}
use Rattle.machine.specs.Run.{ended, last_cell, State, live, record_of, exec, step, run, after}
use Rattle.machine.specs.Records.{SameRecords}
use Rattle.machine.specs.Runs.{initial, stops}
use Rattle.cells.specs.Assembler.{Label, Jmp}
use Rattle.cleanup.specs.Cleanup.{clean_code}
use Rattle.cleanup.specs.Premise.{OnePlace}
use Rattle.crystalfold.specs.Rules.{default_rules}
use Rattle.crystalfold.specs.CrystalFold.{fold_code}
use Rattle.rewrite.specs.Rewrite.{rewrite_code}

abbrev pub sent : List Cell
sent = Label 1 ∷ Jmp 1 ∷ Label 1 ∷ []

pub rewritten : rewrite_code default_rules sent ≡ Label 1 ∷ Label 1 ∷ []
unfolding rewrite_code clean_code fold_code view class_of rows
rewritten = refl

pub not-one_place : OnePlace (map view sent) → ⊥
unfolding OnePlace view class_of rows
not-one_place o =
    let e : jmp 1 ≡ label 1 = (o 1 [] (jmp 1 ∷ []) [] refl).0 in
    let y : ◌≡◌ {A = ℕ} 0 1 = cc in
    omega arith

-- the two states of the loop
abbrev at_label : State
at_label = live (label 1) (jmp 1 ∷ label 1 ∷ []) initial []

abbrev at_jmp : State
at_jmp = live (jmp 1) (label 1 ∷ []) initial []

abbrev InLoop : State → Type 0
InLoop s = (s ≡ at_label) ⊎ (s ≡ at_jmp)

step_loop : (s : State) → InLoop s → InLoop (step (map view sent) stops s)
unfolding exec view class_of rows
step_loop s (inl e) = inr (ap (step (map view sent) stops) e)
step_loop s (inr e) = inl (ap (step (map view sent) stops) e)

loops : (n : ℕ) → InLoop (run (map view sent) stops initial n)
unfolding view class_of rows
loops zero = inl refl
loops (suc n) = step_loop (run (map view sent) stops initial n) (loops n)

silent : (s : State) → InLoop s → record_of s ≡ []
silent s (inl e) = ap record_of e
silent s (inr e) = ap record_of e

ends : after (map view (rewrite_code default_rules sent)) stops initial 2 ≡ ended last_cell (shown initial) ∷ []
unfolding rewrite_code clean_code fold_code exec view class_of rows
ends = refl

pub not-same_records : SameRecords (map view sent) (map view (rewrite_code default_rules sent)) → ⊥
not-same_records s =
    let (n, e) = s.back stops initial 2 in
    cons≢nil (sym ends ∙ e ∙ silent (run (map view sent) stops initial n) (loops n))
