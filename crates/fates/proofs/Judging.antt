-- One turn of the loop that judges the cells left: the fold's own turn (crystalfold/proofs/Turn), with the verdict's fate written at the cell's
-- position.
use mathlib.Core.Path.{◌≡◌, refl, sym, ◌∙◌, ap, ap₂, subst}
use mathlib.Core.Bool.{true, false}
use mathlib.Core.List.{List, []}
use Prim.Native.Nat.{ℕ, ◌+◌, ◌/◌, ◌≤◌, ◌<◌}
use native.Mathlib.Omega.{arith}
use lib.ListN.{length, get_or, set, drop, length-set, drop_of_length-le}
use lib.Seq.{set-set}
use Rattle.leaves.specs.declared.constant.ConstVal.{ConstVal}
use Rattle.leaves.specs.declared.constant.ConstVal.TheVariants.{Unknown}
use Rattle.leaves.specs.Verdicts.{value_in}
use Rattle.cells.specs.Cells.{Cell, cells, cell_at}
use Rattle.cells.specs.Check.{registers}
use Rattle.cells.specs.Ins.{Const, Ins, load, comp, label, jmp, jmp_if, ret, act}
use Rattle.cells.specs.View.{view, Registers}
use Rattle.cells.proofs.Cells.{cell_at_lem, length-cells}
use Rattle.cells.proofs.Lists.{all_at}
use Rattle.machine.specs.Values.{written_of}
use Rattle.machine.specs.Evaluate.{evaluate}
use Rattle.cleanup.specs.Positions.{see_at}
use Rattle.cleanup.proofs.Turns.{drop_first}
use Rattle.crystalfold.specs.Rules.{fold₂, known_of, default_rules}
use Rattle.crystalfold.specs.Fold.{Table, unknown, note, known_after}
use Rattle.crystalfold.specs.Known.{NothingKnown}
use Rattle.crystalfold.specs.Commands.{command_in, command_of}
use Rattle.crystalfold.specs.declared.command.Command.{Command}
use Rattle.crystalfold.specs.declared.command.Command.TheVariants.{Barrier, Load, Compute, Forget, Other}
use Rattle.crystalfold.proofs.Agreement.{Agree, agree_note}
use Rattle.crystalfold.proofs.Effects.{Effect, effect, Within, within}
use Rattle.fates.specs.Fates.{verdict_of, judged}
use Rattle.fates.specs.Steps.{fold_fates, placed, Judgeable, VerdictTold}
use Rattle.fates.specs.declared.Fate.{Fate}
use Rattle.fates.specs.declared.Fate.TheVariants.{Kept}
use Rattle.fates.specs.declared.Reason.TheVariants.{Nothing}
use Rattle.std.specs.Result.{result_unwrap_or}
use Rattle.std.specs.Prelude.{Ok, Err, Option, None, Some}
use Rattle.leaves.specs.Verdict.{Verdict}
use Rattle.leaves.specs.declared.verdict.Decline.TheVariants.{NotComputed}

-- the verdict on an instruction, by its command
abbrev VerdictBy : Table → Ins → Command → Type 0
VerdictBy t i Barrier = verdict_of t i ≡ Err NotComputed
VerdictBy t i (Load d v) = verdict_of t i ≡ Err NotComputed
VerdictBy t i (Compute o d a b) = verdict_of t i ≡ evaluate (default_rules o) (known_of (t a)) (known_of (t b))
VerdictBy t i (Forget d) = verdict_of t i ≡ Err NotComputed
VerdictBy t i Other = verdict_of t i ≡ Err NotComputed

verdict_by : (t : Table) (i : Ins) → VerdictBy t i (command_in i)
verdict_by t (load d v) = refl
verdict_by t (comp c o d a b) = refl
verdict_by t (label l) = refl
verdict_by t (jmp l) = refl
verdict_by t (jmp_if c l) = refl
verdict_by t (ret s) = refl
verdict_by t (act c None true) = refl
verdict_by t (act c None false) = refl
verdict_by t (act c (Some d) true) = refl
verdict_by t (act c (Some d) false) = refl

-- a list in which the fates along the positions p, from a table on, stand at these
abbrev pub judged_list : List ℕ → Table → List ℕ → List Fate → List Fate
judged_list code t p l = placed p (fold_fates (see_at code) t p) l

-- i positions of a list are judged
pub record JudgedTo (code list : List ℕ) (fates₀ fates : List Fate) (held : List ConstVal) (i : ℕ) : Type 0 where
  pub table : Table
  pub agree : Agree held table
  pub upto : i ≤ length list
  pub as_many : length fates ≡ length fates₀
  pub left : judged_list code table (drop i list) fates ≡ judged_list code unknown list fates₀

pub judged_start : (code list : List ℕ) (fates : List Fate) (held : List ConstVal) → NothingKnown held → JudgedTo code list fates fates held 0
judged_start code list fates held u = record {
  table = unknown;
  agree = u.at;
  upto = omega arith;
  as_many = refl;
  left = refl;
}

-- a position of the list lies in the function
pub position_below : {code list : List ℕ} {fates : List Fate} → Judgeable code list fates → (i : ℕ) → i < length list → get_or list i 0 < length code / 16
position_below {code} {list} g i h = all_at (λ (k : ℕ). k < length code / 16) 0 list i h g.below

module _ {code list : List ℕ} {fates₀ fates : List Fate} {held : List ConstVal} {i : ℕ} (j : JudgedTo code list fates₀ fates held i) where
  pub judged_end : length list ≤ i → fates ≡ judged_list code unknown list fates₀
  judged_end h = sym (ap (λ (p : List ℕ). judged_list code j.table p fates) (drop_of_length-le list h)) ∙ j.left

  module _ (g : Judgeable code list fates₀) (h : i < length list) {k : ℕ} (ek : k ≡ get_or list i 0) where
    -- the fate of the verdict v is written at the position
    turn : (v : Verdict) (t' : Table) {held' : List ConstVal} → verdict_of j.table (see_at code k) ≡ v → known_after default_rules j.table (see_at code k) ≡ t' → Agree held' t'
        → {fates' : List Fate} → fates' ≡ set fates k (judged v) → JudgedTo code list fates₀ fates' held' (i + 1)
    turn v t' ev et a {fates'} e = record {
      table = t';
      agree = a;
      upto = omega arith;
      as_many = ap length e ∙ length-set fates k (judged v) ∙ j.as_many;
      left =
          ap₂ (λ (t : Table) (x : List Fate). judged_list code t (drop (i + 1) list) x) (sym et)
          (e ∙ ap₂ (λ (m : ℕ) (w : Verdict). set fates m (judged w)) ek (sym ev ∙ ap (λ (m : ℕ). verdict_of j.table (see_at code m)) ek))
          ∙ ap (λ (m : ℕ). judged_list code (known_after default_rules j.table (see_at code m)) (drop (i + 1) list) (set fates (get_or list i 0) (judged (verdict_of j.table (see_at code (get_or list i 0)))))) ek
          ∙ sym (ap (λ (p : List ℕ). judged_list code j.table p fates) (drop_first list i h))
          ∙ j.left;
    }

    module _ {r : Command} (e : r ≡ command_of (cell_at code k)) where
      within_now : {r' : Command} → r ≡ r' → Within r'
      unfolding command_of
      within_now e' =
          let b : k < length code / 16 = rw ek (position_below g i h) in
          let a : Registers (view (get_or (cells code) k [])) = all_at (λ (c : Cell). Registers (view c)) [] (cells code) k (omega (arith, length-cells code)) g.part.in_range in
          subst Within (sym e ∙ e') (within (view (cell_at code k)) (subst (λ (c : Cell). Registers (view c)) (cell_at_lem code k b) a))

      pub bound : {r' : Command} → r ≡ r' → Within r'
      bound = within_now

      effect_now : {r' : Command} → r ≡ r' → Effect default_rules j.table (see_at code k) r'
      unfolding command_of
      effect_now e' = subst (Effect default_rules j.table (see_at code k)) (sym e ∙ e') (effect default_rules j.table (see_at code k))

      verdict_now : {r' : Command} → r ≡ r' → VerdictBy j.table (see_at code k) r'
      unfolding command_of
      verdict_now e' = subst (VerdictBy j.table (see_at code k)) (sym e ∙ e') (verdict_by j.table (see_at code k))

      -- each leaves what a kept cell with nothing to add has
      pub turn_barrier : {held' : List ConstVal} → r ≡ Barrier → Agree held' unknown → JudgedTo code list fates₀ (set fates k (Kept Nothing)) held' (i + 1)
      turn_barrier b a = turn (Err NotComputed) unknown (verdict_now b) (effect_now b).1 a refl

      pub turn_other : r ≡ Other → JudgedTo code list fates₀ (set fates k (Kept Nothing)) held (i + 1)
      turn_other b = turn (Err NotComputed) j.table (verdict_now b) (effect_now b).1 j.agree refl

      module _ (size : registers ≤ length held) where
        in_table : {x : ℕ} → x < registers → x < length held
        in_table {x} b = omega arith

        pub turn_load : {x : ℕ} {v : ConstVal} → r ≡ Load x v → JudgedTo code list fates₀ (set fates k (Kept Nothing)) (set held x v) (i + 1)
        turn_load {x} {v} b =
            let (none-folded, (c, cv, after)) = effect_now b in
            turn (Err NotComputed) (note x (Some c) j.table) (verdict_now b) after (agree_note held j.table x v (Some c) (in_table (bound b)) cv j.agree) refl

        pub turn_forget : {x : ℕ} → r ≡ Forget x → JudgedTo code list fates₀ (set fates k (Kept Nothing)) (set held x Unknown) (i + 1)
        turn_forget {x} b =
            turn (Err NotComputed) (note x None j.table) (verdict_now b) (effect_now b).1 (agree_note held j.table x Unknown None (in_table (bound b)) refl j.agree) refl

        -- v is the verdict, `told` its fate, w the value that it is
        pub turn_compute : {o x a b : ℕ} {v : Verdict} {told : Fate} {w : ConstVal} → r ≡ Compute o x a b
            → v ≡ evaluate (default_rules o) (get_or held a Unknown) (get_or held b Unknown) → VerdictTold v told → w ≡ value_in v
            → JudgedTo code list fates₀ (set (set fates k (Kept Nothing)) k told) (set held x w) (i + 1)
        turn_compute {o} {x} {a} {b} {v} {told} {w} c ev m ew =
            let t = j.table in
            let (folded, dst, after) = effect_now c in
            let vt : evaluate (default_rules o) (known_of (t a)) (known_of (t b)) ≡ v = sym (ev ∙ ap₂ (evaluate (default_rules o)) (j.agree a) (j.agree b)) in
            let known : fold₂ (default_rules o) (t a) (t b) ≡ written_of (value_in v) = ap (λ (u : Verdict). written_of (value_in u)) vt in
            turn v (note x (written_of (value_in v)) t) (verdict_now c ∙ vt) (after ∙ ap (λ (u : Option Const). note x u t) known)
            (agree_note held t x w (written_of (value_in v)) (in_table (bound c).0) (m.read_back ∙ sym ew) j.agree)
            (set-set fates k (Kept Nothing) told ∙ ap (set fates k) m.fate)

-- the value of a verdict, or Unknown
pub unwrapped : (v : Verdict) → result_unwrap_or v Unknown ≡ value_in v
unwrapped (Ok x) = refl
unwrapped (Err e) = refl
