-- One function, and all of them, by any rules: where a rewrite counts 0 it has left every cell and every event, so that the next hands back the
-- same function, head and all; and the third counts 0.
use mathlib.Core.Path.{◌≡◌, refl, ◌∙◌, ap, ap₂}
use mathlib.Core.Bool.{Bool, false}
use mathlib.Core.List.{List, [], ◌∷◌, map}
use Prim.Native.Nat.{ℕ}
use native.Mathlib.Omega.{arith}
use lib.ListN.{length}
use Rattle.cells.specs.Cells.{Cell}
use Rattle.cells.specs.Functions.{Function, new_head}
use Rattle.cells.specs.Ins.{label_of}
use Rattle.cells.specs.Lists.{only}
use Rattle.cells.specs.View.{view, load_cell}
use Rattle.cells.proofs.Lists.{Sub, end, keep, skip, sub_length, nothing_in}
use Rattle.cells.proofs.Views.{view_load}
use Rattle.sites.specs.Sites.{event_site}
use Rattle.sites.specs.declared.Which.{Which}
use Rattle.sites.specs.declared.Which.TheVariants.{Activation, Write}
use Rattle.cleanup.specs.Marks.{terminal, jump_of, removable_load}
use Rattle.cleanup.specs.Sweeps.{cut_off, removed, remove_duplicate_consecutive_labels, remove_unreachable_until_label, remove_noop_jumps}
use Rattle.cleanup.specs.Cleanup.{on_gone, stays, clean_code, clean_events, clean_function}
use Rattle.cleanup.proofs.CleanupCounts.{clean_count_lem}
use Rattle.cleanup.proofs.EachLeft.{sub_code}
use Rattle.cleanup.proofs.Sweeping.{both_lengths, sub_dedupe, sub_sweep}
use Rattle.crystalfold.specs.Rules.{Rules}
use Rattle.crystalfold.specs.CrystalFold.{fold_code, folds_of, fold_function}
use Rattle.crystalfold.proofs.FoldCounts.{length-folded}
use Rattle.rewrite.specs.AllFunctions.{sum_of}
use Rattle.rewrite.specs.Rewrite.{rewrite_function, rewrite_code, rewrite_count}
use Rattle.rewrite.proofs.RewritePasses.{rewrite_code_lem}
use Rattle.rest.proofs.Settle.{third_cleanup, third_folds, fold_still}
use Rattle.std.specs.Prelude.{Option, Some, None}

-- as many cells of a list as it has are all of them
sub_same : {A : Type 0} {q p : List A} → Sub q p → length q ≡ length p → q ≡ p
sub_same end e = refl
sub_same (keep {x} s) e = ap (◌∷◌ x) (sub_same s (omega (arith, e)))
sub_same (skip s) e = absurd (omega (arith, e, sub_length s))

-- a head's counts written twice
new_head_twice : (h : Cell) (n m : ℕ) → new_head (new_head h n m) n m ≡ new_head h n m
new_head_twice [] n m = refl
new_head_twice (a ∷ []) n m = refl
new_head_twice (a ∷ b ∷ []) n m = refl
new_head_twice (a ∷ b ∷ c ∷ []) n m = refl
new_head_twice (a ∷ b ∷ c ∷ d ∷ []) n m = refl
new_head_twice (a ∷ b ∷ c ∷ d ∷ e ∷ []) n m = refl
new_head_twice (a ∷ b ∷ c ∷ d ∷ e ∷ f ∷ []) n m = refl
new_head_twice (a ∷ b ∷ c ∷ d ∷ e ∷ f ∷ g ∷ t) n m = refl

-- ---- events: none goes where no cell is unreachable

on_nothing : (w : Which) (x : Option ℕ) → on_gone w [] x ≡ false
on_nothing w None = refl
on_nothing w (Some x) = refl

stays_all : (es : List Cell) → only (stays []) es ≡ es
stays_all [] = refl
stays_all (e ∷ es) = rw (on_nothing Activation (event_site Activation e), on_nothing Write (event_site Write e)) (ap (◌∷◌ e) (stays_all es))

-- where cleanup leaves all cells, its second sweep took none
none-removed : (cs : List Cell) → length (clean_code cs) ≡ length cs → removed view cs ≡ []
unfolding clean_code
none-removed cs e =
    let p₁ : List Cell = remove_duplicate_consecutive_labels view cs in
    let p₂ : List Cell = remove_unreachable_until_label view p₁ in
    let p₃ : List Cell = remove_noop_jumps view p₂ in
    let b = both_lengths (λ (t : Bool) (c : Cell) (_ : List Cell). cut_off view t c) (λ (c : Cell). terminal (view c)) false p₁ in
    nothing_in (removed view cs)
    (omega (arith, e, b, sub_length (sub_dedupe view None cs), sub_length (sub_sweep view jump_of label_of p₂), sub_length (sub_sweep view removable_load removable_load p₃)))

pub events_still : (cs es : List Cell) → clean_code cs ≡ cs → clean_events cs es ≡ es
unfolding clean_events
events_still cs es e = ap (λ (gone : List Cell). only (stays gone) es) (none-removed cs (ap length e)) ∙ stays_all es

-- a function by its parts
pub same-function : (h i : Cell) (c d e g : List Cell) → h ≡ i → c ≡ d → e ≡ g → ◌≡◌ {A = Function} (record { head = h; code = c; events = e }) (record { head = i; code = d; events = g })
same-function h i c d e g p q r = rw (p, q, r)

module _ (f : Rules) where
  -- ---- the cells

  pub record Still (cs : List Cell) : Type 0 where
    pub cleaned : clean_code cs ≡ cs
    pub rewritten : rewrite_code f cs ≡ cs

  pub code_still : (cs : List Cell) → rewrite_count f cs ≡ 0 → Still cs
  unfolding rewrite_count rewrite_code fold_code folds_of
  code_still cs e =
      let c : clean_code cs ≡ cs = sub_same (sub_code cs) (omega (arith, e, clean_count_lem cs)) in
      record {
        cleaned = c;
        rewritten = fold_still view f load_cell view_load (clean_code cs) (omega (arith, e)) ∙ c;
      }

  pub code_third : (cs : List Cell) → rewrite_count f (rewrite_code f (rewrite_code f cs)) ≡ 0
  unfolding rewrite_count rewrite_code clean_code fold_code folds_of
  code_third cs =
      let q : List Cell = rewrite_code f (rewrite_code f cs) in
      let c : clean_code q ≡ q = third_cleanup view f load_cell view_load cs in
      let a : folds_of f (clean_code q) ≡ 0 = ap (folds_of f) c ∙ third_folds view f load_cell view_load cs in
      omega (arith, a, ap length c, clean_count_lem q)

  -- ---- the function

  pub function_again : (g : Function) → rewrite_count f (rewrite_function f g).code ≡ 0 → rewrite_function f (rewrite_function f g) ≡ rewrite_function f g
  unfolding rewrite_function fold_function clean_function rewrite_code
  function_again g e =
      let cs : List Cell = rewrite_code f g.code in
      let es : List Cell = clean_events g.code g.events in
      let s : Still cs = code_still cs e in
      let v : clean_events cs es ≡ es = events_still cs es s.cleaned in
      let n : length (clean_code cs) ≡ length (clean_code g.code) = ap length s.cleaned ∙ length-folded f (clean_code g.code) in
      same-function _ _ _ _ _ _
      (ap₂ (λ (i j : ℕ). new_head (new_head g.head (length (clean_code g.code)) (length es)) i j) n (ap length v) ∙ new_head_twice g.head (length (clean_code g.code)) (length es))
      s.rewritten
      v

  -- ---- all functions

  abbrev pub all : List Function → List Function
  all = map (rewrite_function f)

  abbrev pub counts : List Function → ℕ
  counts = sum_of (λ (g : Function). rewrite_count f g.code)

  -- where the count is 0, so is the next one
  pub zero_again : (fs : List Function) → counts fs ≡ 0 → counts (all fs) ≡ 0
  zero_again [] e = refl
  zero_again (g ∷ fs) e =
      let a : rewrite_count f g.code ≡ 0 = omega (arith, e) in
      let b : rewrite_count f (rewrite_function f g).code ≡ 0 = ap (rewrite_count f) (rewrite_code_lem f g ∙ (code_still g.code a).rewritten) ∙ a in
      omega (arith, b, zero_again fs (omega (arith, e)))

  -- functions that were handed back are handed back as they are
  pub all_again : (fs : List Function) → counts (all fs) ≡ 0 → all (all fs) ≡ all fs
  all_again [] e = refl
  all_again (g ∷ fs) e = ap₂ ◌∷◌ (function_again g (omega (arith, e))) (all_again fs (omega (arith, e)))

  pub all_third : (fs : List Function) → counts (all (all fs)) ≡ 0
  all_third [] = refl
  all_third (g ∷ fs) =
      let c : (rewrite_function f (rewrite_function f g)).code ≡ rewrite_code f (rewrite_code f g.code) = rewrite_code_lem f (rewrite_function f g) ∙ ap (rewrite_code f) (rewrite_code_lem f g) in
      omega (arith, ap (rewrite_count f) c ∙ code_third g.code, all_third fs)
