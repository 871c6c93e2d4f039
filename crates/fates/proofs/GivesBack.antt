-- The fates of a function's cells give back the rewrite's cells and events, and its count.
use mathlib.Core.Path.{◌≡◌, refl, sym, ◌∙◌, ap}
use mathlib.Core.Bool.{Bool, true, false, cond, not}
use mathlib.Core.List.{List, [], ◌∷◌, ◌++◌, map}
use Prim.Native.Nat.{ℕ, ◌+◌}
use native.Mathlib.Omega.{arith}
use lib.ListN.{length, length-map, length-append}
use Rattle.cells.specs.Cells.{Cell}
use Rattle.cells.specs.Ins.{Ins}
use Rattle.cells.specs.Lists.{only}
use Rattle.cells.specs.View.{view}
use Rattle.cells.proofs.Facts.{by_test}
use Rattle.cells.proofs.Lists.{all_of}
use Rattle.cleanup.specs.Sweeps.{removed}
use Rattle.cleanup.specs.Cleanup.{stays, clean_events}
use Rattle.cleanup.specs.Positions.{up_from}
use Rattle.cleanup.proofs.CleanupCounts.{clean_count_lem}
use Rattle.cleanup.proofs.Positions.{length_up_from}
use Rattle.crystalfold.specs.Rules.{default_rules}
use Rattle.crystalfold.specs.Fold.{unknown}
use Rattle.crystalfold.specs.CrystalFold.{fold_code, folds_of}
use Rattle.rewrite.specs.Rewrite.{rewrite_code, rewrite_count}
use Rattle.rewrite.proofs.RewritePasses.{rewrite_code_lem, rewrite_events}
use Rattle.fates.specs.Fates.{among, left₁, left₂, left₃, left₄, see_in, code_fate, code_fates, event_fate, event_fates, function_fates}
use Rattle.fates.specs.Claim.{all_back, all_counts, AllGiveBack}
use Rattle.fates.specs.declared.Fate.{Fate}
use Rattle.fates.specs.declared.Fate.TheVariants.{RepeatedLabel, Unreachable, JumpToNext, LoadOverwritten}
use Rattle.fates.proofs.Lists.{increasing_up, among_sub}
use Rattle.fates.proofs.LeftCells.{sub₂, sub₃, sub₄, sub_left, cell_in, in_all, code_left, length-left}
use Rattle.fates.proofs.HandedBack.{Dropped, FateBy, HandedBack, handed_back}

-- ---- the instruction cells

-- what one of the sweeps takes is dropped
swept : (b₁ b₂ b₃ : Bool) (u : ℕ) → Dropped (cond (not b₁) RepeatedLabel (cond (not b₂) (Unreachable u) (cond (not b₃) JumpToNext LoadOverwritten)))
swept true true true u = (λ c. refl, refl)
swept true true false u = (λ c. refl, refl)
swept true false b₃ u = (λ c. refl, refl)
swept false b₂ b₃ u = (λ c. refl, refl)

module _ (first : ℕ) (cs : List Cell) where
  abbrev fate : ℕ → Fate
  fate = code_fate (see_in cs) (length cs) first

  abbrev left : List ℕ
  left = left₄ (see_in cs) (length cs)

  fate_by_lem : (k : ℕ) → FateBy (cell_in cs) fate unknown left k
  unfolding code_fate
  fate_by_lem k = (
    λ m₄.
        let m₃ = among_sub k (sub₄ see n) m₄ in
        let m₂ = among_sub k (sub₃ see n) m₃ in
        let m₁ = among_sub k (sub₂ see n) m₂ in
        rw (m₁, m₂, m₃, m₄),
    λ g. rw g (swept (among k (left₁ see n)) (among k (left₂ see n)) (among k (left₃ see n)) _),
  )
    where
      see : ℕ → Ins
      see = see_in cs

      n : ℕ
      n = length cs

  code_back : HandedBack (cell_in cs) fate unknown left (up_from 0 (length cs))
  code_back = handed_back (cell_in cs) fate (sub_left (see_in cs) (length cs)) unknown (increasing_up 0 (length cs)) (all_of (FateBy (cell_in cs) fate unknown left) fate_by_lem (up_from 0 (length cs)))

  code : all_back (code_fates first cs) cs ≡ rewrite_code default_rules cs
  unfolding code_fates rewrite_code fold_code
  code = ap (all_back (code_fates first cs)) (sym (in_all cs)) ∙ code_back.back ∙ ap (fold_code default_rules) (code_left cs)

  code_count_lem : all_counts (code_fates first cs) ≡ rewrite_count default_rules cs
  unfolding code_fates rewrite_count folds_of
  code_count_lem = omega (arith, code_back.count, ap (folds_of default_rules) (code_left cs), length-left cs, clean_count_lem cs, length_up_from 0 (length cs))

-- ---- the events

module _ (cs : List Cell) where
  events : (es : List Cell) → all_back (map (event_fate cs) es) es ≡ only (stays (removed view cs)) es
  events [] = refl
  events (e ∷ es) = by_test (stays (removed view cs) e) (λ y. rw y (ap (◌∷◌ e) (events es))) (λ y. rw y (events es))

  event_count_lem : (es : List Cell) → all_counts (map (event_fate cs) es) ≡ 0
  event_count_lem [] = refl
  event_count_lem (e ∷ es) = by_test (stays (removed view cs) e) (λ y. rw y (omega (arith, event_count_lem es))) (λ y. rw y (omega (arith, event_count_lem es)))

count_append : (xs ys : List Fate) → all_counts (xs ++ ys) ≡ all_counts xs + all_counts ys
count_append [] ys = omega arith
count_append (x ∷ xs) ys = omega (arith, count_append xs ys)

pub gives_back : AllGiveBack
unfolding function_fates code_fates event_fates clean_events
gives_back first f = record {
  one_each = simp (length-append, length-map, length_up_from);
  code = code first f.code ∙ sym (rewrite_code_lem default_rules f);
  events = events f.code f.events ∙ sym (rewrite_events default_rules f);
  count = omega (arith, count_append (code_fates first f.code) (event_fates f.code f.events), code_count_lem first f.code, event_count_lem f.code f.events);
}
