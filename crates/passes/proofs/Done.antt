-- The promises of the operations follow from the answer and the bytes.
use mathlib.Core.Path.{◌≡◌, refl, sym, ◌∙◌, ap}
use mathlib.Core.Logic.{◌↔◌}
use mathlib.Core.Bool.{Bool, true, false, cond, true≢false}
use mathlib.Core.List.{List, [], ◌∷◌, map}
use Prim.Native.Nat.{ℕ, ◌*◌, ◌/◌, ◌≤◌}
use native.Mathlib.Omega.{arith}
use borrow.Author.Tests.{le-leb, leb-true}
use lib.Dec.{leb}
use lib.ListN.{length, take, length-append}
use Rattle.cells.specs.Answers.{or_else, unless}
use Rattle.cells.specs.Cells.{cells, flat}
use Rattle.cells.specs.Functions.{Function, functions, cells_of, cells_of_all}
use Rattle.cells.specs.WellFormed.{WellFormed}
use Rattle.cells.specs.declared.refusal.Refusal.TheVariants.{Length, OutputTooShort}
use Rattle.cells.proofs.Answers.{or_left, or_right, or-both}
use Rattle.cells.proofs.Cells.{length-flat, length-cells}
use Rattle.cells.proofs.Functions.{cells_of_functions}
use Rattle.cells.specs.Lists.{All}
use Rattle.cells.proofs.Over.{over-take}
use Rattle.cleanup.specs.Cleanup.{clean_function, clean_count}
use Rattle.cleanup.proofs.CleanWellFormed.{clean_well_formed, clean_cells-fewer}
use Rattle.cleanup.proofs.CleanupCounts.{clean_count_lem}
use Rattle.cleanup.proofs.CleanupPasses.{clean_function_passes}
use Rattle.crystalfold.specs.Rules.{rules_of}
use Rattle.crystalfold.specs.CrystalFold.{fold_function, folds_of}
use Rattle.crystalfold.specs.declared.rules.RuleSet.{RuleSet}
use Rattle.crystalfold.proofs.FoldCounts.{folds_few}
use Rattle.crystalfold.proofs.FoldPasses.{fold-function_passes}
use Rattle.crystalfold.proofs.FoldWellFormed.{fold_well_formed, fold-cells}
use Rattle.rewrite.specs.AllFunctions.{sum_of}
use Rattle.rewrite.specs.Claim.{Rewritten}
use Rattle.rewrite.specs.Preserved.{Preserved}
use Rattle.rewrite.specs.Rewrite.{rewrite_function, rewrite_count}
use Rattle.rewrite.proofs.EachFunction.{all_each, count_each, count_few}
use Rattle.rewrite.proofs.Records.{set_claim}
use Rattle.rewrite.proofs.RewriteCounts.{rewrite_cells-fewer, rewrite_few}
use Rattle.rewrite.proofs.RewritePreserves.{preserved}
use Rattle.rewrite.proofs.RewritePasses.{rewrite_passes, rewrite_well_formed}
use Rattle.sites.specs.Validators.{site_check}
use Rattle.image.specs.Image.{good_length, GoodImage}
use Rattle.image.specs.SiteCheck.{site_answer, GoodSites, SitesPass}
use Rattle.image.proofs.Again.{all_full, image_formed, handed, handed_formed, handed_functions, handed_shorter, sites_again}
use Rattle.image.proofs.Good.{site-good}
use Rattle.passes.specs.Passes.{pass_all, count_all, pass_bytes, pass_count, pass_check, answer_as, output_as, pass_answer, pass_output}
use Rattle.passes.specs.Promises.{reply_of, is_written, length_written, Each, PassDone, RewriteDone}
use Rattle.passes.specs.declared.Pass.{Pass}
use Rattle.passes.specs.declared.Pass.TheVariants.{Cleanup, CrystalFold, Both}
use Rattle.std.specs.Prelude.{Ok, Err}
use Rattle.cells.specs.Checked.{Checked}
use Rattle.passes.specs.Rewrite.{Rewrite}

-- ---- a pass goes function by function, and keeps each well-formed, no longer, and good in its sites

abbrev pub pass_one : Pass → Function → Function
pass_one Cleanup f = clean_function f
pass_one (CrystalFold k) f = fold_function (rules_of k) f
pass_one (Both k) f = rewrite_function (rules_of k) f

abbrev pub count_one : Pass → Function → ℕ
count_one Cleanup f = clean_count f.code
count_one (CrystalFold k) f = folds_of (rules_of k) f.code
count_one (Both k) f = rewrite_count (rules_of k) f.code

pub pass_map : (p : Pass) (fs : List Function) → pass_all p fs ≡ map (pass_one p) fs
pass_map Cleanup fs = refl
pass_map (CrystalFold k) fs = refl
pass_map (Both k) fs = all_each (rules_of k) fs

pub pass_sum : (p : Pass) (fs : List Function) → count_all p fs ≡ sum_of (count_one p) fs
pass_sum Cleanup fs = refl
pass_sum (CrystalFold k) fs = refl
pass_sum (Both k) fs = count_each (rules_of k) fs

pub one_formed : (p : Pass) (f : Function) → WellFormed f → WellFormed (pass_one p f)
one_formed Cleanup f w = clean_well_formed f w
one_formed (CrystalFold k) f w = fold_well_formed (rules_of k) f w
one_formed (Both k) f w = rewrite_well_formed (rules_of k) f w

pub one_fewer : (p : Pass) (f : Function) → length (cells_of (pass_one p f)) ≤ length (cells_of f)
one_fewer Cleanup f = clean_cells-fewer f
one_fewer (CrystalFold k) f = omega (arith, fold-cells (rules_of k) f)
one_fewer (Both k) f = rewrite_cells-fewer (rules_of k) f

-- and it counts no more than the instructions
pub one_few : (p : Pass) (f : Function) → count_one p f ≤ length f.code
one_few Cleanup f = omega (arith, clean_count_lem f.code)
one_few (CrystalFold k) f = folds_few (rules_of k) f.code
one_few (Both k) f = rewrite_few (rules_of k) f.code

one_passes : (p : Pass) (position : ℕ) (f : Function) → site_check position f.code f.events ≡ Ok tt
    → site_check position (pass_one p f).code (pass_one p f).events ≡ Ok tt
one_passes Cleanup position f e = clean_function_passes position f e
one_passes (CrystalFold k) position f e = fold-function_passes (rules_of k) position f e
one_passes (Both k) position f e = rewrite_passes (rules_of k) position f e

-- ---- the image that a pass makes of one that passes the site check

bytes_are : (p : Pass) (s : List ℕ) → pass_bytes p s ≡ handed (pass_one p) (one_formed p) (one_fewer p) s
unfolding pass_bytes
bytes_are p s = ap (λ (fs : List Function). flat (cells_of_all fs)) (pass_map p (functions (cells s)))

module _ (p : Pass) (s : List ℕ) (g : SitesPass s) where
  pub bytes_shorter : length (pass_bytes p s) ≤ length s
  bytes_shorter = rw (bytes_are p s) (handed_shorter (pass_one p) (one_formed p) (one_fewer p) s g.image)

  -- its length, in cells
  pub bytes-length : length (pass_bytes p s) ≡ 16 * length (cells_of_all (pass_all p (functions (cells s))))
  unfolding pass_bytes
  bytes-length =
      let fs : List Function = functions (cells s) in
      let w : All WellFormed (pass_all p fs) = rw (pass_map p fs) (handed_formed (pass_one p) (one_formed p) (one_fewer p) s g.image) in
      length-flat (cells_of_all (pass_all p fs)) (all_full (pass_all p fs) w)

  pub bytes_again : SitesPass (pass_bytes p s)
  bytes_again = rw (bytes_are p s) (sites_again (pass_one p) (one_formed p) (one_fewer p) (one_passes p) s g)

  pub bytes-functions : functions (cells (pass_bytes p s)) ≡ pass_all p (functions (cells s))
  bytes-functions =
      ap (λ (t : List ℕ). functions (cells t)) (bytes_are p s)
      ∙ handed_functions (pass_one p) (one_formed p) (one_fewer p) s g.image ∙ sym (pass_map p (functions (cells s)))

-- the whole rewrite counts no more than there are bytes
code_few : (fs : List Function) → sum_of (λ (g : Function). length g.code) fs ≤ length (cells_of_all fs)
code_few [] = omega arith
code_few (g ∷ fs) = omega (arith, length-append (cells_of g) (cells_of_all fs), length-append g.code g.events, code_few fs)

pub pass_few : (k : RuleSet) (s : List ℕ) → pass_count (Both k) s ≤ length s
unfolding pass_count
pass_few k s =
    let fs : List Function = functions (cells s) in
    let n : length (cells_of_all fs) ≡ length s / 16 = ap length (cells_of_functions (cells s)) ∙ length-cells s in
    omega (arith, count_few (rules_of k) fs, code_few fs, n)

-- ---- the check passes exactly if the image passes the site check and the output is long enough

long_enough : (s : List ℕ) → GoodImage s → good_length s ≡ true
long_enough s g = simp (le-leb _ _ g.short, g.even)

by_length : (t : Bool) (a : Checked) → cond t a (Err Length) ≡ Ok tt → a ≡ Ok tt
by_length true a e = e
by_length false a e = let z : ◌≡◌ {A = ℕ} 0 1 = cc in absurd (omega arith)

by_room : (t : Bool) → unless t OutputTooShort ≡ Ok tt → t ≡ true
by_room true e = refl
by_room false e = let z : ◌≡◌ {A = ℕ} 0 1 = cc in absurd (omega arith)

pub check_good : (s : List ℕ) (n : ℕ) → (pass_check s n ≡ Ok tt) ↔ (SitesPass s × (length s ≤ n))
unfolding pass_check
check_good s n =
    let room = unless (leb (length s) n) OutputTooShort in (
      (λ e. let h = by_length (good_length s) (or_else room (site_answer s)) e in
          ((site-good s).0 (or_right room (site_answer s) h), leb-true _ _ (by_room (leb (length s) n) (or_left room (site_answer s) h)))),
      (λ g. rw (long_enough s g.0.image, le-leb (length s) n g.1, (site-good s).1 g.0)),
    )

-- ---- the promises

record Facts (p : Pass) (s before after : List ℕ) (r : Rewrite) : Type 0 where
  accepted : (is_written r ≡ true) ↔ (SitesPass s × (length s ≤ length before))
  shorter : length_written r ≤ length s
  again : is_written r ≡ true → SitesPass (take (length_written r) after)
  functions_back : is_written r ≡ true → functions (cells (take (length_written r) after)) ≡ pass_all p (functions (cells s))

facts : (p : Pass) (s before : List ℕ) (a : Checked) → pass_check s (length before) ≡ a
    → Facts p s before (output_as a (pass_bytes p s) before) (answer_as a (length (pass_bytes p s)) (pass_count p s))
facts p s before (Err x) e = record {
  accepted = (
    (λ f. absurd (true≢false (sym f))),
    (λ g. let f : Err x ≡ Ok tt = sym e ∙ (check_good s (length before)).1 g in let z : ◌≡◌ {A = ℕ} 0 1 = cc in absurd (omega arith)),
  );
  shorter = omega arith;
  again = λ f. absurd (true≢false (sym f));
  functions_back = λ f. absurd (true≢false (sym f));
}
facts p s before (Ok tt) e =
    let g = (check_good s (length before)).0 e in
    let t = over-take (pass_bytes p s) before in
    record {
      accepted = ((λ f. g), (λ h. refl));
      shorter = bytes_shorter p s g.0;
      again = λ f. rw t (bytes_again p s g.0);
      functions_back = λ f. ap (λ (u : List ℕ). functions (cells u)) t ∙ bytes-functions p s g.0;
    }

pub pass_done : (p : Pass) (s before after : List ℕ) (r : Rewrite) → r ≡ pass_answer p s (length before) → after ≡ pass_output p s before
    → PassDone p s before after r
unfolding pass_answer pass_output
pass_done p s before after r e f =
    let k : Facts p s before after r = rw (e, f) (facts p s before (pass_check s (length before)) refl) in
    record {
      answer = e;
      reply = ap reply_of e;
      bytes = f;
      accepted = k.accepted;
      shorter = k.shorter;
      again = k.again;
      functions_back = k.functions_back;
    }

-- each function of the whole rewrite, at its position
each_claim : (k : RuleSet) (fs : List Function) → Each (Rewritten (rules_of k)) fs (map (rewrite_function (rules_of k)) fs)
each_claim k [] = tt
each_claim k (f ∷ fs) = (set_claim k f, each_claim k fs)

-- of every function of an accepted image
pub each_preserved : (k : RuleSet) (fs : List Function) → All WellFormed fs → All GoodSites fs → All (Preserved (rules_of k)) fs
each_preserved k [] w g = tt
each_preserved k (f ∷ fs) w g =
    (preserved (rules_of k) f 0 w.0 (or-both _ _ (g.0.activation 0) (g.0.write 0)), each_preserved k fs w.1 g.1)

pub rewrite_done : (k : RuleSet) (s before after : List ℕ) (r : Rewrite) → PassDone (Both k) s before after r → RewriteDone k s before after r
rewrite_done k s before after r d = record {
  done = d;
  preserved = λ f. let g = (d.accepted.0 f).0 in each_preserved k (functions (cells s)) (image_formed s g.image) g.sites;
  records = λ f. rw (d.functions_back f, all_each (rules_of k) (functions (cells s))) (each_claim k (functions (cells s)));
}
