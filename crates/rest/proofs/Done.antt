-- The promises of the rewrite until it rests follow from the answer and the bytes, by either rule set.
use mathlib.Core.Path.{◌≡◌, refl, sym, ◌∙◌, ap, ap₂}
use mathlib.Core.Logic.{◌↔◌}
use mathlib.Core.Bool.{true, true≢false}
use mathlib.Core.List.{List, [], ◌∷◌}
use Prim.Native.Nat.{ℕ, ◌≤◌}
use native.Mathlib.Omega.{arith}
use lib.ListN.{length, take}
use Rattle.cells.specs.Cells.{cells, over}
use Rattle.cells.specs.Functions.{Function, functions}
use Rattle.cells.specs.declared.refusal.Refusal.{Refusal}
use Rattle.cells.proofs.Over.{over-take}
use Rattle.machine.specs.Records.{SameRecords}
use Rattle.machine.proofs.Growth.{same_trans}
use Rattle.cleanup.specs.Premise.{OnePlace}
use Rattle.crystalfold.specs.Rules.{rules_of}
use Rattle.crystalfold.specs.declared.rules.RuleSet.{RuleSet}
use Rattle.rewrite.specs.Claim.{program}
use Rattle.rewrite.specs.Rewrite.{rewrite_function}
use Rattle.rewrite.proofs.KeepsPlaces.{rewrite_one_place}
use Rattle.rewrite.proofs.Records.{set_claim}
use Rattle.rewrite.proofs.RewritePasses.{rewrite_code_lem}
use Rattle.image.specs.SiteCheck.{SitesPass}
use Rattle.passes.specs.Promises.{reply_of, is_written, length_written, Each}
use Rattle.passes.specs.Passes.{pass_bytes, pass_count, pass_check, answer_as, output_as, pass_answer, pass_output, report}
use Rattle.passes.specs.declared.Pass.TheVariants.{Both}
use Rattle.passes.proofs.Done.{check_good, bytes_shorter}
use Rattle.rest.specs.Rounds.{image_after, rest_bytes, rest_count, rest_answer, rest_output}
use Rattle.rest.specs.Promises.{RoundDone, AtRest, Rested, RestDone, EitherRests}
use Rattle.rest.proofs.Still.{all}
use Rattle.rest.proofs.Rounds.{rounds_pass, rounds_preserved, twice_functions, third_zero, third_same, within_three, rest_bytes_lem}
use Rattle.std.specs.Prelude.{Ok, Err}
use Rattle.cells.specs.Checked.{Checked}
use Rattle.passes.specs.Rewrite.{Rewrite}

module _ (k : RuleSet) where
  -- ---- each function

  twice : Function → Function
  twice g = rewrite_function (rules_of k) (rewrite_function (rules_of k) g)

  place_kept : (g : Function) → OnePlace (program g) → OnePlace (program (rewrite_function (rules_of k) g))
  place_kept g o = rw (rewrite_code_lem (rules_of k) g) (rewrite_one_place (rules_of k) g.code o)

  -- the records of both rounds
  twice_records : (g : Function) → OnePlace (program g) → SameRecords (program g) (program (twice g))
  unfolding twice
  twice_records g o =
      let h : Function = rewrite_function (rules_of k) g in
      same_trans (program g) (program h) (program (twice g)) ((set_claim k g).records o) ((set_claim k h).records (place_kept g o))

  each_rested : (fs : List Function) → Each (Rested (rules_of k)) fs (all (rules_of k) (all (rules_of k) fs))
  unfolding twice
  each_rested [] = tt
  each_rested (g ∷ fs) = (record { returned = refl; records = twice_records g }, each_rested fs)

  -- ---- a round, and a further rewrite of what two rounds hand back

  round_done : (s : List ℕ) (n : ℕ) (lent : List ℕ) → SitesPass s → length (image_after k n s) ≤ length lent → RoundDone k s n lent
  unfolding pass_answer pass_output
  round_done s n lent g l =
      let c : pass_check (image_after k n s) (length lent) ≡ Ok tt = (check_good (image_after k n s) (length lent)).1 (rounds_pass k s g n, l) in
      record { answer = rw c; bytes = rw c }

  at_rest : (s lent : List ℕ) → SitesPass s → length (image_after k 2 s) ≤ length lent → AtRest k (image_after k 2 s) lent
  at_rest s lent g l =
      let d : RoundDone k s 2 lent = round_done s 2 lent g l in
      record {
        answer = d.answer ∙ ap₂ (λ (n m : ℕ). Ok (record { length = n; report = (report m) })) (ap length (third_same k s g)) (third_zero k s g);
        bytes = d.bytes ∙ ap (λ (z : List ℕ). over z lent) (third_same k s g);
      }

  -- ---- the promises

  record Facts (s before after : List ℕ) (r : Rewrite) : Type 0 where
    accepted : (is_written r ≡ true) ↔ (SitesPass s × (length s ≤ length before))
    refused : (x : Refusal) → (r ≡ Err x) ↔ (pass_answer (Both k) s (length before) ≡ Err x)
    shorter : length_written r ≤ length s
    written : is_written r ≡ true → take (length_written r) after ≡ pass_bytes (Both k) (pass_bytes (Both k) s)
    size : is_written r ≡ true → length_written r ≡ length (pass_bytes (Both k) (pass_bytes (Both k) s))

  refused_apart : (n m : ℕ) (x : Refusal) → ◌≡◌ {A = Rewrite} (Ok (record { length = n; report = (report m) })) (Err x) → ⊥
  refused_apart n m x e = let z : ◌≡◌ {A = ℕ} 0 1 = cc in omega arith

  facts : (s before : List ℕ) (a : Checked) → pass_check s (length before) ≡ a
      → Facts s before (output_as a (rest_bytes k s) before) (answer_as a (length (rest_bytes k s)) (rest_count k s))
  unfolding pass_answer
  facts s before (Err y) e = record {
    accepted = (
      (λ f. absurd (true≢false (sym f))),
      (λ g. let f : Err y ≡ Ok tt = sym e ∙ (check_good s (length before)).1 g in let z : ◌≡◌ {A = ℕ} 0 1 = cc in absurd (omega arith)),
    );
    refused = λ x. ((λ f. rw e f), (λ f. rw e at f));
    shorter = omega arith;
    written = λ f. absurd (true≢false (sym f));
    size = λ f. absurd (true≢false (sym f));
  }
  facts s before (Ok tt) e =
      let g = (check_good s (length before)).0 e in
      let s₁ : List ℕ = pass_bytes (Both k) s in
      let b : rest_bytes k s ≡ pass_bytes (Both k) s₁ = rest_bytes_lem k s g.0 in
      record {
        accepted = ((λ f. g), (λ h. refl));
        refused = λ x. ((λ f. absurd (refused_apart (length (rest_bytes k s)) (rest_count k s) x f)), (λ f. absurd (refused_apart (length s₁) (pass_count (Both k) s) x (rw e at f))));
        shorter = omega (arith, ap length b, bytes_shorter (Both k) s g.0, bytes_shorter (Both k) s₁ (rounds_pass k s g.0 1));
        written = λ f. over-take (rest_bytes k s) before ∙ b;
        size = λ f. ap length b;
      }

pub rest_done : (k : RuleSet) (s before after : List ℕ) (r : Rewrite) → r ≡ rest_answer k s (length before) → after ≡ rest_output k s before
    → RestDone k s before after r
unfolding rest_answer rest_output
rest_done k s before after r e f =
    let v : Facts k s before after r = rw (e, f) (facts k s before (pass_check s (length before)) refl) in
    let pass : is_written r ≡ true → SitesPass s = λ w. (v.accepted.0 w).0 in
    record {
      answer = e;
      reply = ap reply_of e;
      bytes = f;
      accepted = v.accepted;
      refused = v.refused;
      each_round = λ w n lent. round_done k s n lent (pass w);
      rounds = λ w. within_three k s (pass w);
      twice = v.written;
      shorter = v.shorter;
      again = λ w. rw (v.written w) (rounds_pass k s (pass w) 2);
      rests = λ w lent l. rw (v.written w) (at_rest k s lent (pass w) (omega (arith, v.size w, l)));
      preserved = λ w. rounds_preserved k s (pass w);
      records = λ w. rw (v.written w, twice_functions k s (pass w)) (each_rested k (functions (cells s)));
    }

pub either_rests : EitherRests
either_rests k s before = rest_done k s before (rest_output k s before) (rest_answer k s (length before)) refl refl
