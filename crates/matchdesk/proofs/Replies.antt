-- What a rewrite's contract gives the program: the bytes that an accepted image is rewritten to, and what is said of each answer. The same holds of
-- one rewrite and of rounds of it: both answer by one check, and write bytes of their own where it passes.
use mathlib.Core.Path.{◌≡◌, refl, sym, ◌∙◌, ap}
use mathlib.Core.Bool.{true}
use mathlib.Core.List.{List}
use mathlib.Core.Logic.{◌↔◌}
use Prim.Native.Nat.{ℕ, ◌≤◌}
use native.Mathlib.Omega.{arith}
use lib.ListN.{length}
use Rattle.cells.specs.Cells.{over}
use Rattle.cells.specs.Check.{max_image}
use Rattle.cells.specs.declared.refusal.Refusal.{Refusal}
use Rattle.cells.proofs.Over.{over-take}
use Rattle.image.specs.SiteCheck.{SitesPass}
use Rattle.passes.specs.Passes.{pass_bytes, pass_count, pass_check, answer_as, output_as, pass_answer, pass_output}
use Rattle.passes.specs.Promises.{is_written, length_written, PassDone}
use Rattle.passes.specs.declared.Written.{Written}
use Rattle.passes.specs.declared.Pass.{Pass}
use Rattle.crystalfold.specs.declared.rules.RuleSet.{RuleSet}
use Rattle.rest.specs.Promises.{RestDone}
use Rattle.rest.specs.Rounds.{rest_bytes, rest_count, rest_answer, rest_output}
use Rattle.matchdesk.specs.Program.{written}
use Rattle.matchdesk.specs.Promises.{Fits}
use Rattle.std.specs.Prelude.{Ok, Err}
use Rattle.cells.specs.Checked.{Checked}
use Rattle.passes.specs.Rewrite.{Rewrite}

written-only : (a : Checked) (m count : ℕ) (w : Written) → answer_as a m count ≡ Ok w → (a ≡ Ok tt) × (m ≡ w.length)
written-only (Ok tt) m count w e = (refl, ap length_written e)
written-only (Err x) m count w e = let z : ◌≡◌ {A = ℕ} 0 1 = cc in absurd (omega arith)

module _ (image before after : List ℕ) where
  -- the answer lies within the output, and its text within a buffer
  fits : (r : Rewrite) → ((is_written r ≡ true) ↔ (SitesPass image × (length image ≤ length before))) → length_written r ≤ length image
      → length after ≡ length before → (output : List ℕ) → 242382 ≤ length output → Fits r after output
  fits (Ok w) accepted s l output h =
      let g = accepted.0 refl in
      record { within = omega (arith, s, g.1); most = omega (arith, s, g.0.image.short); room = h }
  fits (Err x) accepted s l output h = record { within = omega arith; most = omega arith; room = h }

  -- what goes by an answer, and by the bytes written where it has any, is what the definitions give: `new` are the bytes of an accepted image
  said_of : (new : List ℕ) (count : ℕ) {X : Type 0} (f : Rewrite → List ℕ → X) → ((x : Refusal) (s t : List ℕ) → f (Err x) s ≡ f (Err x) t) → (r : Rewrite)
      → r ≡ answer_as (pass_check image (length before)) (length new) count → after ≡ output_as (pass_check image (length before)) new before → length before ≡ max_image
      → f (answer_as (pass_check image max_image) (length new) count) new ≡ f r (written r after)
  said_of new count f same (Ok w) a b h =
      let t = written-only (pass_check image (length before)) (length new) count w (sym a) in
      let o : after ≡ over new before = b ∙ ap (λ (c : Checked). output_as c new before) t.0 in
      let e : answer_as (pass_check image max_image) (length new) count ≡ Ok w = rw (← h) (sym a) in
      rw (e, o, ← t.1, over-take new before)
  said_of new count f same (Err x) a b h =
      let e : answer_as (pass_check image max_image) (length new) count ≡ Err x = rw (← h) (sym a) in
      rw e (same x new (written (Err x) after))

  -- ---- one rewrite

  pub reply_fits : (p : Pass) (r : Rewrite) → PassDone p image before after r → length after ≡ length before → (output : List ℕ) → 242382 ≤ length output → Fits r after output
  reply_fits p r w = fits r w.accepted w.shorter

  pub said : (p : Pass) {X : Type 0} (f : Rewrite → List ℕ → X) → ((x : Refusal) (s t : List ℕ) → f (Err x) s ≡ f (Err x) t) → (r : Rewrite)
      → PassDone p image before after r → length before ≡ max_image → f (pass_answer p image max_image) (pass_bytes p image) ≡ f r (written r after)
  unfolding pass_answer pass_output
  said p f same r w = said_of (pass_bytes p image) (pass_count p image) f same r w.answer w.bytes

  -- ---- rounds of it

  pub rest_fits : (k : RuleSet) (r : Rewrite) → RestDone k image before after r → length after ≡ length before → (output : List ℕ) → 242382 ≤ length output → Fits r after output
  rest_fits k r w = fits r w.accepted w.shorter

  pub rest_said : (k : RuleSet) {X : Type 0} (f : Rewrite → List ℕ → X) → ((x : Refusal) (s t : List ℕ) → f (Err x) s ≡ f (Err x) t) → (r : Rewrite)
      → RestDone k image before after r → length before ≡ max_image → f (rest_answer k image max_image) (rest_bytes k image) ≡ f r (written r after)
  unfolding rest_answer rest_output
  rest_said k f same r w = said_of (rest_bytes k image) (rest_count k image) f same r w.answer w.bytes
