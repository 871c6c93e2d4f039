-- What the contract of `pages` gives the program: the pages, or the refusal; its buffer is never too short.
use mathlib.Core.Path.{◌≡◌, refl, sym, ◌∙◌, ap}
use mathlib.Core.List.{List}
use Prim.Native.Nat.{ℕ, ◌≤◌, ◌<◌}
use native.Mathlib.Omega.{arith}
use borrow.Author.Tests.{leb-false}
use lib.Dec.{leb}
use lib.ListN.{length}
use Rattle.input.specs.Prefix.{IsPrefixLen}
use Rattle.cells.specs.declared.refusal.Refusal.{Refusal}
use Rattle.cells.proofs.Facts.{by_test}
use Rattle.image.specs.SiteCheck.{site_answer}
use Rattle.image.proofs.Good.{site-good}
use Rattle.listing.specs.Promises.{TextWritten}
use Rattle.pages.specs.Pages.{pages_text}
use Rattle.pages.specs.Promises.{length_laid, answer_as, pages_answer, pages_output, PagesDone}
use Rattle.pages.proofs.Done.{laid_answer}
use Rattle.matchdesk.specs.Program.{laid_text}
use Rattle.matchdesk.proofs.Texts.{counted}
use Rattle.std.specs.Prelude.{Ok, Err}
use Rattle.cells.specs.Checked.{Checked}
use Rattle.pages.specs.Answer.{Paged}
use Rattle.pages.specs.declared.PagesError.TheVariants.{Refused, TooShort}

refused-only : (a : Checked) (n room : ℕ) (x : Refusal) → answer_as a n room ≡ Err (Refused x) → a ≡ Err x
refused-only (Ok tt) n room x e =
    by_test (leb n room) (λ t. let f : Ok n ≡ Err (Refused x) = rw t at e in let z : ◌≡◌ {A = ℕ} 0 1 = cc in absurd (omega arith))
    (λ t. let f : Err TooShort ≡ Err (Refused x) = rw t at e in let z : ◌≡◌ {A = ℕ} 0 1 = cc in absurd (omega arith))
refused-only (Err y) n room x e = cc

short_only : (a : Checked) (n room : ℕ) → answer_as a n room ≡ Err TooShort → (a ≡ Ok tt) × (room < n)
short_only (Ok tt) n room e =
    by_test (leb n room) (λ t. let f : Ok n ≡ Err TooShort = rw t at e in let z : ◌≡◌ {A = ℕ} 0 1 = cc in absurd (omega arith))
    (λ t. (refl, leb-false n room t))
short_only (Err y) n room e = let z : ◌≡◌ {A = ℕ} 0 1 = cc in absurd (omega arith)

module _ {s before after : List ℕ} where
  pub laid_good : {n : ℕ} {r : Paged} → PagesDone s before after r → r ≡ Ok n → IsPrefixLen n after × TextWritten (laid_text (site_answer s) (pages_text s)) before after n
  unfolding pages_output
  laid_good {n} {r} w e =
      let g = w.accepted.0 (rw e) in
      let a = (site-good s).1 g.0 in
      let l = laid_answer s (length before) a g.1 in
      let m : n ≡ length (pages_text s) = ap length_laid (sym e ∙ w.answer ∙ l) in
      let v : TextWritten (pages_text s) before after n = record { end = m; bytes = w.bytes ∙ rw l } in
      (counted v g.1, rw a v)

  pub laid_refused : {x : Refusal} {r : Paged} → PagesDone s before after r → r ≡ Err (Refused x) → (site_answer s ≡ Err x) × (after ≡ before)
  unfolding pages_answer pages_output
  laid_refused {x} {r} w e =
      let a = refused-only (site_answer s) (length (pages_text s)) (length before) x (sym w.answer ∙ e) in
      (a, w.bytes ∙ rw a)

  pub laid_never : {r : Paged} → PagesDone s before after r → r ≡ Err TooShort → 242382 ≤ length before → ⊥
  unfolding pages_answer
  laid_never {r} w e h =
      let a = short_only (site_answer s) (length (pages_text s)) (length before) (sym w.answer ∙ e) in
      let g = (site-good s).0 a.0 in
      omega (arith, a.1, w.size g, w.most g)
