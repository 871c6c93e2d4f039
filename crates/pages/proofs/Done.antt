-- The promise of `pages` follows from the answer and the bytes.
use mathlib.Core.Path.{◌≡◌, refl, sym, ◌∙◌, ap}
use mathlib.Core.Logic.{◌↔◌}
use mathlib.Core.Bool.{true, true≢false}
use mathlib.Core.List.{List}
use Prim.Native.Nat.{ℕ, ◌≤◌, ◌<◌}
use native.Mathlib.Omega.{arith}
use borrow.Author.Tests.{leb-true, le-leb, lt-leb}
use lib.Dec.{leb}
use lib.ListN.{length, take}
use Rattle.cells.specs.declared.refusal.Refusal.{Refusal}
use Rattle.cells.proofs.Facts.{by_test, clash}
use Rattle.cells.proofs.Over.{over-take}
use Rattle.image.specs.SiteCheck.{site_answer, SitesPass}
use Rattle.image.proofs.Good.{site-good}
use Rattle.listing.specs.Promises.{TextWritten}
use Rattle.pages.specs.Pages.{pages_text}
use Rattle.pages.specs.Promises.{reply_of, is_laid, length_laid, answer_as, pages_answer, pages_output, PagesDone}
use Rattle.pages.proofs.Lines.{whole_lines, text_size, most_lines_lem}
use Rattle.std.specs.Prelude.{Ok, Err}
use Rattle.cells.specs.Checked.{Checked}
use Rattle.pages.specs.Answer.{Paged}
use Rattle.pages.specs.declared.PagesError.TheVariants.{Refused, TooShort}

-- ---- the answer in each case

module _ (s : List ℕ) (room : ℕ) where
  refused-answer : (x : Refusal) → site_answer s ≡ Err x → pages_answer s room ≡ Err (Refused x)
  unfolding pages_answer
  refused-answer x g = rw g

  short_answer : site_answer s ≡ Ok tt → room < length (pages_text s) → pages_answer s room ≡ Err TooShort
  unfolding pages_answer
  short_answer g h = rw (g, lt-leb (length (pages_text s)) room h)

  pub laid_answer : site_answer s ≡ Ok tt → length (pages_text s) ≤ room → pages_answer s room ≡ Ok (length (pages_text s))
  unfolding pages_answer
  laid_answer g h = rw (g, le-leb (length (pages_text s)) room h)

  laid_if : (a : Checked) → site_answer s ≡ a → (is_laid (answer_as a (length (pages_text s)) room) ≡ true) ↔ (SitesPass s × (length (pages_text s) ≤ room))
  laid_if (Err x) e = (
    (λ f. absurd (true≢false (sym f))),
    (λ g. let f : Err x ≡ Ok tt = sym e ∙ (site-good s).1 g.0 in let z : ◌≡◌ {A = ℕ} 0 1 = cc in absurd (omega arith)),
  )
  laid_if (Ok tt) e =
      let n = length (pages_text s) in
      by_test (leb n room)
      (λ t. ((λ f. ((site-good s).0 e, leb-true n room t)), (λ g. rw t)))
      (λ t. ((λ f. absurd (true≢false (sym (rw t at f)))), (λ g. clash (leb n room) (le-leb n room g.1) t)))

  pub laid_exactly : (is_laid (pages_answer s room) ≡ true) ↔ (SitesPass s × (length (pages_text s) ≤ room))
  unfolding pages_answer
  laid_exactly = laid_if (site_answer s) refl

-- what a success writes
pub laid_text_lem : (s before : List ℕ) → is_laid (pages_answer s (length before)) ≡ true → take (length_laid (pages_answer s (length before))) (pages_output s before) ≡ pages_text s
unfolding pages_output
laid_text_lem s before h =
    let g = (laid_exactly s (length before)).0 h in
    let e = laid_answer s (length before) ((site-good s).1 g.0) g.1 in
    rw e (over-take (pages_text s) before)

-- ---- the promise

pub pages_done : (s before after : List ℕ) (r : Paged) → r ≡ pages_answer s (length before) → after ≡ pages_output s before → PagesDone s before after r
pages_done s before after r e f = record {
  answer = e;
  reply = ap reply_of e;
  bytes = f;
  accepted = rw e (laid_exactly s (length before));
  written = λ h. rw (e, f) (laid_text_lem s before (rw e at h));
  lines = λ g. whole_lines s g;
  size = λ g. text_size s g;
  most = λ g. most_lines_lem s g;
}

module _ (s before : List ℕ) where
  pub pages_refused : (r : Checked) (x : Refusal) → r ≡ site_answer s → r ≡ Err x → PagesDone s before before (Err (Refused x))
  unfolding pages_output
  pages_refused r x e f =
      let a = refused-answer s (length before) x (sym e ∙ f) in
      pages_done s before before (Err (Refused x)) (sym a) (rw a)

  pub pages_short : site_answer s ≡ Ok tt → length before < length (pages_text s) → PagesDone s before before (Err TooShort)
  unfolding pages_output
  pages_short g h =
      let a = short_answer s (length before) g h in
      pages_done s before before (Err TooShort) (sym a) (rw a)

  pub pages_laid : site_answer s ≡ Ok tt → length (pages_text s) ≤ length before → {after : List ℕ} {r : ℕ} → TextWritten (pages_text s) before after r → PagesDone s before after (Ok r)
  unfolding pages_output
  pages_laid g h {after} {r} w =
      let a = laid_answer s (length before) g h in
      pages_done s before after (Ok r) (ap Ok w.end ∙ sym a) (rw a w.bytes)
