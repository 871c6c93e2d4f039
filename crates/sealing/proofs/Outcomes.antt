-- The sealing check's answer is one of four, each with what it means; the contract follows.
use mathlib.Core.Path.{◌≡◌, refl, ap, sym, ◌∙◌}
use mathlib.Core.Logic.{◌↔◌}
use mathlib.Core.List.{List}
use Prim.Native.Nat.{ℕ}
use Rattle.cells.specs.Cells.{cells}
use Rattle.cells.specs.Functions.{Function, functions}
use Rattle.cells.specs.declared.refusal.Refusal.{Refusal}
use Rattle.sites.specs.declared.Which.{Which}
use Rattle.sites.specs.declared.Which.TheVariants.{Activation, Write}
use Rattle.image.specs.SiteCheck.{site_answer, SitesPass}
use Rattle.image.proofs.Good.{site-good}
use Rattle.sealing.specs.Sealing.{numbering_answer, or_next, as_checked, sealing_answer}
use Rattle.sealing.specs.Promises.{InOneFunction, SealingPass, FirstRepeat, SealingChecked}
use Rattle.sealing.proofs.Numbering.{numbering_good, numbering_repeats, by_numbering}
use Rattle.std.specs.Prelude.{Ok, Err}
use Rattle.cells.specs.Checked.{Checked}
use Rattle.sealing.specs.Answer.{Sealing}
use Rattle.sealing.specs.declared.SealingError.TheVariants.{Refused, Repeated}

-- what passes, for both kinds of numbers at once
pub sealing_pass : (s : List ℕ) → SitesPass s → ((w : Which) → InOneFunction w (functions (cells s))) → SealingPass s
sealing_pass s g h = record { sites = g; activation = h Activation; write = h Write }

pub in_one-function : (s : List ℕ) → SealingPass s → (w : Which) → InOneFunction w (functions (cells s))
in_one-function s g Activation = g.activation
in_one-function s g Write = g.write

-- what is said one after another: by the site check, then of activation numbers, then of write numbers
abbrev said : Checked → Sealing → Sealing → Sealing
said c a b = or_next (as_checked c) (or_next a b)

pub answered : (s : List ℕ) {c : Checked} {a b : Sealing} → site_answer s ≡ c → numbering_answer Activation (functions (cells s)) ≡ a
    → numbering_answer Write (functions (cells s)) ≡ b → sealing_answer s ≡ said c a b
unfolding sealing_answer
answered s e f g = rw (e, f, g)

module _ (s : List ℕ) where
  abbrev fs : List Function
  fs = functions (cells s)

  pub site-refuses : (x : Refusal) → site_answer s ≡ Err x → sealing_answer s ≡ Err (Refused x)
  site-refuses x e = answered s e refl refl

  activation_repeats : (p x : ℕ) → SitesPass s → FirstRepeat Activation fs p x → sealing_answer s ≡ Err (Repeated Activation p x)
  activation_repeats p x g r = answered s ((site-good s).1 g) ((numbering_repeats Activation fs p x).1 r) refl

  write_repeats : (p x : ℕ) → SitesPass s → InOneFunction Activation fs → FirstRepeat Write fs p x → sealing_answer s ≡ Err (Repeated Write p x)
  write_repeats p x g a r = answered s ((site-good s).1 g) ((numbering_good Activation fs).1 a) ((numbering_repeats Write fs p x).1 r)

  all_passes : SealingPass s → sealing_answer s ≡ Ok tt
  all_passes g = answered s ((site-good s).1 g.sites) ((numbering_good Activation fs).1 g.activation) ((numbering_good Write fs).1 g.write)

-- the four answers
data Outcome (s : List ℕ) : Type 0 where
  by_sites : (x : Refusal) → site_answer s ≡ Err x → Outcome s
  by_activation : (p x : ℕ) → SitesPass s → FirstRepeat Activation (functions (cells s)) p x → Outcome s
  by_write : (p x : ℕ) → SitesPass s → InOneFunction Activation (functions (cells s)) → FirstRepeat Write (functions (cells s)) p x → Outcome s
  by_none : SealingPass s → Outcome s

checked_sites : (s : List ℕ) (c : Checked) → site_answer s ≡ c → Outcome s
checked_sites s (Err x) e = by_sites x e
checked_sites s (Ok tt) e =
    let g : SitesPass s = (site-good s).0 e in
    by_numbering Activation (functions (cells s))
    (λ a.
    let h = (numbering_good Activation (functions (cells s))).0 a in
    by_numbering Write (functions (cells s))
    (λ b. by_none (record { sites = g; activation = h; write = (numbering_good Write (functions (cells s))).0 b }))
    (λ p x b. by_write p x g h ((numbering_repeats Write (functions (cells s)) p x).0 b)))
    (λ p x a. by_activation p x g ((numbering_repeats Activation (functions (cells s)) p x).0 a))

outcome : (s : List ℕ) → Outcome s
outcome s = checked_sites s (site_answer s) refl

-- ---- when each is given

module _ (s : List ℕ) where
  passes_if : Outcome s → sealing_answer s ≡ Ok tt → SealingPass s
  passes_if (by_sites x e) g = absurd (cc (site-refuses s x e, g))
  passes_if (by_activation p x k r) g = absurd (cc (activation_repeats s p x k r, g))
  passes_if (by_write p x k a r) g = absurd (cc (write_repeats s p x k a r, g))
  passes_if (by_none k) g = k

  refuses_if : Outcome s → (y : Refusal) → sealing_answer s ≡ Err (Refused y) → site_answer s ≡ Err y
  refuses_if (by_sites x e) y g = let k : Err (Refused x) ≡ Err (Refused y) = sym (site-refuses s x e) ∙ g in let q : x ≡ y = cc in e ∙ ap Err q
  refuses_if (by_activation p x k r) y g = absurd (cc (activation_repeats s p x k r, g))
  refuses_if (by_write p x k a r) y g = absurd (cc (write_repeats s p x k a r, g))
  refuses_if (by_none k) y g = absurd (cc (g, all_passes s k))

  activation_if : Outcome s → (q y : ℕ) → sealing_answer s ≡ Err (Repeated Activation q y) → SitesPass s × FirstRepeat Activation (functions (cells s)) q y
  activation_if (by_sites x e) q y g = absurd (cc (g, site-refuses s x e))
  activation_if (by_activation p x k r) q y g =
      let u : Err (Repeated Activation p x) ≡ Err (Repeated Activation q y) = sym (activation_repeats s p x k r) ∙ g in
      let i : p ≡ q = cc in
      let j : x ≡ y = cc in
      (k, rw (i, j) at r)
  activation_if (by_write p x k a r) q y g = absurd (cc (g, write_repeats s p x k a r))
  activation_if (by_none k) q y g = absurd (cc (g, all_passes s k))

  write_if : Outcome s → (q y : ℕ) → sealing_answer s ≡ Err (Repeated Write q y) → SitesPass s × InOneFunction Activation (functions (cells s)) × FirstRepeat Write (functions (cells s)) q y
  write_if (by_sites x e) q y g = absurd (cc (g, site-refuses s x e))
  write_if (by_activation p x k r) q y g = absurd (cc (activation_repeats s p x k r, g))
  write_if (by_write p x k a r) q y g =
      let u : Err (Repeated Write p x) ≡ Err (Repeated Write q y) = sym (write_repeats s p x k a r) ∙ g in
      let i : p ≡ q = cc in
      let j : x ≡ y = cc in
      (k, a, rw (i, j) at r)
  write_if (by_none k) q y g = absurd (cc (g, all_passes s k))

  pub sealing_good : (sealing_answer s ≡ Ok tt) ↔ SealingPass s
  sealing_good = (passes_if (outcome s), all_passes s)

  checked : SealingChecked s (sealing_answer s)
  checked = record {
    answer = refl;
    reply = refl;
    accepted = sealing_good;
    refused = λ x. (refuses_if (outcome s) x, site-refuses s x);
    activation_repeated = λ p x. (activation_if (outcome s) p x, λ g. activation_repeats s p x g.0 g.1);
    write_repeated = λ p x. (write_if (outcome s) p x, λ g. write_repeats s p x g.0 g.1 g.2);
  }

pub sealing_checked : (s : List ℕ) (r : Sealing) → r ≡ sealing_answer s → SealingChecked s r
sealing_checked s r e = rw e (checked s)
