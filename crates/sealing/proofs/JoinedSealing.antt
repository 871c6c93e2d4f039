-- Two images joined pass the sealing check exactly if both do and no number stands in functions of both.
use mathlib.Core.Path.{◌≡◌, refl, sym, ◌∙◌}
use mathlib.Core.List.{List, ◌++◌}
use Prim.Native.Nat.{ℕ, ◌+◌, ◌≤◌}
use native.Mathlib.Omega.{arith}
use lib.ListN.{length}
use Rattle.cells.specs.Cells.{cells}
use Rattle.cells.specs.Check.{max_image}
use Rattle.cells.specs.Functions.{functions}
use Rattle.cells.proofs.Answers.{refused-good, or_left, or_right}
use Rattle.cells.proofs.Lists.{tally-append}
use Rattle.sites.specs.declared.Which.{Which}
use Rattle.image.specs.Image.{image_answer}
use Rattle.image.specs.JoinedChecks.{moved_answer, answer_behind}
use Rattle.image.specs.SiteCheck.{site_answer, SitesPass}
use Rattle.image.proofs.Good.{site-good}
use Rattle.image.proofs.JoinedChecks.{checks_joined}
use Rattle.sealing.specs.Sealing.{stands_in, functions_with}
use Rattle.sealing.specs.Promises.{SealingPass}
use Rattle.sealing.specs.Claim.{SealingJoins}
use Rattle.sealing.proofs.Outcomes.{sealing_pass, in_one-function, sealing_good}
use Rattle.std.specs.Prelude.{Ok, Err}
use Rattle.cells.specs.Checked.{Checked}

-- an answer that moves on is good exactly if it was
moved-good : (p d : ℕ) (a : Checked) → moved_answer p d a ≡ Ok tt → a ≡ Ok tt
moved-good p d (Ok tt) e = refl
moved-good p d (Err x) e = absurd (refused-good e)

module _ (s t : List ℕ) (i : image_answer s ≡ Ok tt) (l : length s + length t ≤ max_image) where
  sites_joined : SitesPass s → SitesPass t → SitesPass (s ++ t)
  sites_joined g h =
      let c = checks_joined s t i l in
      let b : answer_behind s (site_answer t) ≡ Ok tt = rw ((site-good t).1 h) in
      (site-good (s ++ t)).0 (c.behind_good ((site-good s).1 g) ∙ b)

  sites_parted : SitesPass (s ++ t) → SitesPass s × SitesPass t
  sites_parted g =
      let c = checks_joined s t i l in
      let e = sym c.sites ∙ (site-good (s ++ t)).1 g in
      let r = or_right (answer_behind s (image_answer t)) _ e in
      ((site-good s).0 (or_left (site_answer s) _ r), (site-good t).0 (moved-good _ _ (site_answer t) (or_right (site_answer s) _ r)))

  functions_of_both : functions (cells (s ++ t)) ≡ functions (cells s) ++ functions (cells t)
  functions_of_both = (checks_joined s t i l).functions_of

  counted : (w : Which) (x : ℕ) → functions_with w x (functions (cells (s ++ t))) ≡ functions_with w x (functions (cells s)) + functions_with w x (functions (cells t))
  counted w x = rw functions_of_both (tally-append (stands_in w x) (functions (cells s)) (functions (cells t)))

pub sealing_joins : SealingJoins
sealing_joins s t i l = (
  (λ e.
      let g : SealingPass (s ++ t) = (sealing_good (s ++ t)).0 e in
      let (a, b) = sites_parted s t i l g.sites in
      let both : (w : Which) (x : ℕ) → functions_with w x (functions (cells s)) + functions_with w x (functions (cells t)) ≤ 1 =
      λ w x. omega (arith, in_one-function (s ++ t) g w x, counted s t i l w x) in (
        (sealing_good s).1 (sealing_pass s a (λ w x. omega (arith, both w x))),
        (sealing_good t).1 (sealing_pass t b (λ w x. omega (arith, both w x))),
        both,
      )),
  (λ h.
      let a : SitesPass s = ((sealing_good s).0 h.0).sites in
      let b : SitesPass t = ((sealing_good t).0 h.1).sites in
      (sealing_good (s ++ t)).1 (sealing_pass (s ++ t) (sites_joined s t i l a b) (λ w x. omega (arith, h.2 w x, counted s t i l w x)))),
)
