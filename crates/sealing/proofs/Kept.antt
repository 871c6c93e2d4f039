-- What is rewritten still passes the sealing check: no function handed back has a number that the one sent at its place had not.
use mathlib.Core.Path.{◌≡◌, refl, ◌∙◌}
use mathlib.Core.Bool.{true}
use mathlib.Core.List.{List, [], ◌∷◌, map}
use Prim.Native.Nat.{ℕ, ◌≤◌}
use native.Mathlib.Omega.{arith}
use lib.ListN.{length}
use Rattle.cells.specs.Cells.{cells}
use Rattle.cells.specs.Functions.{Function, functions}
use Rattle.cells.specs.Lists.{one}
use Rattle.cells.proofs.Facts.{by_test}
use Rattle.cells.proofs.Lists.{any_yes, yes_any}
use Rattle.sites.specs.Sites.{site_of, is_site, times}
use Rattle.sites.specs.declared.Which.{Which}
use Rattle.cleanup.specs.Cleanup.{clean_function}
use Rattle.cleanup.proofs.EventsKept.{sites_fewer}
use Rattle.crystalfold.specs.CrystalFold.{fold_function}
use Rattle.crystalfold.specs.Rules.{rules_of}
use Rattle.crystalfold.proofs.FoldPasses.{sites_folded}
use Rattle.rewrite.proofs.RewritePasses.{rewrite_code_lem, rewrite_sites}
use Rattle.image.specs.SiteCheck.{SitesPass}
use Rattle.passes.specs.Passes.{pass_all, pass_bytes, pass_answer, pass_output}
use Rattle.passes.specs.declared.Pass.{Pass}
use Rattle.passes.specs.declared.Pass.TheVariants.{Cleanup, CrystalFold, Both}
use Rattle.passes.proofs.Done.{pass_one, pass_map, bytes_again, bytes-functions, pass_done}
use Rattle.rest.proofs.Done.{either_rests}
use Rattle.sealing.specs.Sealing.{stands_in, functions_with}
use Rattle.sealing.specs.Promises.{InOneFunction, SealingPass}
use Rattle.sealing.specs.Claim.{PassSealed, RestSealed}
use Rattle.sealing.proofs.Outcomes.{sealing_pass, in_one-function, sealing_good}

-- a pass of one function puts no number where it was not
one_sites : (p : Pass) (w : Which) (x : ℕ) (f : Function) → times (site_of w) x (pass_one p f).code ≤ times (site_of w) x f.code
unfolding clean_function fold_function
one_sites Cleanup w x f = sites_fewer w x f.code
one_sites (CrystalFold k) w x f = omega (arith, sites_folded (rules_of k) w x f.code)
one_sites (Both k) w x f = rw (rewrite_code_lem (rules_of k) f) (rewrite_sites (rules_of k) w x f.code)

module _ (p : Pass) (w : Which) where
  one_fewer : (x : ℕ) (f : Function) → one (stands_in w x (pass_one p f)) ≤ one (stands_in w x f)
  one_fewer x f = by_test (stands_in w x (pass_one p f))
      (λ t.
      let n = any_yes (λ c. is_site x (site_of w c)) (pass_one p f).code t in
      let k : stands_in w x f ≡ true = yes_any (λ c. is_site x (site_of w c)) f.code (omega (arith, n, one_sites p w x f)) in
      rw (t, k) (omega arith))
      (λ t. rw t (omega arith))

  fewer : (x : ℕ) (fs : List Function) → functions_with w x (map (pass_one p) fs) ≤ functions_with w x fs
  fewer x [] = omega arith
  fewer x (f ∷ fs) = omega (arith, one_fewer x f, fewer x fs)

  apart-still : (fs : List Function) → InOneFunction w fs → InOneFunction w (map (pass_one p) fs)
  apart-still fs h x = omega (arith, h x, fewer x fs)

-- an image that passes, and one whose functions a pass made of it
module _ (p : Pass) (s t : List ℕ) (g : SealingPass s) (again : SitesPass t) (back : functions (cells t) ≡ pass_all p (functions (cells s))) where
  still : SealingPass t
  still =
      let fs : List Function = functions (cells s) in
      let e : functions (cells t) ≡ map (pass_one p) fs = back ∙ pass_map p fs in
      sealing_pass t again (λ w. rw e (apart-still p w fs (in_one-function s g w)))

bytes_sealed : (p : Pass) (s : List ℕ) → SealingPass s → SealingPass (pass_bytes p s)
bytes_sealed p s g = still p s (pass_bytes p s) g (bytes_again p s g.sites) (bytes-functions p s g.sites)

pub pass_sealed : PassSealed
pass_sealed p s before e l =
    let d = pass_done p s before (pass_output p s before) (pass_answer p s (length before)) refl refl in
    let g : SealingPass s = (sealing_good s).0 e in
    let w = d.accepted.1 (g.sites, l) in
    record { written = w; passes = (sealing_good _).1 (still p s _ g (d.again w) (d.functions_back w)) }

pub rest_sealed : RestSealed
rest_sealed k s before e l =
    let d = either_rests k s before in
    let g : SealingPass s = (sealing_good s).0 e in
    let w = d.accepted.1 (g.sites, l) in
    record { written = w; passes = (sealing_good _).1 (rw (d.twice w) (bytes_sealed (Both k) (pass_bytes (Both k) s) (bytes_sealed (Both k) s g))) }
