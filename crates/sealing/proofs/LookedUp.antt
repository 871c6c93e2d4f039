-- An event's number leads to one command: in an accepted function events and commands have the same numbers, and in a sealed image no other function
-- has them.
use mathlib.Core.Path.{◌≡◌, sym, ◌∙◌}
use mathlib.Core.Bool.{true}
use mathlib.Core.List.{List, ◌∷◌, ◌++◌}
use Prim.Native.Nat.{ℕ, ◌≤◌}
use native.Mathlib.Omega.{arith}
use Rattle.cells.specs.Cells.{Cell, cells}
use Rattle.cells.specs.Functions.{Function, functions}
use Rattle.cells.specs.Lists.{one}
use Rattle.cells.proofs.Facts.{by_test}
use Rattle.cells.proofs.Lists.{any_yes, any_no, yes_any, tally-append, all_each, all_parts}
use Rattle.sites.specs.Sites.{site_of, event_site, is_site, stands, times}
use Rattle.sites.specs.declared.Which.{Which}
use Rattle.sites.specs.declared.Which.TheVariants.{Activation, Write}
use Rattle.sites.proofs.SitesFit.{activation_sites, write_sites}
use Rattle.image.specs.SiteCheck.{GoodSites}
use Rattle.sealing.specs.Sealing.{stands_in}
use Rattle.sealing.specs.Promises.{InOneFunction, SealingPass}
use Rattle.sealing.specs.Claim.{EventsAlike, LookedUp}
use Rattle.sealing.proofs.Outcomes.{sealing_good, in_one-function}
use Rattle.std.specs.Prelude.{Option}

-- two tests, one of which some element passes exactly if some element passes the other
alike : (f g : Cell → Option ℕ) (x : ℕ) (cs ds : List Cell) → (1 ≤ times f x cs → 1 ≤ times g x ds) → (1 ≤ times g x ds → 1 ≤ times f x cs) → stands f x cs ≡ stands g x ds
alike f g x cs ds u v = by_test (stands f x cs)
    (λ t. t ∙ sym (yes_any (λ d. is_site x (g d)) ds (u (any_yes (λ c. is_site x (f c)) cs t))))
    (λ t. by_test (stands g x ds)
    (λ y. let n = v (any_yes (λ d. is_site x (g d)) ds y) in absurd (omega (arith, n, any_no (λ c. is_site x (f c)) cs t)))
    (λ y. t ∙ sym y))

module _ (f : Function) (g : GoodSites f) where
  function_alike : (w : Which) (x : ℕ) → stands (event_site w) x f.events ≡ stands (site_of w) x f.code
  function_alike Activation x =
      let p = (activation_sites 0 f.code f.events).0 (g.activation 0) in
      alike (event_site Activation) (site_of Activation) x f.events f.code (λ n. omega (arith, p.same x)) (λ n. omega (arith, p.same x))
  function_alike Write x =
      let p = (write_sites 0 f.code f.events).0 (g.write 0) in
      alike (event_site Write) (site_of Write) x f.events f.code (p.known x) (λ n. omega (arith, p.claimed x))

  -- no number stands on two commands
  function-once : (w : Which) (x : ℕ) → times (site_of w) x f.code ≤ 1
  function-once Activation x = ((activation_sites 0 f.code f.events).0 (g.activation 0)).once x
  function-once Write x = ((write_sites 0 f.code f.events).0 (g.write 0)).once x

pub events_alike : EventsAlike
events_alike s g = all_each GoodSites _ (λ f h. function_alike f h) (functions (cells s)) g.sites

pub looked_up : LookedUp
looked_up s e earlier f later parts w x t =
    let g : SealingPass s = (sealing_good s).0 e in
    let h : GoodSites f = (all_parts GoodSites earlier (f ∷ later) (rw parts at g.sites.sites)).1.0 in
    let k : stands_in w x f ≡ true = sym (function_alike f h w x) ∙ t in
    let n = any_yes (λ c. is_site x (site_of w c)) f.code k in
    let o : one (stands_in w x f) ≡ 1 = rw k in
    let a : InOneFunction w (earlier ++ f ∷ later) = rw parts at (in_one-function s g w) in
    let m = tally-append (stands_in w x) earlier (f ∷ later) in
    record {
      here = omega (arith, n, function-once f h w x);
      before = omega (arith, a x, m, o);
      behind = omega (arith, a x, m, o);
    }
