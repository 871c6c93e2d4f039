-- Promise: what follows for an image that passes the sealing check (document 02, W13): rewritten it still passes, an event's number leads to one
-- command, and when it may be joined to another. Each theorem stands here as a type, with all that it assumes.
use Rattle.std.specs.Prelude.{ℕ, ◌+◌, ◌≤◌, ◌≡◌, true, ◌↔◌, List, ◌∷◌, ◌++◌, length, take, Ok}
use Rattle.cells.specs.Cells.{cells}
use Rattle.cells.specs.Check.{max_image}
use Rattle.cells.specs.Functions.{Function, functions}
use Rattle.cells.specs.Lists.{All}
use Rattle.sites.specs.Sites.{site_of, event_site, stands, times}
use Rattle.sites.specs.declared.Which.{Which}
use Rattle.crystalfold.specs.declared.rules.RuleSet.{RuleSet}
use Rattle.image.specs.Image.{image_answer}
use Rattle.image.specs.SiteCheck.{SitesPass}
use Rattle.passes.specs.Promises.{is_written, length_written}
use Rattle.passes.specs.Passes.{pass_answer, pass_output}
use Rattle.passes.specs.declared.Pass.{Pass}
use Rattle.rest.specs.Rounds.{rest_answer, rest_output}
use Rattle.sealing.specs.Sealing.{functions_with, sealing_answer}
use Rattle.passes.specs.Rewrite.{Rewrite}

-- ---- "An image that passes still passes after the default or fuller rewrite"

-- a rewrite that answered r and left `after` in its output: it is accepted, and what was written passes
pub record StillSealed (r : Rewrite) (after : List ℕ) : Type 0 where
  pub written : is_written r ≡ true
  pub passes : sealing_answer (take (length_written r) after) ≡ Ok tt

-- the theorem `pass_sealed` of proofs/Kept: of every rewriting operation, `Both Default` and `Both Fuller` among them, whatever the output held
abbrev pub PassSealed : Type 0
PassSealed = (p : Pass) (s before : List ℕ) → sealing_answer s ≡ Ok tt → length s ≤ length before → StillSealed (pass_answer p s (length before)) (pass_output p s before)

-- the theorem `rest_sealed` of proofs/Kept: and of the rewrite until it rests, by either rule set
abbrev pub RestSealed : Type 0
RestSealed = (k : RuleSet) (s before : List ℕ) → sealing_answer s ≡ Ok tt → length s ≤ length before → StillSealed (rest_answer k s (length before)) (rest_output k s before)

-- ---- "The event viewer looks a site up without knowing the function"

-- the theorem `events_alike` of proofs/LookedUp: in each function of an image that the site check passes, a number stands on events exactly if it
-- stands on commands. So it makes no difference that the check reads commands alone
abbrev pub EventsAlike : Type 0
EventsAlike =
    (s : List ℕ) → SitesPass s
    → All (λ (f : Function). (w : Which) (x : ℕ) → stands (event_site w) x f.events ≡ stands (site_of w) x f.code) (functions (cells s))

-- a number on an event of the function f: it stands on one command of f, and in no other function
pub record OneCommand (w : Which) (x : ℕ) (earlier : List Function) (f : Function) (later : List Function) : Type 0 where
  pub here : times (site_of w) x f.code ≡ 1
  pub before : functions_with w x earlier ≡ 0
  pub behind : functions_with w x later ≡ 0

-- the theorem `looked_up` of proofs/LookedUp: so it is with each number on an event of an image that passes
abbrev pub LookedUp : Type 0
LookedUp =
    (s : List ℕ) → sealing_answer s ≡ Ok tt
    → (earlier : List Function) (f : Function) (later : List Function) → functions (cells s) ≡ earlier ++ f ∷ later
    → (w : Which) (x : ℕ) → stands (event_site w) x f.events ≡ true → OneCommand w x earlier f later

-- ---- images joined (document 02, W12): the one check that looks across functions

-- the theorem `sealing_joins` of proofs/JoinedSealing: s ++ t passes exactly if both do and no number stands in functions of both
abbrev pub SealingJoins : Type 0
SealingJoins =
    (s t : List ℕ) → image_answer s ≡ Ok tt → length s + length t ≤ max_image
    → (sealing_answer (s ++ t) ≡ Ok tt)
    ↔ ((sealing_answer s ≡ Ok tt) × (sealing_answer t ≡ Ok tt)
    × ((w : Which) (x : ℕ) → functions_with w x (functions (cells s)) + functions_with w x (functions (cells t)) ≤ 1))
