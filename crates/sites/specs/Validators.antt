-- Promise: the two validators of the function at a position (document 01, 'Site check' and module 3), from its instruction cells cs and its event cells
-- es. Each refusal is the first in the document's order; `scan` goes over the cells of a part and judges each with those before it.
use Rattle.std.specs.Prelude.{ℕ, List, [], Bool, cond, ◌&&◌, not, eqb, Option, Some, None, Ok, Err}
use Rattle.cells.specs.Answers.{or_else, scan}
use Rattle.cells.specs.Cells.{Cell}
use Rattle.cells.specs.declared.refusal.Refusal.{Refusal}
use Rattle.cells.specs.declared.refusal.Refusal.TheVariants.{ActivationSiteRepeated, ActivationSiteOnWrite, ActivationSiteClaimedTwice, ActivationSitesDiffer, WriteSiteRepeated, WriteSiteOnBorrow, WriteWithoutSite, WriteSiteUnclaimed, StoreVarSiteClaimedTwice, WriteSiteUnknown}
use Rattle.sites.specs.Sites.{is_store_var, is_write, site_of, event_site, site_by, stands, times}
use Rattle.sites.specs.declared.Which.{Which}
use Rattle.sites.specs.declared.Which.TheVariants.{Activation, Write}
use Rattle.cells.specs.declared.walk.Part.{Part}
use Rattle.cells.specs.declared.walk.Part.TheVariants.{Code, Events}
use Rattle.sites.specs.declared.Rule.{Rule}
use Rattle.sites.specs.declared.Rule.TheVariants.{StoreVarClaimed, BorrowKnown, EventKind, WriteClaimed, WriteKnown}
use Rattle.cells.specs.Checked.{Checked}

-- ---- 11 an activation site on two StoreVars, 21 a write site on two commands

abbrev pub repeated : Which → ℕ → ℕ → Refusal
repeated Activation position x = ActivationSiteRepeated position x
repeated Write position x = WriteSiteRepeated position x

-- a command's site, with the commands before it
abbrev pub judge_site : Which → ℕ → List Cell → Option ℕ → Checked
judge_site w position before None = Ok tt
judge_site w position before (Some x) = cond (stands (site_of w) x before) (Err (repeated w position x)) (Ok tt)

abbrev pub judge_command : Which → ℕ → List Cell → Cell → Checked
judge_command w position before c = judge_site w position before (site_of w c)

unfoldable pub repeat_answer : Which → ℕ → List Cell → Checked
repeat_answer w position cs = scan (judge_command w position) [] cs

-- ---- 12 a Write event with an activation site, 13 a second Borrow event for one; the first such event decides. Of the events before a judged
-- one only Borrow events have an activation site, since a Write event with one is refused

abbrev pub judge_activation : ℕ → List Cell → Bool → Option ℕ → Checked
judge_activation position before write None = Ok tt
judge_activation position before write (Some x) =
    cond write (Err (ActivationSiteOnWrite position x))
    (cond (stands (event_site Activation) x before) (Err (ActivationSiteClaimedTwice position x)) (Ok tt))

abbrev pub judge_event : ℕ → List Cell → Cell → Checked
judge_event position before e = judge_activation position before (is_write e) (event_site Activation e)

unfoldable pub activation_answer : ℕ → List Cell → Checked
activation_answer position es = scan (judge_event position) [] es

-- ---- 14, 22 to 26: each cell of a part by itself, with on how many cells of the other part a site stands

-- a site that stands on none: 14 the two sets differ, 26 an event's write site on no command
abbrev pub unmatched : Which → ℕ → ℕ → Refusal
unmatched Activation position x = ActivationSitesDiffer position
unmatched Write position x = WriteSiteUnknown position x

abbrev pub judge_met : Which → ℕ → (ℕ → ℕ) → Option ℕ → Checked
judge_met w position count None = Ok tt
judge_met w position count (Some x) = cond (eqb (count x) 0) (Err (unmatched w position x)) (Ok tt)

-- 22 a Borrow event with a write site, 23 a Write event without
abbrev pub judge_kind : ℕ → Bool → Option ℕ → Checked
judge_kind position write None = cond write (Err (WriteWithoutSite position)) (Ok tt)
judge_kind position write (Some x) = cond write (Ok tt) (Err (WriteSiteOnBorrow position x))

-- 24 a command's write site with no event, 25 a StoreVar's with more than one
abbrev pub judge_claim : ℕ → (ℕ → ℕ) → Bool → Option ℕ → Checked
judge_claim position count store None = Ok tt
judge_claim position count store (Some x) =
    cond (eqb (count x) 0) (Err (WriteSiteUnclaimed position x))
    (cond (store && not (eqb (count x) 1)) (Err (StoreVarSiteClaimedTwice position x)) (Ok tt))

unfoldable pub judge_by : Rule → ℕ → (ℕ → ℕ) → Cell → Checked
judge_by StoreVarClaimed position count c = judge_met Activation position count (site_by Code Activation c)
judge_by BorrowKnown position count c = judge_met Activation position count (site_by Events Activation c)
judge_by EventKind position count c = judge_kind position (is_write c) (site_by Events Write c)
judge_by WriteClaimed position count c = judge_claim position count (is_store_var c) (site_by Code Write c)
judge_by WriteKnown position count c = judge_met Write position count (site_by Events Write c)

abbrev pub rule_answer : Rule → ℕ → (ℕ → ℕ) → List Cell → Checked
rule_answer rule position count cs = scan (λ (_ : List Cell) (c : Cell). judge_by rule position count c) [] cs

-- on how many cells of a part each site stands
abbrev pub standing : Part → Which → List Cell → ℕ → ℕ
standing p w cs x = times (site_by p w) x cs

-- ---- the validators

abbrev pub validate_activation_sites : ℕ → List Cell → List Cell → Checked
validate_activation_sites position cs es =
    or_else (repeat_answer Activation position cs)
    (or_else (activation_answer position es)
    (or_else (rule_answer StoreVarClaimed position (standing Events Activation es) cs) (rule_answer BorrowKnown position (standing Code Activation cs) es)))

-- 22 and 23 count nothing
abbrev pub validate_write_sites : ℕ → List Cell → List Cell → Checked
validate_write_sites position cs es =
    or_else (repeat_answer Write position cs)
    (or_else (rule_answer EventKind position (standing Events Write es) es)
    (or_else (rule_answer WriteClaimed position (standing Events Write es) cs) (rule_answer WriteKnown position (standing Code Write cs) es)))

abbrev pub site_check : ℕ → List Cell → List Cell → Checked
site_check position cs es = or_else (validate_activation_sites position cs es) (validate_write_sites position cs es)
