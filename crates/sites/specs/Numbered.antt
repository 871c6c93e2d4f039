-- Inner: what the loops of the code run on: the sites on a part's cells as a list of numbers.
use Rattle.std.specs.Prelude.{◌≡◌, Bool, false, cond, List, [], ℕ, ◌/◌, ◌≤◌, eqb, length, Option, Some, None, Ok, Err}
use Rattle.cells.specs.Answers.{or_else, scan}
use Rattle.cells.specs.Cells.{Cell, cells, over}
use Rattle.cells.specs.Check.{max_instructions, max_events}
use Rattle.cells.specs.Lists.{any, tally}
use Rattle.cells.specs.declared.refusal.Refusal.{Refusal}
use Rattle.cells.specs.declared.refusal.Refusal.TheVariants.{ActivationSiteOnWrite, ActivationSiteClaimedTwice}
use Rattle.sites.specs.Sites.{is_write, site_by, stands, sites_on}
use Rattle.sites.specs.Validators.{repeated, repeat_answer, activation_answer, rule_answer, standing, validate_activation_sites}
use Rattle.cells.specs.declared.walk.Part.{Part}
use Rattle.cells.specs.declared.walk.Part.TheVariants.{Code, Events}
use Rattle.sites.specs.declared.Rule.{Rule}
use Rattle.sites.specs.declared.Rule.TheVariants.{StoreVarClaimed, BorrowKnown, EventKind, WriteClaimed, WriteKnown}
use Rattle.sites.specs.declared.Which.{Which}
use Rattle.sites.specs.declared.Which.TheVariants.{Activation, Write}
use Rattle.cells.specs.Checked.{Checked}

-- a list has the sites on cells
pub record SitesListed (p : Part) (w : Which) (cs : List Cell) (list : List ℕ) : Type 0 where
  pub few : length list ≤ max_instructions
  pub same : list ≡ sites_on (site_by p w) cs

-- two lists lent for the sites of a function's parts
abbrev pub Lent : List ℕ → List ℕ → List ℕ → List ℕ → Type 0
Lent code evs sites claims = (length code / 16 ≤ length sites) × (length evs / 16 ≤ length claims) × (length code / 16 ≤ max_instructions) × (length evs / 16 ≤ max_events)

-- x is one of a list
abbrev pub one_of : ℕ → List ℕ → Bool
one_of x xs = any (λ (y : ℕ). eqb y x) xs

-- how often x stands in a list
abbrev pub count_in : List ℕ → ℕ → ℕ
count_in xs x = tally (λ (y : ℕ). eqb y x) xs

-- where a search for x in a list ends: behind it or, where it is none of its numbers, at once
abbrev pub search_end : List ℕ → ℕ → ℕ
search_end list x = cond (one_of x list) (length list) 0

-- 11 and 21 of commands, 12 and 13 of events, as one: a site on an event that may not have one, or one that stands before
abbrev pub barred : Part → Cell → Bool
barred Code c = false
barred Events c = is_write c

abbrev pub repeated_on : Part → Which → ℕ → ℕ → Refusal
repeated_on Code w position x = repeated w position x
repeated_on Events w position x = ActivationSiteClaimedTwice position x

abbrev pub judge_fresh : Part → Which → ℕ → List Cell → Bool → Option ℕ → Checked
judge_fresh p w position before b None = Ok tt
judge_fresh p w position before b (Some x) =
    cond b (Err (ActivationSiteOnWrite position x)) (cond (stands (site_by p w) x before) (Err (repeated_on p w position x)) (Ok tt))

abbrev pub judge_repeat : Part → Which → ℕ → List Cell → Cell → Checked
judge_repeat p w position before c = judge_fresh p w position before (barred p c) (site_by p w c)

abbrev pub fresh_answer : Part → Which → ℕ → List Cell → Checked
fresh_answer p w position cs = scan (judge_repeat p w position) [] cs

-- ---- the two validators as one: 12 and 13, or 22 and 23, of the events; then 14 of both sides, or 24 and 25, then 26

abbrev pub events_answer : Which → ℕ → List Cell → Checked
events_answer Activation position es = activation_answer position es
events_answer Write position es = rule_answer EventKind position (standing Events Write es) es

abbrev pub claimed_rule : Which → Rule
claimed_rule Activation = StoreVarClaimed
claimed_rule Write = WriteClaimed

abbrev pub known_rule : Which → Rule
known_rule Activation = BorrowKnown
known_rule Write = WriteKnown

abbrev pub validate_sites : Which → ℕ → List Cell → List Cell → Checked
validate_sites w position cs es =
    or_else (repeat_answer w position cs)
    (or_else (events_answer w position es)
    (or_else (rule_answer (claimed_rule w) position (standing Events w es) cs) (rule_answer (known_rule w) position (standing Code w cs) es)))

-- ---- the lists lent for the sites of the parts, with these at their start

abbrev pub list_over : Part → Which → List ℕ → List ℕ → List ℕ
list_over p w s list = over (sites_on (site_by p w) (cells s)) list

-- after both validators: the second writes only if the first passes
abbrev pub list_after : Part → List ℕ → Checked → List ℕ → List ℕ
list_after p s (Ok tt) list = list_over p Write s (list_over p Activation s list)
list_after p s (Err x) list = list_over p Activation s list

pub record ListsAfter (position : ℕ) (code evs sites claims sites' claims' : List ℕ) : Type 0 where
  pub on_commands : sites' ≡ list_after Code code (validate_activation_sites position (cells code) (cells evs)) sites
  pub on_events : claims' ≡ list_after Events evs (validate_activation_sites position (cells code) (cells evs)) claims
