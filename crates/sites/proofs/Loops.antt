-- What the nested loops find, as what a cell is judged to be; and that their answer is that of 11 and 21 on commands, of 12 and 13 on events.
use mathlib.Core.Path.{◌≡◌, refl, ap, ap₂, sym, ◌∙◌, fun_ext}
use mathlib.Core.List.{List, []}
use mathlib.Core.Bool.{Bool, true, false, cond}
use Prim.Native.Nat.{ℕ}
use lib.ListN.{length}
use Rattle.cells.specs.Answers.{or_else, scan}
use Rattle.cells.specs.Cells.{Cell}
use Rattle.cells.specs.declared.refusal.Refusal.{Refusal}
use Rattle.cells.specs.declared.refusal.Refusal.TheVariants.{ActivationSiteOnWrite}
use Rattle.cells.proofs.Answers.{goes}
use Rattle.sites.specs.Sites.{is_write, site_of, event_site, site_by, stands, sites_on}
use Rattle.sites.specs.Validators.{judge_site, judge_activation, judge_by, repeat_answer, activation_answer, rule_answer, standing}
use Rattle.sites.specs.Numbered.{barred, repeated_on, judge_fresh, judge_repeat, fresh_answer, claimed_rule, known_rule}
use Rattle.cells.specs.declared.walk.Part.{Part}
use Rattle.cells.specs.declared.walk.Part.TheVariants.{Code, Events}
use Rattle.sites.specs.declared.Which.{Which}
use Rattle.sites.specs.declared.Which.TheVariants.{Activation, Write}
use Rattle.sites.proofs.Counted.{no_sites}
use Rattle.std.specs.Prelude.{Option, Some, None, Ok, Err}
use Rattle.cells.specs.Checked.{Checked}

-- a cell with no site, one that may have none, one with a new site, and one with a site that stands before
module _ (p : Part) (w : Which) (position : ℕ) (es : List Cell) (c : Cell) where
  pub none_passes : site_by p w c ≡ None → judge_repeat p w position es c ≡ Ok tt
  none_passes e = ap (judge_fresh p w position es (barred p c)) e

  pub barred-refuses : (x : ℕ) → site_by p w c ≡ Some x → barred p c ≡ true → judge_repeat p w position es c ≡ Err (ActivationSiteOnWrite position x)
  barred-refuses x e k = ap₂ (judge_fresh p w position es) k e

  stood : (x : ℕ) (b : Bool) → site_by p w c ≡ Some x → barred p c ≡ false → stands (site_by p w) x es ≡ b
      → judge_repeat p w position es c ≡ cond b (Err (repeated_on p w position x)) (Ok tt)
  stood x b e k f = ap₂ (judge_fresh p w position es) k e ∙ ap (λ (t : Bool). cond t (Err (repeated_on p w position x)) (Ok tt)) f

  pub fresh_passes : (x : ℕ) → site_by p w c ≡ Some x → barred p c ≡ false → stands (site_by p w) x es ≡ false → judge_repeat p w position es c ≡ Ok tt
  fresh_passes x e k f = stood x false e k f

  pub repeat_refuses : (x : ℕ) (r : Refusal) → r ≡ repeated_on p w position x → site_by p w c ≡ Some x → barred p c ≡ false → stands (site_by p w) x es ≡ true
      → judge_repeat p w position es c ≡ Err r
  repeat_refuses x r m e k t = stood x true e k t ∙ ap Err (sym m)

-- no site on the cells of a part
pub fresh_none : (p : Part) (w : Which) (position : ℕ) (cs : List Cell) → length (sites_on (site_by p w) cs) ≡ 0 → Ok tt ≡ fresh_answer p w position cs
fresh_none p w position cs e = sym (no_sites (site_by p w) (judge_repeat p w position) (λ es c a. none_passes p w position es c a) [] cs e)

-- ---- the answers are the definition's

command_alike : (w : Which) (position : ℕ) (es : List Cell) (s : Option ℕ) → judge_fresh Code w position es false s ≡ judge_site w position es s
unfolding site_by
command_alike w position es None = refl
command_alike w position es (Some x) = refl

event_alike : (position : ℕ) (es : List Cell) (b : Bool) (s : Option ℕ) → judge_fresh Events Activation position es b s ≡ judge_activation position es b s
unfolding site_by
event_alike position es b None = refl
event_alike position es b (Some x) = refl

pub fresh_commands : (w : Which) (position : ℕ) (cs : List Cell) → fresh_answer Code w position cs ≡ repeat_answer w position cs
unfolding repeat_answer site_by
fresh_commands w position cs = ap (λ (judge : List Cell → Cell → Checked). scan judge [] cs) (fun_ext λ es. fun_ext λ c. command_alike w position es (site_of w c))

pub fresh_events : (position : ℕ) (es : List Cell) → fresh_answer Events Activation position es ≡ activation_answer position es
unfolding activation_answer site_by
fresh_events position es = ap (λ (judge : List Cell → Cell → Checked). scan judge [] es) (fun_ext λ before. fun_ext λ e. event_alike position before (is_write e) (event_site Activation e))

-- ---- no site on either part

module _ (position : ℕ) (count : ℕ → ℕ) (c : Cell) where
  bare_command : (w : Which) → site_by Code w c ≡ None → judge_by (claimed_rule w) position count c ≡ Ok tt
  unfolding judge_by
  bare_command Activation e = rw e
  bare_command Write e = rw e

  bare_event : (w : Which) → site_by Events w c ≡ None → judge_by (known_rule w) position count c ≡ Ok tt
  unfolding judge_by
  bare_event Activation e = rw e
  bare_event Write e = rw e

pub rules_none : (w : Which) (position : ℕ) (cs es : List Cell) → length (sites_on (site_by Code w) cs) ≡ 0 → length (sites_on (site_by Events w) es) ≡ 0
    → Ok tt ≡ or_else (rule_answer (claimed_rule w) position (standing Events w es) cs) (rule_answer (known_rule w) position (standing Code w cs) es)
rules_none w position cs es k m =
    goes (sym (no_sites (site_by Code w) (λ (_ : List Cell) (c : Cell). judge_by (claimed_rule w) position (standing Events w es) c) (λ _ c. bare_command position (standing Events w es) c w) [] cs k)) refl
    (sym (no_sites (site_by Events w) (λ (_ : List Cell) (c : Cell). judge_by (known_rule w) position (standing Code w cs) c) (λ _ c. bare_event position (standing Code w cs) c w) [] es m))
