-- Worked: the sealing check on images written out by hand from document 02 (W13), with number, position and detail; in how many functions a number
-- stands; that the older operations accept what it refuses by 34 and 35; and images as sent and as rewritten.
use Rattle.std.specs.Prelude.{◌≡◌, refl, Bool, true, List, [], ◌∷◌, ◌++◌, map, ℕ, length, Option, None, Some}
use Rattle.cells.specs.Assembler.{cell, Head, Label, LoadI32, Jmp, Ret, RetNothing, site, no_site, StoreVarSited, MakeRecord, Borrow, Write as WriteEvent, function}
use Rattle.cells.specs.Cells.{cells}
use Rattle.cells.specs.Check.{instruction_check, event_check, head_check}
use Rattle.cells.specs.Functions.{functions}
use Rattle.cells.specs.Refusals.{numbered, numbers_in}
use Rattle.cells.specs.Table.{rows, class_of}
use Rattle.cells.specs.View.{view, load_cell}
use Rattle.cells.specs.declared.refusal.Numbers.{Numbers}
use Rattle.sites.specs.Sites.{site_of, event_site, site_by}
use Rattle.sites.specs.Validators.{repeat_answer, activation_answer, judge_by}
use Rattle.sites.specs.declared.Which.{Which}
use Rattle.sites.specs.declared.Which.TheVariants.{Activation, Write}
use Rattle.cleanup.specs.Cleanup.{clean_function, clean_code, clean_events, clean_count}
use Rattle.crystalfold.specs.Rules.{default_table, default_rules, fuller_table, fuller_rules}
use Rattle.crystalfold.specs.Fold.{note}
use Rattle.crystalfold.specs.CrystalFold.{fold_function, fold_code, folds_of}
use Rattle.crystalfold.specs.declared.rules.RuleSet.TheVariants.{Default, Fuller}
use Rattle.image.specs.Image.{image_answer}
use Rattle.image.specs.SiteCheck.{site_answer}
use Rattle.passes.specs.Promises.{is_written}
use Rattle.passes.specs.Passes.{pass_bytes, pass_count, pass_check, pass_answer}
use Rattle.passes.specs.declared.Pass.TheVariants.{Both}
use Rattle.rest.specs.Rounds.{rest_bytes}
use Rattle.sealing.specs.Sealing.{functions_with, numbering_answer, sealing_answer}
use Rattle.sealing.specs.Promises.{sealing_reply}

-- ---- functions

-- of one command: a StoreVar with an activation number, with a write number, with both; a MakeRecord with a write number
abbrev pub activated : ℕ → List ℕ
activated x = function (StoreVarSited (site x) no_site ∷ []) (Borrow (site x) no_site ∷ [])

abbrev pub stored : ℕ → List ℕ
stored x = function (StoreVarSited no_site (site x) ∷ []) (WriteEvent no_site (site x) ∷ [])

abbrev pub both : ℕ → ℕ → List ℕ
both x y = function (StoreVarSited (site x) (site y) ∷ []) (WriteEvent no_site (site y) ∷ Borrow (site x) no_site ∷ [])

abbrev pub made : ℕ → List ℕ
made x = function (MakeRecord (site x) ∷ []) (WriteEvent no_site (site x) ∷ [])

-- of two: activation numbers, and write numbers, in instruction order; the events stand the other way round
abbrev pub activated_two : ℕ → ℕ → List ℕ
activated_two x y = function (StoreVarSited (site x) no_site ∷ StoreVarSited (site y) no_site ∷ []) (Borrow (site y) no_site ∷ Borrow (site x) no_site ∷ [])

abbrev pub written_two : ℕ → ℕ → List ℕ
written_two x y = function (MakeRecord (site x) ∷ StoreVarSited no_site (site y) ∷ []) (WriteEvent no_site (site y) ∷ WriteEvent no_site (site x) ∷ [])

-- behind a Ret, where no label follows
abbrev pub unreachable : ℕ → List ℕ
unreachable x = function (RetNothing ∷ StoreVarSited (site x) no_site ∷ []) (Borrow (site x) no_site ∷ [])

abbrev pub unreachable_made : ℕ → List ℕ
unreachable_made x = function (RetNothing ∷ MakeRecord (site x) ∷ []) (WriteEvent no_site (site x) ∷ [])

-- without numbers: no cells; cells that have no sites; a StoreVar whose sites are absent
abbrev pub hollow : List ℕ
hollow = Head 7 0 0

abbrev pub plain : List ℕ
plain = function (LoadI32 1 5 ∷ Ret 1 ∷ []) []

abbrev pub unsited : List ℕ
unsited = function (StoreVarSited no_site no_site ∷ []) []

-- ---- the check

pub record SealingCase : Type 0 where
  pub image : List ℕ
  pub reply : Option Numbers

abbrev pub good : List ℕ → SealingCase
good s = record { image = s; reply = None }

abbrev pub refuses : List ℕ → ℕ → ℕ → ℕ → SealingCase
refuses s number position detail = record { image = s; reply = Some (numbered number position detail) }

abbrev pub cases : List SealingCase
cases =
    -- no numbers, and different ones
    good []
    ∷ good hollow
    ∷ good (plain ++ plain)
    ∷ good (activated 5)
    ∷ good (activated 5 ++ activated 6)
    ∷ good (made 5 ++ stored 6 ++ both 5 7)
    -- 34: the function is the later one, whichever earlier one has the number
    ∷ refuses (activated 5 ++ activated 5) 34 1 5
    ∷ refuses (activated 5 ++ activated 6 ++ activated 5) 34 2 5
    ∷ refuses (activated 6 ++ activated 5 ++ activated 5) 34 2 5
    ∷ refuses (activated 5 ++ activated 5 ++ activated 5) 34 1 5
    -- the first function in order: that of 6 comes before that of 5
    ∷ refuses (activated 5 ++ activated 6 ++ activated 6 ++ activated 5) 34 2 6
    -- its first such number in instruction order, where the events stand the other way round: not the least, and not the earlier function's first
    ∷ refuses (activated_two 3 8 ++ activated_two 8 3) 34 1 8
    ∷ refuses (activated_two 8 3 ++ activated_two 3 8) 34 1 3
    ∷ refuses (activated_two 3 8 ++ activated_two 4 8) 34 1 8
    ∷ refuses (activated_two 3 8 ++ activated_two 9 3) 34 1 3
    ∷ refuses (activated 3 ++ activated 8 ++ activated_two 8 3) 34 2 8
    -- 35 in the same way; StoreVar and MakeRecord have their write numbers from one space
    ∷ refuses (made 9 ++ made 9) 35 1 9
    ∷ refuses (stored 9 ++ stored 9) 35 1 9
    ∷ refuses (made 9 ++ stored 9) 35 1 9
    ∷ refuses (stored 9 ++ made 9) 35 1 9
    ∷ refuses (stored 9 ++ made 8 ++ both 1 9) 35 2 9
    ∷ refuses (written_two 3 8 ++ written_two 8 3) 35 1 8
    ∷ refuses (written_two 3 8 ++ written_two 7 3) 35 1 3
    -- both are there: 34, also where an earlier function has 35
    ∷ refuses (both 5 9 ++ both 5 9) 34 1 5
    ∷ refuses (made 9 ++ made 9 ++ activated 5 ++ activated 5) 34 3 5
    ∷ refuses (activated 5 ++ made 9 ++ made 9 ++ activated 5) 34 3 5
    -- activation and write numbers are two spaces
    ∷ good (activated 5 ++ made 5)
    ∷ good (stored 5 ++ activated 5)
    ∷ good (both 5 5)
    ∷ good (both 5 6 ++ both 6 5)
    -- functions without cells or numbers have their places
    ∷ refuses (hollow ++ activated 5 ++ hollow ++ plain ++ unsited ++ hollow ++ activated 5 ++ hollow) 34 6 5
    ∷ refuses (made 9 ++ hollow ++ hollow ++ made 9) 35 3 9
    -- numbers of unreachable commands count, in either function
    ∷ refuses (unreachable 5 ++ activated 5) 34 1 5
    ∷ refuses (activated 5 ++ unreachable 5) 34 1 5
    ∷ refuses (stored 9 ++ unreachable_made 9) 35 1 9
    -- the least and the greatest number are numbers, an absent site is none; numbers that differ in their last byte alone, or in their first, differ
    ∷ refuses (activated 0 ++ activated 0) 34 1 0
    ∷ refuses (made 0 ++ made 0) 35 1 0
    ∷ good (unsited ++ unsited ++ activated 0 ++ made 0)
    ∷ refuses (activated 4294967295 ++ activated 4294967295) 34 1 4294967295
    ∷ good (activated 1 ++ activated 16777217 ++ activated 257 ++ activated 65537 ++ activated 2)
    -- a MakeRecord's number may stand on two events; in one function it is one number
    ∷ good (function (MakeRecord (site 9) ∷ []) (WriteEvent no_site (site 9) ∷ WriteEvent no_site (site 9) ∷ []))
    -- twice within one function: the site check's 11 and 21, also where the number stands in an earlier one too
    ∷ refuses (function (StoreVarSited (site 5) no_site ∷ StoreVarSited (site 5) no_site ∷ []) (Borrow (site 5) no_site ∷ [])) 11 0 5
    ∷ refuses (function (MakeRecord (site 9) ∷ StoreVarSited no_site (site 9) ∷ []) (WriteEvent no_site (site 9) ∷ [])) 21 0 9
    ∷ refuses (activated 5 ++ function (StoreVarSited (site 5) no_site ∷ StoreVarSited (site 5) no_site ∷ []) (Borrow (site 5) no_site ∷ [])) 11 1 5
    -- the site check is over the whole image first: a later function's 24 or 14, and before that a later cell's 4 or 3
    ∷ refuses (activated 5 ++ activated 5 ++ function (MakeRecord (site 7) ∷ []) []) 24 2 7
    ∷ refuses (activated 5 ++ activated 5 ++ function (StoreVarSited (site 7) no_site ∷ []) []) 14 2 0
    ∷ refuses (activated 5 ++ activated 5 ++ function (LoadI32 1024 5 ∷ []) []) 4 2 7
    ∷ refuses (activated 5 ++ function (StoreVarSited (site 5) no_site ∷ []) (cell (2 ∷ []) ∷ [])) 3 1 5
    ∷ refuses (activated 5 ++ activated 5 ++ cell []) 2 2 6
    ∷ refuses (activated 5 ++ activated 5 ++ 0 ∷ []) 1 0 0
    ∷ []

pub cases_hold : map (λ (c : SealingCase). record { image = c.image; reply = sealing_reply c.image }) cases ≡ cases
unfolding functions instruction_check event_check head_check rows class_of site_of event_site site_by repeat_answer activation_answer judge_by image_answer site_answer numbering_answer sealing_answer
cases_hold = refl

-- ---- in how many functions a number stands, and what "one function only" counts

pub record StandsCase : Type 0 where
  pub image : List ℕ
  pub kind : Which
  pub number : ℕ
  pub functions_having : ℕ

abbrev pub having : List ℕ → Which → ℕ → ℕ → StandsCase
having s w x n = record { image = s; kind = w; number = x; functions_having = n }

abbrev pub standing : List StandsCase
standing =
    -- as an activation number, also of an unreachable command; as a write number of either command; one that stands nowhere
    having (activated 5 ++ unreachable 5 ++ made 5 ++ hollow) Activation 5 2
    ∷ having (activated 5 ++ unreachable 5 ++ made 5 ++ hollow) Write 5 1
    ∷ having (activated 5 ++ unreachable 5 ++ made 5 ++ hollow) Activation 6 0
    ∷ having (stored 9 ++ made 9 ++ both 1 9) Write 9 3
    ∷ having (unsited ++ activated 0) Activation 0 1
    -- a function counts once, however often the number stands in it
    ∷ having (function (MakeRecord (site 9) ∷ MakeRecord (site 9) ∷ []) []) Write 9 1
    ∷ having [] Write 0 0
    ∷ []

pub standing_hold : map (λ (c : StandsCase). having c.image c.kind c.number (functions_with c.kind c.number (functions (cells c.image)))) standing ≡ standing
unfolding functions site_of
standing_hold = refl

-- ---- "The older checks and rewrites keep accepting what they did"

pub record OlderCase : Type 0 where
  pub image : List ℕ
  pub sealing : Option Numbers
  pub sites : Option Numbers
  pub default : Bool
  pub fuller : Bool

-- refused by the sealing check; good by the site check, and rewritten
abbrev pub older : List ℕ → Numbers → OlderCase
older s x = record { image = s; sealing = Some x; sites = None; default = true; fuller = true }

abbrev pub olders : List OlderCase
olders =
    older (activated 5 ++ activated 5) (numbered 34 1 5)
    ∷ older (made 9 ++ hollow ++ stored 9) (numbered 35 2 9)
    ∷ older (both 5 9 ++ both 5 9 ++ both 5 9) (numbered 34 1 5)
    ∷ []

pub olders_hold :
    map (λ (c : OlderCase). record { image = c.image; sealing = sealing_reply c.image; sites = numbers_in (site_answer c.image); default = is_written (pass_answer (Both Default) c.image (length c.image)); fuller = is_written (pass_answer (Both Fuller) c.image (length c.image)) }) olders
    ≡ olders
unfolding functions instruction_check event_check head_check rows class_of site_of event_site site_by repeat_answer activation_answer judge_by image_answer site_answer numbering_answer sealing_answer pass_check pass_answer
olders_hold = refl

-- ---- as sent and as rewritten

pub record RewrittenCase : Type 0 where
  pub image : List ℕ
  pub sent : Option Numbers
  pub default : Option Numbers
  pub fuller : Option Numbers
  pub rested : Option Numbers

-- good as sent, and however it is rewritten
abbrev pub keeps : List ℕ → RewrittenCase
keeps s = record { image = s; sent = None; default = None; fuller = None; rested = None }

-- refused as sent and as rewritten, by the same numbers
abbrev pub stays : List ℕ → Numbers → RewrittenCase
stays s x = record { image = s; sent = Some x; default = Some x; fuller = Some x; rested = Some x }

-- refused as sent only
abbrev pub mends : List ℕ → Numbers → RewrittenCase
mends s x = record { image = s; sent = Some x; default = None; fuller = None; rested = None }

abbrev pub rewrittens : List RewrittenCase
rewrittens =
    keeps (activated_two 3 8 ++ hollow ++ both 5 9)
    ∷ keeps (unreachable 5 ++ activated 6 ++ made 5)
    ∷ stays (activated 5 ++ function (Jmp 1 ∷ Label 1 ∷ StoreVarSited (site 5) no_site ∷ []) (Borrow (site 5) no_site ∷ [])) (numbered 34 1 5)
    -- the number goes with its unreachable command; so 'still passes' has no converse
    ∷ mends (activated 5 ++ unreachable 5) (numbered 34 1 5)
    ∷ mends (unreachable_made 9 ++ made 9) (numbered 35 1 9)
    ∷ []

pub rewrittens_hold :
    map (λ (c : RewrittenCase). record { image = c.image; sent = sealing_reply c.image; default = sealing_reply (pass_bytes (Both Default) c.image); fuller = sealing_reply (pass_bytes (Both Fuller) c.image); rested = sealing_reply (rest_bytes Default c.image) }) rewrittens
    ≡ rewrittens
unfolding functions instruction_check event_check head_check rows class_of view load_cell site_of event_site site_by repeat_answer activation_answer judge_by clean_function clean_code clean_events clean_count default_table default_rules fuller_table fuller_rules note fold_function fold_code folds_of image_answer site_answer numbering_answer sealing_answer pass_bytes pass_count rest_bytes
rewrittens_hold = refl
