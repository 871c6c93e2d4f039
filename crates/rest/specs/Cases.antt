-- Worked: the rewrite until it rests on images written out by hand from document 02 (W11): what each round reports, how many there are, and the
-- operation's reply with every byte of the lent output.
use Rattle.std.specs.Prelude.{◌≡◌, refl, true, false, List, [], ◌∷◌, ◌++◌, map, ℕ, length, replicate}
use Rattle.leaves.specs.Signed.{wrap, add_i32}
use Rattle.leaves.specs.Unsigned.{add_u32}
use Rattle.leaves.specs.Quads.{meet, quad_of}
use Rattle.cells.specs.Assembler.{cell, Head, Label, Jmp, LoadI32, LoadBool, LoadU32, LoadQ, binary, AddI32, QTruthNot, Ret, RetNothing, site, no_site, StoreVarSited, MakeRecord, Borrow, function}
use Rattle.cells.specs.Cells.{over}
use Rattle.cells.specs.Check.{instruction_check, event_check, head_check}
use Rattle.cells.specs.Functions.{functions}
use Rattle.cells.specs.Refusals.{numbered}
use Rattle.cells.specs.Table.{rows, class_of}
use Rattle.cells.specs.View.{view, load_cell}
use Rattle.sites.specs.Sites.{site_of, event_site, site_by}
use Rattle.sites.specs.Validators.{repeat_answer, activation_answer, judge_by}
use Rattle.cleanup.specs.Cleanup.{clean_function, clean_code, clean_events, clean_count}
use Rattle.crystalfold.specs.Rules.{default_table, default_rules, fuller_table, fuller_rules}
use Rattle.crystalfold.specs.Fold.{note}
use Rattle.crystalfold.specs.CrystalFold.{fold_function, fold_code, folds_of}
use Rattle.crystalfold.specs.declared.rules.RuleSet.{RuleSet}
use Rattle.crystalfold.specs.declared.rules.RuleSet.TheVariants.{Default, Fuller}
use Rattle.image.specs.Image.{image_answer}
use Rattle.image.specs.SiteCheck.{site_answer}
use Rattle.passes.specs.Promises.{Reply, success, refusal, reply_of}
use Rattle.passes.specs.Passes.{pass_bytes, pass_count, pass_check}
use Rattle.rest.specs.Rounds.{reported, rounds_to_rest, rest_bytes, rest_count, rest_answer, rest_output}

-- ---- images, as sent and at rest

-- the document's: a fold makes a load, which overwrites its neighbour: LoadI32 r1 5, LoadI32 r1 10 after one round
abbrev pub overwritten : List ℕ
overwritten = function (LoadI32 1 5 ∷ AddI32 1 1 1 ∷ []) []

abbrev pub overwritten_rested : List ℕ
overwritten_rested = function (LoadI32 1 10 ∷ []) []

-- the fold's load is overwritten by the next: LoadI32 r1 5, LoadI32 r2 10, LoadI32 r2 7 after one round
abbrev pub overwrites_fold : List ℕ
overwrites_fold = function (LoadI32 1 5 ∷ AddI32 2 1 1 ∷ LoadI32 2 7 ∷ []) []

abbrev pub overwrites_fold_rested : List ℕ
overwrites_fold_rested = function (LoadI32 1 5 ∷ LoadI32 2 7 ∷ []) []

-- three folds into one register: loads of 1, 2, 4 and 8 after one round
abbrev pub chain : List ℕ
chain = function (LoadI32 1 1 ∷ AddI32 1 1 1 ∷ AddI32 1 1 1 ∷ AddI32 1 1 1 ∷ []) []

abbrev pub chain_rested : List ℕ
chain_rested = function (LoadI32 1 8 ∷ []) []

-- without the jump between them two labels are alike
abbrev pub jumps : List ℕ
jumps = function (Label 1 ∷ Jmp 1 ∷ Label 1 ∷ []) []

abbrev pub jumps_rested : List ℕ
jumps_rested = function (Label 1 ∷ []) []

-- both in one function
abbrev pub mixed : List ℕ
mixed = function (Label 1 ∷ Jmp 1 ∷ Label 1 ∷ LoadI32 1 5 ∷ AddI32 1 1 1 ∷ Ret 1 ∷ []) []

abbrev pub mixed_rested : List ℕ
mixed_rested = function (Label 1 ∷ LoadI32 1 10 ∷ Ret 1 ∷ []) []

-- an event stays with its site; one goes with an unreachable StoreVar, in the first round
abbrev pub sited : List ℕ
sited =
    function (StoreVarSited (site 8) no_site ∷ LoadI32 1 5 ∷ AddI32 1 1 1 ∷ RetNothing ∷ StoreVarSited (site 9) no_site ∷ [])
    (Borrow (site 9) no_site ∷ Borrow (site 8) no_site ∷ [])

abbrev pub sited_rested : List ℕ
sited_rested = function (StoreVarSited (site 8) no_site ∷ LoadI32 1 10 ∷ RetNothing ∷ []) (Borrow (site 8) no_site ∷ [])

-- a LoadU32 is not overwritten: AddU32 r1 r1 r1 is folded, and both loads stay
abbrev pub unsigned : List ℕ
unsigned = function (LoadU32 1 5 ∷ binary 0x1E 1 1 1 ∷ []) []

abbrev pub unsigned_rested : List ℕ
unsigned_rested = function (LoadU32 1 5 ∷ LoadU32 1 10 ∷ []) []

-- nothing folded, nothing removed twice: one load goes, and the next round reports 0
abbrev pub once : List ℕ
once = function (LoadI32 1 5 ∷ LoadBool 1 1 ∷ []) []

abbrev pub once_rested : List ℕ
once_rested = function (LoadBool 1 1 ∷ []) []

-- at rest as sent
abbrev pub still : List ℕ
still = function (LoadI32 1 5 ∷ Ret 1 ∷ []) []

-- functions without cells
abbrev pub hollow : List ℕ
hollow = Head 1 0 0 ++ Head 2 0 0

-- QTruthNot of T, which only the fuller rules fold, to F
abbrev pub truth : List ℕ
truth = function (LoadQ 1 2 ∷ QTruthNot 1 1 ∷ []) []

abbrev pub truth_rested : List ℕ
truth_rested = function (LoadQ 1 1 ∷ []) []

-- ---- what three rounds report, and how many there are until one reports 0

pub record RoundsCase : Type 0 where
  pub rules : RuleSet
  pub image : List ℕ
  pub reports : List ℕ
  pub rounds : ℕ

abbrev pub rounds_of : RuleSet → List ℕ → List ℕ → ℕ → RoundsCase
rounds_of k s reports rounds = record { rules = k; image = s; reports = reports; rounds = rounds }

abbrev pub rounds : List RoundsCase
rounds =
    rounds_of Default overwritten (1 ∷ 1 ∷ 0 ∷ []) 3
    ∷ rounds_of Default overwrites_fold (1 ∷ 1 ∷ 0 ∷ []) 3
    ∷ rounds_of Default chain (3 ∷ 3 ∷ 0 ∷ []) 3
    ∷ rounds_of Default jumps (1 ∷ 1 ∷ 0 ∷ []) 3
    ∷ rounds_of Default mixed (2 ∷ 2 ∷ 0 ∷ []) 3
    ∷ rounds_of Default sited (2 ∷ 1 ∷ 0 ∷ []) 3
    ∷ rounds_of Default unsigned (1 ∷ 0 ∷ 0 ∷ []) 2
    ∷ rounds_of Default once (1 ∷ 0 ∷ 0 ∷ []) 2
    ∷ rounds_of Default still (0 ∷ 0 ∷ 0 ∷ []) 1
    ∷ rounds_of Default hollow (0 ∷ 0 ∷ 0 ∷ []) 1
    ∷ rounds_of Default [] (0 ∷ 0 ∷ 0 ∷ []) 1
    -- of several functions, each is sent to every round; the greatest number of rounds is the image's
    ∷ rounds_of Default (still ++ once ++ overwritten) (2 ∷ 1 ∷ 0 ∷ []) 3
    ∷ rounds_of Default (once ++ unsigned) (2 ∷ 0 ∷ 0 ∷ []) 2
    ∷ rounds_of Default truth (0 ∷ 0 ∷ 0 ∷ []) 1
    ∷ rounds_of Fuller truth (1 ∷ 1 ∷ 0 ∷ []) 3
    ∷ []

pub rounds_hold :
    map (λ (c : RoundsCase). rounds_of c.rules c.image (reported c.rules 0 c.image ∷ reported c.rules 1 c.image ∷ reported c.rules 2 c.image ∷ []) (rounds_to_rest c.rules c.image)) rounds
    ≡ rounds
unfolding functions rows class_of view load_cell site_of event_site site_by clean_function clean_code clean_events clean_count default_table default_rules fuller_table fuller_rules note fold_function fold_code folds_of pass_bytes pass_count wrap add_i32 add_u32 meet quad_of
rounds_hold = refl

-- ---- the operation

pub record RestCase : Type 0 where
  pub rules : RuleSet
  pub image : List ℕ
  pub before : List ℕ
  pub reply : Reply
  pub after : List ℕ

abbrev pub rest : RuleSet → List ℕ → List ℕ → Reply → List ℕ → RestCase
rest k s b r a = record { rules = k; image = s; before = b; reply = r; after = a }

abbrev pub refuses : List ℕ → List ℕ → ℕ → ℕ → ℕ → RestCase
refuses s b number position detail = rest Default s b (refusal (numbered number position detail)) b

-- n bytes of a lent output
abbrev pub lent : ℕ → List ℕ
lent n = replicate n 0xEE

abbrev pub operations : List RestCase
operations =
    -- the last round's length and the sum of the counts; round one wrote 16 bytes more, and in the output they are as they were lent
    rest Default overwritten (lent 48) (success 32 2 true) (overwritten_rested ++ lent 16)
    ∷ rest Default overwritten (lent 64) (success 32 2 true) (overwritten_rested ++ lent 32)
    ∷ rest Default overwrites_fold (lent 64) (success 48 2 true) (overwrites_fold_rested ++ lent 16)
    ∷ rest Default chain (lent 80) (success 32 6 true) (chain_rested ++ lent 48)
    ∷ rest Default jumps (lent 64) (success 32 2 true) (jumps_rested ++ lent 32)
    ∷ rest Default mixed (lent 112) (success 64 4 true) (mixed_rested ++ lent 48)
    ∷ rest Default sited (lent 128) (success 80 3 true) (sited_rested ++ lent 48)
    ∷ rest Default unsigned (lent 48) (success 48 1 true) unsigned_rested
    ∷ rest Default once (lent 48) (success 32 1 true) (once_rested ++ lent 16)
    ∷ rest Default still (lent 48) (success 48 0 false) still
    ∷ rest Default hollow (lent 33) (success 32 0 false) (hollow ++ lent 1)
    ∷ rest Default [] [] (success 0 0 false) []
    ∷ rest Default [] (lent 3) (success 0 0 false) (lent 3)
    ∷ rest Default (still ++ once ++ overwritten) (lent 144) (success 112 3 true) (still ++ once_rested ++ overwritten_rested ++ lent 32)
    -- what rests is handed back
    ∷ rest Default overwritten_rested (lent 32) (success 32 0 false) overwritten_rested
    -- the fuller rules
    ∷ rest Default truth (lent 48) (success 48 0 false) truth
    ∷ rest Fuller truth (lent 48) (success 32 2 true) (truth_rested ++ lent 16)
    -- 5 by the image's length, though the result would fit
    ∷ refuses overwritten (lent 47) 5 0 0
    ∷ refuses overwritten (lent 32) 5 0 0
    ∷ refuses overwritten [] 5 0 0
    -- 1 before 5; 5 before 2, and 2 where there is room
    ∷ refuses (0 ∷ []) [] 1 0 0
    ∷ refuses (overwritten ++ 0 ∷ []) (lent 64) 1 0 0
    ∷ refuses (cell []) (lent 15) 5 0 0
    ∷ refuses (cell []) (lent 16) 2 0 0
    -- as the site check: the second function's fault, and nothing of the first is written
    ∷ refuses (overwritten ++ function (MakeRecord (site 5) ∷ []) []) (lent 80) 24 1 5
    ∷ refuses (overwritten ++ function (LoadI32 1024 5 ∷ []) []) (lent 80) 4 1 4
    ∷ []

pub operations_hold :
    map (λ (c : RestCase). rest c.rules c.image c.before (reply_of (rest_answer c.rules c.image (length c.before))) (rest_output c.rules c.image c.before)) operations
    ≡ operations
unfolding over functions instruction_check event_check head_check rows class_of view load_cell site_of event_site site_by repeat_answer activation_answer judge_by clean_function clean_code clean_events clean_count default_table default_rules fuller_table fuller_rules note fold_function fold_code folds_of image_answer site_answer pass_bytes pass_count pass_check rest_bytes rest_count rest_answer rest_output wrap add_i32 add_u32 meet quad_of
operations_hold = refl
