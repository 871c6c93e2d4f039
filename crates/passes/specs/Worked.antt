-- Worked: the rewriting operations on images and lent outputs written out by hand from document 01 ('Answers of the operations', 'Cells on
-- either edge') and document 02 (W2, W4, W7, W12): the reply, and every byte of the output at exit.
use Rattle.std.specs.Prelude.{◌≡◌, refl, Bool, true, false, List, [], ◌∷◌, ◌++◌, map, ℕ, length, replicate, take, drop, Ok}
use Rattle.std.specs.Float.Ieee as Ieee
use Rattle.leaves.specs.Signed.{wrap, add_i32}
use Rattle.leaves.specs.Float.{float_of, bits_of, div_f64}
use Rattle.leaves.specs.Quads.{meet, quad_of}
use Rattle.cells.specs.Assembler.{cell, Head, Label, Jmp, LoadI32, LoadBool, LoadF64, LoadQ, AddI32, DivF64, QAnd, QTruthAnd, Ret, RetNothing, site, no_site, StoreVarSited, MakeRecord, Borrow, Write, function}
use Rattle.cells.specs.Cells.{over}
use Rattle.cells.specs.Check.{instruction_check, event_check, head_check}
use Rattle.cells.specs.Functions.{functions}
use Rattle.cells.specs.Refusals.{numbered}
use Rattle.cells.specs.Table.{rows, class_of}
use Rattle.cells.specs.View.{view, load_cell}
use Rattle.sites.specs.Sites.{site_of, event_site, site_by}
use Rattle.sites.specs.Validators.{repeat_answer, activation_answer, judge_by}
use Rattle.cleanup.specs.Cleanup.{clean_function, clean_code, clean_events, clean_count}
use Rattle.crystalfold.specs.Rules.{default_table, default_rules, fuller_table, fuller_rules}
use Rattle.crystalfold.specs.Fold.{note}
use Rattle.crystalfold.specs.CrystalFold.{fold_function, fold_code, folds_of}
use Rattle.crystalfold.specs.declared.rules.RuleSet.TheVariants.{Default, Fuller}
use Rattle.image.specs.Image.{image_answer}
use Rattle.image.specs.SiteCheck.{site_answer}
use Rattle.image.specs.JoinedChecks.{EndsFunction}
use Rattle.passes.specs.Promises.{Reply, success, refusal, reply_of}
use Rattle.passes.specs.Passes.{pass_bytes, pass_count, pass_check, pass_answer, pass_output}
use Rattle.passes.specs.Joined.{written, sum}
use Rattle.passes.specs.declared.Pass.{Pass}
use Rattle.passes.specs.declared.Pass.TheVariants.{Cleanup, CrystalFold, Both}
use Rattle.passes.specs.Rewrite.{Rewrite}

pub record OperationCase : Type 0 where
  pub pass : Pass
  pub image : List ℕ
  pub before : List ℕ
  pub reply : Reply
  pub after : List ℕ

abbrev pub operation : Pass → List ℕ → List ℕ → Reply → List ℕ → OperationCase
operation p s b r a = record { pass = p; image = s; before = b; reply = r; after = a }

-- the whole rewrite, by the Rust's rules and by the fuller ones; refusals, which leave the output as it was
abbrev pub whole : Pass
whole = Both Default

abbrev pub fuller : Pass
fuller = Both Fuller

abbrev pub refuses : Pass → List ℕ → List ℕ → ℕ → ℕ → ℕ → OperationCase
refuses p s b number position detail = operation p s b (refusal (numbered number position detail)) b

-- n bytes of a lent output
abbrev pub lent : ℕ → List ℕ
lent n = replicate n 0xEE

-- the printed example: LoadI32 r1 5, AddI32 r2 r1 r1, Ret r2 in function 7
abbrev pub example : List ℕ
example = function (LoadI32 1 5 ∷ AddI32 2 1 1 ∷ Ret 2 ∷ []) []

abbrev pub folded : List ℕ
folded = Head 7 3 0 ++ LoadI32 1 5 ++ LoadI32 2 10 ++ Ret 2

-- LoadQ r1 T, LoadQ r2 S, QTruthAnd r3 r1 r2 (S), QAnd r4 r3 r1 (T), Ret r4
abbrev pub chain : List ℕ
chain = function (LoadQ 1 2 ∷ LoadQ 2 3 ∷ QTruthAnd 3 1 2 ∷ QAnd 4 3 1 ∷ Ret 4 ∷ []) []

abbrev pub chain_folded : List ℕ
chain_folded = Head 7 5 0 ++ LoadQ 1 2 ++ LoadQ 2 3 ++ LoadQ 3 3 ++ LoadQ 4 2 ++ Ret 4

-- LoadF64 r1 1.0, LoadF64 r2 -0.0, DivF64 r3 r1 r2 (-infinity), DivF64 r4 r3 r2 (infinity), Ret r4
abbrev pub quotients : List ℕ
quotients = function (LoadF64 1 0x3FF0000000000000 ∷ LoadF64 2 0x8000000000000000 ∷ DivF64 3 1 2 ∷ DivF64 4 3 2 ∷ Ret 4 ∷ []) []

abbrev pub quotients_folded : List ℕ
quotients_folded = Head 7 5 0 ++ LoadF64 1 0x3FF0000000000000 ++ LoadF64 2 0x8000000000000000 ++ LoadF64 3 0xFFF0000000000000 ++ LoadF64 4 0x7FF0000000000000 ++ Ret 4

-- LoadI32 r257 5, LoadI32 r1 7, AddI32 r1023 r257 r1 (12), Ret r1023
abbrev pub apart : List ℕ
apart = function (LoadI32 257 5 ∷ LoadI32 1 7 ∷ AddI32 1023 257 1 ∷ Ret 1023 ∷ []) []

abbrev pub apart_folded : List ℕ
apart_folded = Head 7 4 0 ++ LoadI32 257 5 ++ LoadI32 1 7 ++ LoadI32 1023 12 ++ Ret 1023

-- what a function knows at its end the next one doesn't: MakeRecord of a site, LoadI32 r1 5 and events; then AddI32 r2 r1 r1, LoadI32 r1 6,
-- AddI32 r2 r1 r1, of which the second is folded
abbrev pub unlearned : List ℕ → List (List ℕ) → List ℕ
unlearned write es = function (MakeRecord write ∷ LoadI32 1 5 ∷ []) es ++ function (AddI32 2 1 1 ∷ LoadI32 1 6 ∷ AddI32 2 1 1 ∷ []) []

abbrev pub unlearned_folded : List ℕ → List (List ℕ) → List ℕ
unlearned_folded write es = function (MakeRecord write ∷ LoadI32 1 5 ∷ []) es ++ function (AddI32 2 1 1 ∷ LoadI32 1 6 ∷ LoadI32 2 12 ∷ []) []

-- Label 1, Jmp 1, Label 1, of which cleanup leaves both labels
abbrev pub jumps : List ℕ
jumps = function (Label 1 ∷ Jmp 1 ∷ Label 1 ∷ []) []

abbrev pub jumps_cleaned : List ℕ
jumps_cleaned = Head 7 2 0 ++ Label 1 ++ Label 1

-- functions without cells, and between them Ret, Label 2
abbrev pub hollow : List ℕ
hollow = Head 1 0 0 ++ Head 2 0 0 ++ function (RetNothing ∷ Label 2 ∷ []) [] ++ Head 3 0 0

abbrev pub operations : List OperationCase
operations =
    -- the printed example, by each operation
    operation whole example (lent 64) (success 64 1 true) folded
    ∷ operation (CrystalFold Default) example (lent 64) (success 64 1 true) folded
    ∷ operation Cleanup example (lent 64) (success 64 0 false) example
    -- nothing at all
    ∷ operation whole [] [] (success 0 0 false) []
    -- bytes past the length written keep their values
    ∷ operation whole example (lent 80) (success 64 1 true) (folded ++ lent 16)
    ∷ operation whole (function (LoadI32 1 5 ∷ LoadBool 1 1 ∷ []) []) (lent 48) (success 32 1 true) (Head 7 1 0 ++ LoadBool 1 1 ++ lent 16)
    -- an unreachable StoreVar takes the events of its sites with it; the head counts what is left
    ∷ operation Cleanup
    (function (RetNothing ∷ StoreVarSited (site 9) (site 5) ∷ []) (Borrow (site 9) no_site ∷ Write no_site (site 5) ∷ []))
    (lent 80)
    (success 32 1 true)
    (Head 7 1 0 ++ RetNothing ++ lent 48)
    ∷ operation whole
    (function (StoreVarSited (site 8) no_site ∷ RetNothing ∷ StoreVarSited (site 9) no_site ∷ []) (Borrow (site 9) no_site ∷ Borrow (site 8) no_site ∷ []))
    (lent 96)
    (success 64 1 true)
    (Head 7 2 1 ++ StoreVarSited (site 8) no_site ++ RetNothing ++ Borrow (site 8) no_site ++ lent 32)
    -- 5, a lent output shorter than the image, however short the rewritten one would be
    ∷ refuses whole example (lent 63) 5 0 0
    ∷ refuses Cleanup (function (LoadI32 1 5 ∷ LoadBool 1 1 ∷ []) []) (lent 47) 5 0 0
    -- 1 before 5
    ∷ refuses whole (0 ∷ []) [] 1 0 0
    -- 5 before 2, and 2 where there is room
    ∷ refuses whole (cell []) (lent 15) 5 0 0
    ∷ refuses whole (cell []) (lent 16) 2 0 0
    -- as the site check: the second function's fault, and nothing of the first is written
    ∷ refuses whole (example ++ function (MakeRecord (site 5) ∷ []) []) (lent 96) 24 1 5
    -- the truth-order quads: left by the default rewrite and by CrystalFold, folded by the fuller one; what follows from a folded one is folded too
    ∷ operation whole chain (lent 96) (success 96 0 false) chain
    ∷ operation (CrystalFold Default) chain (lent 96) (success 96 0 false) chain
    ∷ operation fuller chain (lent 112) (success 96 2 true) (chain_folded ++ lent 16)
    -- division of an f64 by zero: the same
    ∷ operation whole quotients (lent 96) (success 96 0 false) quotients
    ∷ operation (CrystalFold Default) quotients (lent 96) (success 96 0 false) quotients
    ∷ operation fuller quotients (lent 112) (success 96 2 true) (quotients_folded ++ lent 16)
    -- registers past 255, and two whose low bytes are the same; 1,023 is read and 1,024 refuses 4
    ∷ operation whole apart (lent 96) (success 80 1 true) (apart_folded ++ lent 16)
    ∷ operation (CrystalFold Default) apart (lent 80) (success 80 1 true) apart_folded
    ∷ operation fuller apart (lent 80) (success 80 1 true) apart_folded
    ∷ operation Cleanup apart (lent 80) (success 80 0 false) apart
    ∷ refuses whole (function (LoadI32 1023 5 ∷ LoadI32 1024 5 ∷ []) []) (lent 48) 4 0 2
    ∷ refuses fuller (function (LoadI32 1023 5 ∷ LoadI32 1024 5 ∷ []) []) (lent 48) 4 0 2
    -- function by function: nothing is known where one starts, with no event before it, a Borrow event or a Write event
    ∷ operation whole (unlearned no_site []) (lent 112) (success 112 1 true) (unlearned_folded no_site [])
    ∷ operation (CrystalFold Default) (unlearned no_site []) (lent 112) (success 112 1 true) (unlearned_folded no_site [])
    ∷ operation whole (unlearned no_site (Borrow no_site no_site ∷ [])) (lent 128) (success 128 1 true) (unlearned_folded no_site (Borrow no_site no_site ∷ []))
    ∷ operation fuller (unlearned (site 5) (Write no_site (site 5) ∷ [])) (lent 128) (success 128 1 true) (unlearned_folded (site 5) (Write no_site (site 5) ∷ []))
    -- two images joined, both ways round, by each operation: what is written of each alone stands above, and that of `jumps` and of `hollow` next
    ∷ operation whole jumps (lent 64) (success 48 1 true) (jumps_cleaned ++ lent 16)
    ∷ operation whole (example ++ jumps) (lent 144) (success 112 2 true) (folded ++ jumps_cleaned ++ lent 32)
    ∷ operation whole (jumps ++ example) (lent 144) (success 112 2 true) (jumps_cleaned ++ folded ++ lent 32)
    ∷ operation Cleanup (example ++ jumps) (lent 128) (success 112 1 true) (example ++ jumps_cleaned ++ lent 16)
    ∷ operation Cleanup (jumps ++ example) (lent 128) (success 112 1 true) (jumps_cleaned ++ example ++ lent 16)
    ∷ operation (CrystalFold Default) (example ++ jumps) (lent 128) (success 128 1 true) (folded ++ jumps)
    ∷ operation (CrystalFold Default) (jumps ++ example) (lent 128) (success 128 1 true) (jumps ++ folded)
    ∷ operation fuller (example ++ chain) (lent 176) (success 160 3 true) (folded ++ chain_folded ++ lent 16)
    ∷ operation fuller (chain ++ example) (lent 176) (success 160 3 true) (chain_folded ++ folded ++ lent 16)
    -- with functions without cells; with no image at all
    ∷ operation whole hollow (lent 96) (success 96 0 false) hollow
    ∷ operation whole (hollow ++ example) (lent 160) (success 160 1 true) (hollow ++ folded)
    ∷ operation whole (example ++ hollow) (lent 160) (success 160 1 true) (folded ++ hollow)
    ∷ operation whole (hollow ++ hollow) (lent 192) (success 192 0 false) (hollow ++ hollow)
    ∷ operation whole ([] ++ example) (lent 64) (success 64 1 true) folded
    -- one refused: `hollow` has 4 functions of 6 cells; a fault of the image check comes before an earlier site fault
    ∷ refuses whole (hollow ++ function (LoadI32 1024 5 ∷ []) []) (lent 128) 4 4 7
    ∷ refuses whole (hollow ++ function (MakeRecord (site 5) ∷ []) []) (lent 128) 24 4 5
    ∷ refuses whole (function (MakeRecord (site 5) ∷ []) [] ++ hollow) (lent 128) 24 0 5
    ∷ refuses whole (function (MakeRecord (site 5) ∷ []) [] ++ function (LoadI32 1024 5 ∷ []) []) (lent 64) 4 1 3
    ∷ refuses whole (hollow ++ example) (lent 159) 5 0 0
    -- what the default rewrite does the fuller one does too; it refuses as the default one
    ∷ operation fuller example (lent 64) (success 64 1 true) folded
    ∷ operation fuller (function (LoadI32 1 5 ∷ LoadBool 1 1 ∷ []) []) (lent 48) (success 32 1 true) (Head 7 1 0 ++ LoadBool 1 1 ++ lent 16)
    ∷ operation fuller [] [] (success 0 0 false) []
    ∷ refuses fuller (0 ∷ []) [] 1 0 0
    ∷ refuses fuller chain (lent 95) 5 0 0
    ∷ refuses fuller (cell []) (lent 15) 5 0 0
    ∷ refuses fuller (cell []) (lent 16) 2 0 0
    ∷ refuses fuller (chain ++ function (MakeRecord (site 5) ∷ []) []) (lent 128) 24 1 5
    ∷ []

pub operations_hold :
    map (λ (c : OperationCase). operation c.pass c.image c.before (reply_of (pass_answer c.pass c.image (length c.before))) (pass_output c.pass c.image c.before)) operations
    ≡ operations
unfolding over functions instruction_check event_check head_check rows class_of view load_cell site_of event_site site_by repeat_answer activation_answer judge_by clean_function clean_code clean_events clean_count default_table default_rules fuller_table fuller_rules note fold_function fold_code folds_of image_answer site_answer pass_bytes pass_count pass_check pass_answer pass_output wrap add_i32 meet quad_of float_of bits_of div_f64 Ieee.eq Ieee.div Ieee.of_bits Ieee.to_bits
operations_hold = refl

-- ---- two answers as one

abbrev pub answer : ℕ → ℕ → Bool → Rewrite
answer n count changed = Ok (record { length = n; report = (record { changed = changed; num_rewrites = count }) })

pub record SumCase : Type 0 where
  pub first : Rewrite
  pub second : Rewrite
  pub total : Rewrite

abbrev pub sums : List SumCase
sums =
    record { first = answer 64 1 true; second = answer 48 2 true; total = answer 112 3 true }
    ∷ record { first = answer 64 0 false; second = answer 48 2 true; total = answer 112 2 true }
    ∷ record { first = answer 64 1 true; second = answer 0 0 false; total = answer 64 1 true }
    ∷ record { first = answer 0 0 false; second = answer 0 0 false; total = answer 0 0 false }
    ∷ []

pub sums_hold : map (λ (c : SumCase). sum c.first c.second) sums ≡ map (λ (c : SumCase). c.total) sums
sums_hold = refl

-- ---- what is written, and where an image ends; cut elsewhere it may be refused twice

pub written_is : written whole (example ++ jumps) (lent 200) ≡ folded ++ jumps_cleaned
unfolding over functions instruction_check event_check head_check rows class_of view load_cell site_of event_site site_by repeat_answer activation_answer judge_by clean_function clean_code clean_events clean_count default_table default_rules note fold_function fold_code folds_of image_answer site_answer pass_bytes pass_count pass_check pass_answer pass_output wrap add_i32
written_is = refl

-- `example` is the first function of this one, `hollow` the first 4 of that one, and nothing the first 0 of any
pub example-ends : EndsFunction example jumps
unfolding functions
example-ends = (1, refl)

pub hollow-ends : EndsFunction hollow example
unfolding functions
hollow-ends = (4, refl)

pub nothing_ends : EndsFunction [] example
nothing_ends = (0, refl)

-- accepted whole: a head of no cells, cut after 8 bytes, is two refusals 1; a head that counts one instruction, and that instruction, two refusals 2
pub cut_inside :
    map (λ (s : List ℕ). reply_of (pass_answer whole s (length s))) (Head 7 0 0 ∷ take 8 (Head 7 0 0) ∷ drop 8 (Head 7 0 0) ∷ (Head 7 1 0 ++ Label 1) ∷ Head 7 1 0 ∷ Label 1 ∷ [])
    ≡ success 16 0 false ∷ refusal (numbered 1 0 0) ∷ refusal (numbered 1 0 0) ∷ success 32 0 false ∷ refusal (numbered 2 0 0) ∷ refusal (numbered 2 0 0) ∷ []
unfolding functions instruction_check event_check head_check rows class_of view load_cell site_of event_site site_by repeat_answer activation_answer judge_by clean_function clean_code clean_events clean_count default_table default_rules note fold_function fold_code folds_of image_answer site_answer pass_bytes pass_count pass_check pass_answer wrap add_i32
cut_inside = refl
