-- The checks of two images joined: an answer moves on with the functions and the cells before it.
use mathlib.Core.Path.{◌≡◌, refl, sym, ◌∙◌, ap, ap₂}
use mathlib.Core.Bool.{Bool, true, false, cond, ◌&&◌, not}
use mathlib.Core.List.{List, [], ◌∷◌, ◌++◌, append_assoc, append_cancel_left}
use Prim.Native.Nat.{ℕ, ◌+◌, ◌/◌, ◌%◌, ◌≤◌}
use native.Mathlib.Omega.{arith}
use borrow.Author.Tests.{le-leb}
use lib.Dec.{eqb, leb}
use lib.ListN.{length, take, drop, length-append, take-append-drop}
use lib.Seq.{take_at}
use Rattle.cells.specs.Answers.{or_else, unless, scan}
use Rattle.cells.specs.Bytes.{byte}
use Rattle.cells.specs.Cells.{Cell, cells, flat}
use Rattle.cells.specs.Check.{max_image, is_command, is_event_kind, is_head, row_ok, head_check, instruction_check, event_check}
use Rattle.cells.specs.Functions.{Function, there, functions, cells_of, cells_of_all}
use Rattle.cells.specs.Table.{event_row, head_row}
use Rattle.cells.specs.WellFormed.{WellFormed}
use Rattle.cells.specs.declared.refusal.Refusal.{Refusal}
use Rattle.cells.specs.declared.refusal.Refusal.TheVariants.{Length, Head, UnknownCommand, Operand, ActivationSiteRepeated, ActivationSiteOnWrite, ActivationSiteClaimedTwice, ActivationSitesDiffer, WriteSiteRepeated, WriteSiteUnclaimed, StoreVarSiteClaimedTwice, WriteSiteUnknown}
use Rattle.cells.specs.declared.walk.Part.{Part}
use Rattle.cells.specs.declared.walk.Part.TheVariants.{Code, Events}
use Rattle.cells.specs.Lists.{All}
use Rattle.cells.proofs.Answers.{or-good}
use Rattle.cells.proofs.Cells.{length-cells, length-flat, flat_append, flat-cells}
use Rattle.cells.proofs.Functions.{cells_of_functions}
use Rattle.cells.proofs.Lists.{all_parts}
use Rattle.sites.specs.Sites.{is_write, is_store_var, site_of, event_site, site_by, stands}
use Rattle.sites.specs.Validators.{judge_site, judge_command, repeat_answer, judge_activation, judge_event, activation_answer, judge_met, judge_kind, judge_claim, judge_by, rule_answer, standing, site_check}
use Rattle.sites.specs.declared.Which.{Which}
use Rattle.sites.specs.declared.Which.TheVariants.{Activation, Write}
use Rattle.sites.specs.declared.Rule.{Rule}
use Rattle.sites.specs.declared.Rule.TheVariants.{StoreVarClaimed, BorrowKnown, EventKind, WriteClaimed, WriteKnown}
use Rattle.image.specs.Image.{cell_check, cells_answer, function_answer, functions_answer, good_length, image_answer}
use Rattle.image.specs.SiteCheck.{sites_answer, site_answer, GoodSites, SitesPass}
use Rattle.image.specs.JoinedChecks.{moved, moved_answer, answer_behind, ChecksJoin, EndsFunction}
use Rattle.image.proofs.Steps.{accepted}
use Rattle.image.proofs.Good.{image_good, functions_joined}
use Rattle.image.proofs.Again.{all_full, formed_functions, formed_image, image_formed}
use Rattle.std.specs.Prelude.{Option, Some, None, Ok, Err}
use Rattle.cells.specs.Checked.{Checked}

-- c is a, moved on
record Moves (p d : ℕ) (a c : Checked) : Type 0 where
  is : c ≡ moved_answer p d a

moved-or : (p d : ℕ) (a b : Checked) → or_else (moved_answer p d a) (moved_answer p d b) ≡ moved_answer p d (or_else a b)
moved-or p d (Ok tt) b = refl
moved-or p d (Err x) b = refl

module _ (p d : ℕ) where
  good : Moves p d (Ok tt) (Ok tt)
  good = record { is = refl }

  both : {a b c e : Checked} → Moves p d a c → Moves p d b e → Moves p d (or_else a b) (or_else c e)
  both {a} {b} f g = record { is = ap₂ or_else f.is g.is ∙ moved-or p d a b }

  -- ---- the image check

  tested : (t u : Bool) (x y : Refusal) → Moves p d (cond t (unless u x) (Err y)) (cond t (unless u (moved p d x)) (Err (moved p d y)))
  tested true true x y = record { is = refl }
  tested true false x y = record { is = refl }
  tested false u x y = record { is = refl }

  head-moved : (q e n : ℕ) (c : Cell) → Moves p d (head_check q e n c) (head_check (p + q) (d + e) n c)
  unfolding head_check
  head-moved q e n c = tested (is_head n c) (row_ok head_row c) (Operand q e) (Head q e)

  cell-moved : (k : Part) (q e : ℕ) (c : Cell) → Moves p d (cell_check k q e c) (cell_check k (p + q) (d + e) c)
  unfolding instruction_check event_check
  cell-moved Code q e c = tested (is_command c) (row_ok (byte c 0) c) (Operand q e) (UnknownCommand q e)
  cell-moved Events q e c = tested (is_event_kind c) (row_ok event_row c) (Operand q e) (UnknownCommand q e)

  cells-moved : (k : Part) (q e n : ℕ) (cs : List Cell) → n ≡ d + e → Moves p d (cells_answer k q e cs) (cells_answer k (p + q) n cs)
  cells-moved k q e n [] h = good
  cells-moved k q e n (c ∷ cs) h =
      let m : Moves p d (cell_check k q e c) (cell_check k (p + q) n c) = rw h (cell-moved k q e c) in
      both m (cells-moved k q (e + 1) (n + 1) cs (omega arith))

  function-moved : (q e : ℕ) (f : Function) → Moves p d (function_answer q e f) (function_answer (p + q) (d + e) f)
  function-moved q e f =
      both (head-moved q e (there f) f.head)
      (both (cells-moved Code q (e + 1) (d + e + 1) f.code (omega arith))
      (cells-moved Events q (e + 1 + length f.code) (d + e + 1 + length f.code) f.events (omega arith)))

  functions-moved : (q e i n : ℕ) (fs : List Function) → i ≡ p + q → n ≡ d + e → Moves p d (functions_answer q e fs) (functions_answer i n fs)
  functions-moved q e i n [] g h = good
  functions-moved q e i n (f ∷ fs) g h =
      let m : Moves p d (function_answer q e f) (function_answer i n f) = rw (g, h) (function-moved q e f) in
      both m
      (functions-moved (q + 1) (e + 1 + length f.code + length f.events) (i + 1) (n + 1 + length f.code + length f.events) fs (omega arith) (omega arith))

  -- ---- the validators, whose refusals name no cell

  refuses : (t : Bool) (x : Refusal) {a b : Checked} → Moves p d a b → Moves p d (cond t (Err x) a) (cond t (Err (moved p d x)) b)
  refuses true x e = record { is = refl }
  refuses false x e = e

  scan-moved : (j k : List Cell → Cell → Checked) → ((es : List Cell) (c : Cell) → Moves p d (j es c) (k es c)) → (es cs : List Cell) → Moves p d (scan j es cs) (scan k es cs)
  scan-moved j k f es [] = good
  scan-moved j k f es (c ∷ cs) = both (f es c) (scan-moved j k f (es ++ c ∷ []) cs)

  module _ (q : ℕ) where
    site-moved : (w : Which) (es : List Cell) (s : Option ℕ) → Moves p d (judge_site w q es s) (judge_site w (p + q) es s)
    site-moved w es None = good
    site-moved Activation es (Some x) = refuses (stands (site_of Activation) x es) (ActivationSiteRepeated q x) good
    site-moved Write es (Some x) = refuses (stands (site_of Write) x es) (WriteSiteRepeated q x) good

    event_moved : (es : List Cell) (write : Bool) (s : Option ℕ) → Moves p d (judge_activation q es write s) (judge_activation (p + q) es write s)
    event_moved es write None = good
    event_moved es write (Some x) = refuses write (ActivationSiteOnWrite q x) (refuses (stands (event_site Activation) x es) (ActivationSiteClaimedTwice q x) good)

    met_moved : (w : Which) (count : ℕ → ℕ) (s : Option ℕ) → Moves p d (judge_met w q count s) (judge_met w (p + q) count s)
    met_moved w count None = good
    met_moved Activation count (Some x) = refuses (eqb (count x) 0) (ActivationSitesDiffer q) good
    met_moved Write count (Some x) = refuses (eqb (count x) 0) (WriteSiteUnknown q x) good

    kind_moved : (write : Bool) (s : Option ℕ) → Moves p d (judge_kind q write s) (judge_kind (p + q) write s)
    kind_moved true None = record { is = refl }
    kind_moved false None = good
    kind_moved true (Some x) = good
    kind_moved false (Some x) = record { is = refl }

    claim_moved : (count : ℕ → ℕ) (store : Bool) (s : Option ℕ) → Moves p d (judge_claim q count store s) (judge_claim (p + q) count store s)
    claim_moved count store None = good
    claim_moved count store (Some x) =
        refuses (eqb (count x) 0) (WriteSiteUnclaimed q x) (refuses (store && not (eqb (count x) 1)) (StoreVarSiteClaimedTwice q x) good)

    rule_moved : (r : Rule) (count : ℕ → ℕ) (c : Cell) → Moves p d (judge_by r q count c) (judge_by r (p + q) count c)
    unfolding judge_by
    rule_moved StoreVarClaimed count c = met_moved Activation count (site_by Code Activation c)
    rule_moved BorrowKnown count c = met_moved Activation count (site_by Events Activation c)
    rule_moved EventKind count c = kind_moved (is_write c) (site_by Events Write c)
    rule_moved WriteClaimed count c = claim_moved count (is_store_var c) (site_by Code Write c)
    rule_moved WriteKnown count c = met_moved Write count (site_by Events Write c)

    repeats_moved : (w : Which) (cs : List Cell) → Moves p d (repeat_answer w q cs) (repeat_answer w (p + q) cs)
    unfolding repeat_answer
    repeats_moved w cs = scan-moved (judge_command w q) (judge_command w (p + q)) (λ es c. site-moved w es (site_of w c)) [] cs

    claims_moved : (es : List Cell) → Moves p d (activation_answer q es) (activation_answer (p + q) es)
    unfolding activation_answer
    claims_moved es = scan-moved (judge_event q) (judge_event (p + q)) (λ before c. event_moved before (is_write c) (event_site Activation c)) [] es

    rules_moved : (r : Rule) (count : ℕ → ℕ) (cs : List Cell) → Moves p d (rule_answer r q count cs) (rule_answer r (p + q) count cs)
    rules_moved r count cs =
        scan-moved (λ (_ : List Cell) (c : Cell). judge_by r q count c) (λ (_ : List Cell) (c : Cell). judge_by r (p + q) count c) (λ _ c. rule_moved r count c) [] cs

    check_moved : (cs es : List Cell) → Moves p d (site_check q cs es) (site_check (p + q) cs es)
    check_moved cs es =
        both
        (both (repeats_moved Activation cs)
        (both (claims_moved es)
        (both (rules_moved StoreVarClaimed (standing Events Activation es) cs) (rules_moved BorrowKnown (standing Code Activation cs) es))))
        (both (repeats_moved Write cs)
        (both (rules_moved EventKind (standing Events Write es) es)
        (both (rules_moved WriteClaimed (standing Events Write es) cs) (rules_moved WriteKnown (standing Code Write cs) es))))

  sites_moved : (q i : ℕ) (fs : List Function) → i ≡ p + q → Moves p d (sites_answer q fs) (sites_answer i fs)
  sites_moved q i [] h = good
  sites_moved q i (f ∷ fs) h =
      let m : Moves p d (site_check q f.code f.events) (site_check i f.code f.events) = rw h (check_moved q f.code f.events) in
      both m (sites_moved (q + 1) (i + 1) fs (omega arith))

-- ---- functions one after another

or_assoc : (a b c : Checked) → or_else (or_else a b) c ≡ or_else a (or_else b c)
or_assoc (Ok tt) b c = refl
or_assoc (Err x) b c = refl

functions_then : (q e : ℕ) (fs gs : List Function)
    → functions_answer q e (fs ++ gs) ≡ or_else (functions_answer q e fs) (functions_answer (q + length fs) (e + length (cells_of_all fs)) gs)
functions_then q e [] gs = ap₂ (λ (i j : ℕ). functions_answer i j gs) (omega arith) (omega arith)
functions_then q e (f ∷ fs) gs =
    let n = e + 1 + length f.code + length f.events in
    let i : q + 1 + length fs ≡ q + length (f ∷ fs) = omega arith in
    let j : n + length (cells_of_all fs) ≡ e + length (cells_of_all (f ∷ fs)) = omega (arith, length-append (f.code ++ f.events) (cells_of_all fs), length-append f.code f.events) in
    ap (or_else (function_answer q e f)) (functions_then (q + 1) n fs gs ∙ ap₂ (λ (a b : ℕ). or_else (functions_answer (q + 1) n fs) (functions_answer a b gs)) i j)
    ∙ sym (or_assoc (function_answer q e f) (functions_answer (q + 1) n fs) (functions_answer (q + length (f ∷ fs)) (e + length (cells_of_all (f ∷ fs))) gs))

sites_then : (q : ℕ) (fs gs : List Function) → sites_answer q (fs ++ gs) ≡ or_else (sites_answer q fs) (sites_answer (q + length fs) gs)
sites_then q [] gs = ap (λ (i : ℕ). sites_answer i gs) (omega arith)
sites_then q (f ∷ fs) gs =
    let i : q + 1 + length fs ≡ q + length (f ∷ fs) = omega arith in
    ap (or_else (site_check q f.code f.events)) (sites_then (q + 1) fs gs ∙ ap (λ (a : ℕ). or_else (sites_answer (q + 1) fs) (sites_answer a gs)) i)
    ∙ sym (or_assoc (site_check q f.code f.events) (sites_answer (q + 1) fs) (sites_answer (q + length (f ∷ fs)) gs))

-- ---- two images

-- a test on the length before an answer
moved_test : (p d : ℕ) (t : Bool) (a b : Checked) → a ≡ moved_answer p d b → cond t a (Err Length) ≡ moved_answer p d (cond t b (Err Length))
moved_test p d true a b e = e
moved_test p d false a b e = refl

-- two answers with one between them, and without it where the first decides
or_between : (p d : ℕ) (i a v : Checked) → or_else (moved_answer p d i) (or_else a (moved_answer p d v)) ≡ or_else (moved_answer p d i) (or_else a (moved_answer p d (or_else i v)))
or_between p d (Ok tt) a v = refl
or_between p d (Err x) a v = refl

or_twice : (p d : ℕ) (i v : Checked) → or_else (moved_answer p d i) (moved_answer p d (or_else i v)) ≡ moved_answer p d (or_else i v)
or_twice p d (Ok tt) v = refl
or_twice p d (Err x) v = refl

module _ (s t : List ℕ) (g : image_answer s ≡ Ok tt) (short : length s + length t ≤ max_image) where
  joined_functions : functions (cells (s ++ t)) ≡ functions (cells s) ++ functions (cells t)
  joined_functions = functions_joined s t ((image_good s).0 g)

  joined_length : good_length (s ++ t) ≡ good_length t
  joined_length =
      let n = length-append s t in
      let e = (accepted s g).1 in
      let m : length (s ++ t) % 16 ≡ length t % 16 = omega (arith, n, e) in
      let a : leb (length (s ++ t)) max_image ≡ true = le-leb (length (s ++ t)) max_image (omega (arith, n)) in
      let b : leb (length t) max_image ≡ true = le-leb (length t) max_image (omega arith) in
      ap₂ (λ (u v : Bool). u && v) (a ∙ sym b) (ap (λ (i : ℕ). eqb i 0) m)

  count_cells : length (cells_of_all (functions (cells s))) ≡ length s / 16
  count_cells = ap length (cells_of_functions (cells s)) ∙ length-cells s

  functions-answer : functions_answer 0 0 (functions (cells (s ++ t))) ≡ answer_behind s (functions_answer 0 0 (functions (cells t)))
  functions-answer =
      let fs = functions (cells s) in
      let gs = functions (cells t) in
      ap (functions_answer 0 0) joined_functions ∙ functions_then 0 0 fs gs ∙ or-good _ (accepted s g).2
      ∙ (functions-moved (length fs) (length s / 16) 0 0 (0 + length fs) (0 + length (cells_of_all fs)) gs (omega arith) (omega (arith, count_cells))).is

  image_joined : image_answer (s ++ t) ≡ answer_behind s (image_answer t)
  unfolding image_answer
  image_joined =
      ap (λ (b : Bool). cond b (functions_answer 0 0 (functions (cells (s ++ t)))) (Err Length)) joined_length
      ∙ moved_test (length (functions (cells s))) (length s / 16) (good_length t) _ _ functions-answer

  sites_answer_lem : sites_answer 0 (functions (cells (s ++ t))) ≡ or_else (sites_answer 0 (functions (cells s))) (answer_behind s (sites_answer 0 (functions (cells t))))
  sites_answer_lem =
      let fs = functions (cells s) in
      let gs = functions (cells t) in
      ap (sites_answer 0) joined_functions ∙ sites_then 0 fs gs
      ∙ ap (or_else (sites_answer 0 fs)) (sites_moved (length fs) (length s / 16) 0 (0 + length fs) gs (omega arith)).is

  first_sites : sites_answer 0 (functions (cells s)) ≡ site_answer s
  unfolding site_answer
  first_sites = sym (or-good _ g)

  sites_joined : site_answer (s ++ t) ≡ or_else (answer_behind s (image_answer t)) (or_else (site_answer s) (answer_behind s (site_answer t)))
  unfolding site_answer
  sites_joined =
      ap₂ or_else image_joined (sites_answer_lem ∙ ap (λ (a : Checked). or_else a (answer_behind s (sites_answer 0 (functions (cells t))))) first_sites)
      ∙ or_between (length (functions (cells s))) (length s / 16) (image_answer t) (site_answer s) (sites_answer 0 (functions (cells t)))

  good_joined : site_answer s ≡ Ok tt → site_answer (s ++ t) ≡ answer_behind s (site_answer t)
  unfolding site_answer
  good_joined e =
      sites_joined ∙ ap (or_else (answer_behind s (image_answer t))) (or-good _ e)
      ∙ or_twice (length (functions (cells s))) (length s / 16) (image_answer t) (sites_answer 0 (functions (cells t)))

pub checks_joined : ChecksJoin
checks_joined s t g short = record {
  functions_of = joined_functions s t g short;
  image = image_joined s t g short;
  sites = sites_joined s t g short;
  behind_good = good_joined s t g short;
}

-- ---- an image that passes, cut where a function ends

pub cells_joined : (fs gs : List Function) → cells_of_all (fs ++ gs) ≡ cells_of_all fs ++ cells_of_all gs
cells_joined [] gs = refl
cells_joined (f ∷ fs) gs = ap (λ (t : List Cell). cells_of f ++ t) (cells_joined fs gs) ∙ sym (append_assoc (cells_of f) (cells_of_all fs) (cells_of_all gs))

formed_pass : (s : List ℕ) (fs : List Function) → s ≡ flat (cells_of_all fs) → All WellFormed fs → All GoodSites fs → length s ≤ max_image → SitesPass s
formed_pass s fs e w g l = rw e (record {
  image = formed_image fs w (omega (arith, ap length e, length-flat (cells_of_all fs) (all_full fs w)));
  sites = rw (formed_functions fs w) g;
})

-- the bytes of all functions of an image
functions-bytes : (s : List ℕ) → length s % 16 ≡ 0 → flat (cells_of_all (functions (cells s))) ≡ s
functions-bytes s e = ap flat (cells_of_functions (cells s)) ∙ flat-cells s e

module _ (s t : List ℕ) (g : SitesPass (s ++ t)) (k : ℕ) (e : s ≡ flat (cells_of_all (take k (functions (cells (s ++ t)))))) where
  all : List Function
  all = functions (cells (s ++ t))

  cut : take k all ++ drop k all ≡ all
  cut = take-append-drop k all

  second_bytes : t ≡ flat (cells_of_all (drop k all))
  unfolding all
  second_bytes =
      append_cancel_left s t (flat (cells_of_all (drop k all)))
      (sym (functions-bytes (s ++ t) g.image.even) ∙ sym (ap (λ (fs : List Function). flat (cells_of_all fs)) cut)
      ∙ ap flat (cells_joined (take k all) (drop k all)) ∙ flat_append (cells_of_all (take k all)) (cells_of_all (drop k all))
      ∙ ap (λ (u : List ℕ). u ++ flat (cells_of_all (drop k all))) (sym e))

  pub parts_pass : SitesPass s × SitesPass t
  unfolding all
  parts_pass =
      let n = length-append s t in
      let w = all_parts WellFormed (take k all) (drop k all) (rw cut (image_formed (s ++ t) g.image)) in
      let v = all_parts GoodSites (take k all) (drop k all) (rw cut g.sites) in (
        formed_pass s (take k all) e w.0 v.0 (omega (arith, n, g.image.short)),
        formed_pass t (drop k all) second_bytes w.1 v.1 (omega (arith, n, g.image.short)),
      )

-- an image that passes ends a function of whatever it is joined to
pub passed_ends : (s t : List ℕ) → SitesPass s → EndsFunction s t
passed_ends s t g =
    let fs = functions (cells s) in
    let e : take (length fs) (functions (cells (s ++ t))) ≡ fs = ap (take (length fs)) (functions_joined s t g.image) ∙ take_at fs (functions (cells t)) (length fs) refl in
    (length fs, sym (functions-bytes s g.image.even) ∙ sym (ap (λ (hs : List Function). flat (cells_of_all hs)) e))
